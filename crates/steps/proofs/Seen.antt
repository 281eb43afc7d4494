-- The state and the tables of the code against the state of the meaning, and the relation of what both readers give. Here and in the laws that are
-- built on this file, the code is its model, specs/Into, and the meaning is parser/specs/Definitions.
--     Sound               no token starts where none starts in the whole text
--     Ahead, First        the token ahead of the code is the first of the tokens left
--     Frame, At           the state and both tables stand where a forest has been read from a frame on
--     Meant               the code and the meaning both go on, with what Q says, or both refuse, with the same number and place
--     bind_m, here_m, last_m, cond_m, needs_m, grouped    a step and then the next one; by a test; where a token must be left; steps that the code groups otherwise
--     advance_ahead       one token further
--     few_left            the bytes left
--     small_bump, small_sum    the code's numbers are counted as they are
use mathlib.Core.Path.{◌≡◌, refl, sym, ap, ◌∙◌}
use mathlib.Core.Bool.{Bool, true, false, not, cond}
use mathlib.Core.List.{List, [], ◌∷◌, ◌++◌}
use Rattle.std.specs.Prelude.{Some, None}
use Prim.Native.Nat.{ℕ, suc, ◌+◌, ◌*◌, ◌-◌, ◌≤◌, ◌<◌}
use native.Mathlib.Omega.{arith}
use borrow.Author.Tests.{le-ltb, lt-ltb, le-leb}
use lib.Dec.{eqb}
use lib.ListN.{length}
use Rattle.token.specs.Code.{code}
use Rattle.lexer.specs.declared.location.Lexer.{Lexer}
use Rattle.lexer.specs.declared.location.Span.{Span}
use Rattle.lexer.specs.declared.location.LOC.{LOC}
use Rattle.lexer.specs.declared.location.ParserToken.{ParserToken}
use Rattle.lexer.specs.declared.location.Next.{Next}
use Rattle.lexer.specs.declared.location.Next.TheVariants as N
use Rattle.lexer.specs.Error.{UnexpectedEOF}
use Rattle.lexer.specs.Location.{Placed, span_of}
use Rattle.lexer.specs.Cuts.{cuts, unrecognized}
use Rattle.lexer.specs.Tokens as L
use Rattle.lexer.specs.Tokens.{Lexeme, tokens, lexeme_of}
use Rattle.lexer.proofs.NextLaws.{Stuck, next_placed, next_inside, next_ends, unrecognized_on, tokens_on, tokens_end, tokens_unrecognized}
use Rattle.ast.specs.Lists.{All}
use Rattle.ast.specs.Tree.{Forest}
use Rattle.ast.specs.Records.{comment_width, node_width, sizes, rows_of, owned, comment_rows_of}
use Rattle.ast.proofs.Counts.{Wide, note_counts}
use Rattle.steps.specs.declared.packed.Range.{Range}
use Rattle.steps.specs.declared.state.State.{State}
use Rattle.parser.specs.Steps.{kind, bytes, place, St, pos, Raised, raise, Res, ok, no, P, bind, test, needs, next}
use Rattle.parser.specs.Definitions.{is_id}
use Rattle.ast.specs.Largest.{bump}
use Rattle.steps.specs.Packed.{packed, unpacked, unpacked_loc}
use Rattle.steps.specs.Into.{Within, within, code_of, Out, done, stop, M, after, sum, lexer_at, look_at, found, found_at, ahead_of, advanced, bytes_left, is_id_at, numbered, token_of, loc_or}
use Rattle.steps.proofs.PackLaws.{unpacked_packed, loc_back, start_small, end_small}
use Rattle.steps.proofs.TableLaws.{lay}
use Rattle.steps.proofs.ForestLaws.{◌⊕◌}

-- ---- numbers that do not pass the largest

pub small_bump : (n : ℕ) → n < 4294967295 → bump n ≡ suc n
unfolding bump
small_bump n h = rw (lt-ltb n 4294967295 h) (omega arith)

pub small_sum : (a b : ℕ) → a + b ≤ 4294967295 → sum a b ≡ a + b
unfolding sum
small_sum a b h = rw (le-leb a (4294967295 - b) (omega arith))

-- ---- the token ahead

-- the code and the place of a token, of the text
pub record First (text : List ℕ) (k : ℕ) (l : Range) (t : Lexeme) : Type 0 where
  pub coded : k ≡ code (kind t)
  pub placed : unpacked_loc l ≡ place t
  pub spelled : is_id_at text (place t) ≡ is_id (bytes t)

-- behind the lexer's offset no token starts at the same place as in the whole text, if there is one
abbrev pub Sound : List ℕ → Lexer → Type 0
Sound text x = Stuck text x ≡ unrecognized (cuts text) 0

-- the tokens left, with the code's kind, place and lexer
pub data Ahead (text : List ℕ) (k : ℕ) (l : Range) (x : Lexer) : List Lexeme → Type 0 where
  over : k ≡ 255 → Sound text x → Ahead text k l x []
  on : {t : Lexeme} {ts : List Lexeme} → First text k l t → ts ≡ tokens text x → Placed x → 0 < x.at → Sound text x → Ahead text k l x (t ∷ ts)

abbrev pub AheadOf : List ℕ → State → List Lexeme → Type 0
AheadOf text st ts = Ahead text (code_of st) st.loc (lexer_at (unpacked st.loc.end)) ts

-- what an advance keeps
pub record Moved (st : State) (r : State) : Type 0 where
  pub last : r.last ≡ st.loc
  pub next : r.next ≡ st.next
  pub owned : r.owned ≡ st.owned
  pub waiting : r.waiting ≡ st.waiting

spelled_at : (text : List ℕ) (p : ParserToken) → p.loc.start.index ≤ p.loc.end.index → p.loc.end.index ≤ length text
    → is_id_at text p.loc ≡ is_id (bytes (lexeme_of text p))
unfolding is_id_at bytes lexeme_of
spelled_at text p h g = rw (le-ltb _ _ g, le-ltb _ _ h)

-- the lexer at the end of a token is the one behind it
pub lexer_span : (s : Lexer) → s.origin ≤ s.at → lexer_at (span_of s) ≡ s
unfolding lexer_at span_of
lexer_span s h =
    let a : s.line + 1 - 1 ≡ s.line = omega arith in
    let b : s.at - (s.at - s.origin + 1 - 1) ≡ s.origin = omega arith in
    rw (a, b)

module _ (text : List ℕ) (short : length text ≤ 65536) where
  look : (e : Span) → Placed (lexer_at e) → look_at text e ≡ L.next text (lexer_at e)
  unfolding look_at
  look e h = rw (le-ltb 65536 (length text) short, le-ltb 65536 (lexer_at e).at h.below, le-ltb (lexer_at e).at (lexer_at e).line h.lines)

  ahead_by : (r : Next) (st : State) → let x = lexer_at (unpacked st.loc.end) in Placed x → Sound text x → L.next text x ≡ r
      → AheadOf text (ahead_of (found r) st) (tokens text x)
  unfolding ahead_of found kind place lexeme_of numbered token_of loc_or
  ahead_by (N.On p s) st h q e =
      let x = lexer_at (unpacked st.loc.end) in
      let i = next_inside text x s p e in
      let z = next_placed text x s p h short e in
      let a = start_small text x s p h short e in
      let b = end_small text x s p h short e in
      let y : lexer_at (unpacked (packed p.loc.end)) ≡ s =
      ap lexer_at (unpacked_packed p.loc.end b ∙ next_ends text x s p e) ∙ lexer_span s z.line_begun in
      rw (tokens_on text x s p e, y)
      (on (record { coded = refl; placed = loc_back p.loc a b; spelled = spelled_at text p (omega (arith, i.1)) (omega (arith, i.2, i.3)) })
      refl z (omega (arith, i.1, i.2)) (sym (unrecognized_on text x s p e) ∙ q))
  ahead_by N.End st h q e = rw (tokens_end text (lexer_at (unpacked st.loc.end)) e) (over refl q)
  ahead_by (N.Unrecognized p) st h q e = rw (tokens_unrecognized text (lexer_at (unpacked st.loc.end)) p e) (over refl q)

  pub advance_ahead : (st : State) → let x = lexer_at (unpacked st.loc.end) in Placed x → Sound text x → AheadOf text (advanced text st) (tokens text x)
  unfolding advanced found_at
  advance_ahead st h q =
      let e = unpacked st.loc.end in
      rw (look e h) (ahead_by (L.next text (lexer_at e)) st h q refl)

-- fewer bytes are left than a list of the definitions has turns
pub few_left : {text : List ℕ} {ts : List Lexeme} (st : State) → length text ≤ 65536 → AheadOf text st ts → bytes_left text st < 65537
unfolding bytes_left lexer_at
few_left st short (over e q) = rw e (omega arith)
few_left {text} st short (on h e x a q) = left (eqb (code_of st) 255)
  where
    left : (b : Bool) → cond b 0 (suc (length text - (unpacked st.loc.end).index)) < 65537
    left true = omega arith
    left false = omega arith

pub moved : (text : List ℕ) (st : State) → Moved st (advanced text st)
unfolding advanced ahead_of
moved text st = record { last = refl; next = refl; owned = refl; waiting = refl }

-- ---- where both stand

abbrev pub last_of : St → LOC
last_of (pos l c ts) = l

abbrev pub waiting_of : St → List Lexeme
waiting_of (pos l c ts) = c

abbrev pub left_of : St → List Lexeme
left_of (pos l c ts) = ts

-- the number of the next node, the node table, the comments that have an owner, the comment table without them
pub record Frame : Type 0 where
  pub number : ℕ
  pub nodes : List ℕ
  pub owned : List (List ℕ)
  pub comments : List ℕ

-- the forest f was read from the frame on, its trees' parent being p, into a table whose first record is node b; the numbers of nodes
-- and comments stay small: at least i nodes more than those that the tokens left can have
pub record At (text : List ℕ) (i b p : ℕ) (frame : Frame) (f : Forest) (st : State) (t u : List ℕ) (s : St) : Type 0 where
  pub last : unpacked_loc st.last ≡ last_of s
  pub ahead : AheadOf text st (left_of s)
  pub next : st.next ≡ frame.number + sizes f
  pub nodes : t ≡ lay node_width (frame.number - b) (rows_of f p frame.number) frame.nodes
  pub count : st.owned ≡ length frame.owned + note_counts f
  pub waits : st.waiting ≡ length (waiting_of s)
  pub comments : u ≡ lay comment_width 0 ((frame.owned ++ comment_rows_of f frame.number) ++ owned 0 (waiting_of s)) frame.comments
  pub credit : st.next + 2 * length (left_of s) + i ≤ 131080
  pub space : st.owned + (length (waiting_of s) + length (left_of s)) ≤ 65536
  pub based : b ≤ frame.number
  pub wide : All (Wide comment_width) frame.owned

-- with less to spare
pub fewer : {text : List ℕ} {i j b p : ℕ} {fr : Frame} {f : Forest} {st : State} {t u : List ℕ} {s : St} → j ≤ i → At text i b p fr f st t u s
    → At text j b p fr f st t u s
fewer l h =
    record {
      last = h.last;
      ahead = h.ahead;
      next = h.next;
      nodes = h.nodes;
      count = h.count;
      waits = h.waits;
      comments = h.comments;
      credit = omega (arith, h.credit);
      space = h.space;
      based = h.based;
      wide = h.wide;
    }

pub less : {text : List ℕ} {i b p : ℕ} {fr : Frame} {f : Forest} {st : State} {t u : List ℕ} {s : St} → At text (suc i) b p fr f st t u s
    → At text i b p fr f st t u s
less h = fewer (omega arith) h

-- the same forest, said otherwise
pub regrown : {text : List ℕ} {i b p : ℕ} {fr : Frame} {f g : Forest} {st : State} {t u : List ℕ} {s : St} → f ≡ g → At text i b p fr f st t u s
    → At text i b p fr g st t u s
regrown e h = rw e at h

-- ---- what both give

-- the number that the code's steps carry: with no token left 3
abbrev pub number : Raised → ℕ
number (raise e None) = UnexpectedEOF
number (raise e (Some t)) = e

pub data Meant {A : Type 0} (Q : A → State → List ℕ → List ℕ → St → Type 0) : Out → Res A → Type 0 where
  went : {a : A} {st : State} {t u : List ℕ} {s : St} → Q a st t u s → Meant Q (done st t u) (ok a s)
  halted : {r : Raised} {l : Range} {st : State} {t u : List ℕ} → Meant Q (stop (number r) l st t u) (no r (unpacked_loc l))

module _ {A B : Type 0} {Q : A → State → List ℕ → List ℕ → St → Type 0} {R : B → State → List ℕ → List ℕ → St → Type 0} where
  pub bind_m : {o : Out} {r : Res A} {k : M} {f : A → P B} → Meant Q o r
      → ((a : A) (st : State) (t u : List ℕ) (s : St) → Q a st t u s → Meant R (k st t u) (f a s)) → Meant R (after o k) (bind r f)
  unfolding after bind
  bind_m (went {a = a} {st = st} {t = t} {u = u} {s = s} q) g = g a st t u s q
  bind_m halted g = halted

  -- the same where the code has no step of its own: it goes on from the state that it is in
  pub here_m : {st : State} {t u : List ℕ} {r : Res A} {k : M} {f : A → P B} → Meant Q (done st t u) r
      → ((a : A) (st : State) (t u : List ℕ) (s : St) → Q a st t u s → Meant R (k st t u) (f a s)) → Meant R (k st t u) (bind r f)
  unfolding bind
  here_m (went {a = a} {st = st} {t = t} {u = u} {s = s} q) g = g a st t u s q

  -- the code's last step
  pub last_m : {o : Out} {r : Res A} {f : A → P B} → Meant Q o r
      → ((a : A) (st : State) (t u : List ℕ) (s : St) → Q a st t u s → Meant R (done st t u) (f a s)) → Meant R o (bind r f)
  unfolding bind
  last_m (went {a = a} {st = st} {t = t} {u = u} {s = s} q) g = g a st t u s q
  last_m halted g = halted

pub weak_m : {A : Type 0} {Q R : A → State → List ℕ → List ℕ → St → Type 0} {o : Out} {r : Res A}
    → ((a : A) (st : State) (t u : List ℕ) (s : St) → Q a st t u s → R a st t u s) → Meant Q o r → Meant R o r
weak_m g (went {a = a} {st = st} {t = t} {u = u} {s = s} q) = went (g a st t u s q)
weak_m g halted = halted

-- with the bytes that the code leaves
pub within_m : {A : Type 0} {Q : A → State → List ℕ → List ℕ → St → Type 0} {text : List ℕ} {x b : ℕ} {o : Out} {r : Res A} → Meant Q o r → Within text x b o
    → Meant (λ a st t u s. Q a st t u s × (x + bytes_left text st ≤ b)) o r
within_m (went q) (within h) = went (q, h)
within_m halted h = halted

pub next_none : {A : Type 0} (k : Lexeme → P A) (l : LOC) (c : List Lexeme) → bind (next (pos l c [])) k ≡ no (raise UnexpectedEOF None) l
unfolding next bind
next_none k l c = refl

module _ {A : Type 0} {Q : A → State → List ℕ → List ℕ → St → Type 0} where
  pub cond_m : {o v : Out} (p q : P A) (s : St) (c b : Bool) → c ≡ b → (b ≡ true → Meant Q o (p s)) → (b ≡ false → Meant Q v (q s))
      → Meant Q (cond c o v) (test b p q s)
  unfolding test
  cond_m p q s c true e f g = rw e (f refl)
  cond_m p q s c false e f g = rw e (g refl)

  -- by a test whose branches the code has the other way round
  pub unless_m : {o v : Out} (p q : P A) (s : St) (c b : Bool) → c ≡ not b → (b ≡ true → Meant Q v (p s)) → (b ≡ false → Meant Q o (q s))
      → Meant Q (cond c o v) (test b p q s)
  unfolding test
  unless_m p q s c true e f g = rw e (f refl)
  unless_m p q s c false e f g = rw e (g refl)

  -- where no token is left both refuse alike, whatever is raised there
  gone : (k e : ℕ) {o : Out} {l : LOC} → Meant Q o (no (raise k None) l) → Meant Q o (no (raise e None) l)
  gone k e halted = halted

  pub needs_m : (k e : ℕ) (p : P A) {o : Out} (s : St) → ((l : LOC) (c : List Lexeme) → p (pos l c []) ≡ no (raise k None) l) → Meant Q o (p s)
      → Meant Q o (needs e p s)
  needs_m k e p (pos l c []) z h = gone k e (rw (z l c) at h)
  needs_m k e p (pos l c (t ∷ ts)) z h = h

  pub grouped : (o : Out) (k j : M) {r : Res A} → Meant Q (after o (λ st t u. after (k st t u) j)) r → Meant Q (after (after o k) j) r
  unfolding after
  grouped (done st t u) k j h = h
  grouped (stop e l st t u) k j h = h

-- a reader of the code means a reader of the definitions that gives the forest G, for nodes of the parent p in a table whose first record is node b
abbrev pub Means : {A : Type 0} → List ℕ → ℕ → ℕ → ℕ → (A → Forest) → M → P A → Type 0
Means text i b p G m q =
    (fr : Frame) (f : Forest) (st : State) (t u : List ℕ) (s : St) → At text i b p fr f st t u s → Meant (λ a. At text i b p fr (f ⊕ G a)) (m st t u) (q s)
