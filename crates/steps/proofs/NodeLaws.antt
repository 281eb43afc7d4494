-- Nodes: the code (its model, specs/Into) writes the records of a node's children and then the node's own, and that is the tree.
--     open_at, own_at     a node begins; and the comments that wait are its own
--     finish_at           its own record, behind its children's
--     leaf_at, leaf_m    a node that is one token
--     Turn, loop_m        a list of members, until a state that closes
use mathlib.Core.Path.{◌≡◌, refl, sym, ap, ◌∙◌}
use mathlib.Core.Bool.{Bool, true, false, cond, false≢true}
use mathlib.Core.List.{List, [], ◌∷◌, ◌++◌, append_assoc, append-nil}
use Prim.Native.Nat.{ℕ, zero, suc, ◌+◌, ◌-◌, ◌≤◌, ◌<◌}
use native.Mathlib.Omega.{arith}
use native.Mathlib.Nat.{zero-add}
use lib.Dec.{eqb}
use lib.ListN.{length, length-append}
use Rattle.token.specs.Code.{code}
use Rattle.token.specs.declared.Token.{Token}
use Rattle.lexer.specs.declared.location.LOC.{LOC}
use Rattle.lexer.specs.Tokens.{Lexeme, lexeme}
use Rattle.ast.specs.Largest.{bump}
use Rattle.ast.specs.Tree.{Tree, node, Forest, bare, grown, leaf, single}
use Rattle.ast.specs.Records.{comment_width, node_width, node_row, size, sizes, rows_of, owned, comment_rows_of}
use Rattle.ast.proofs.Counts.{node_row_width, forest_wide, comments_wide, owned_wide, owned_count, append_all, note_counts, note_counts_law, rows_sizes}
use Rattle.steps.specs.declared.packed.Range.{Range}
use Rattle.steps.specs.declared.state.State.{State}
use Rattle.parser.specs.Steps.{place, span, St, pos, Raised, Res, ok, no, P, bind, test, next, when, peek, closed, loop, many}
use Rattle.steps.specs.Packed.{unpacked, unpacked_loc}
use Rattle.steps.specs.Into.{
  Within,
  within,
  Falls,
  Rests,
  code_of,
  Out,
  done,
  stop,
  M,
  after,
  sum,
  put,
  place_of,
  opened,
  leaf_in,
  put_node,
  advanced,
  take_in,
  bytes_left,
  owners,
  owns,
  loop_in,
  closes_at,
}
use Rattle.parser.proofs.KindLaws.{one_test}
use Rattle.steps.proofs.TableLaws.{lay, lay_append, put_lay, owners_lay, node_some, comment_some}
use Rattle.steps.proofs.ForestLaws.{◌⊕◌, plus_bare, plus_assoc, sizes_plus, counts_plus, rows_plus, notes_plus}
use Rattle.steps.proofs.Seen.{small_bump, small_sum, last_of, waiting_of, Frame, At, less, regrown, few_left, number, Meant, went, halted, within_m, bind_m, last_m}
use Rattle.steps.proofs.StepLaws.{some_ahead, tested, step_at, Wanted, emptied}
use Rattle.steps.proofs.Bytes.{weak_w}
use Rattle.steps.proofs.LoopForms.{loop_is}

-- ---- a node begins

-- the comments that have an owner, so far
abbrev pub rows_at : Frame → Forest → List (List ℕ)
rows_at fr f = fr.owned ++ comment_rows_of f fr.number

pub rows_at_law : (fr : Frame) (f : Forest) → length (rows_at fr f) ≡ length fr.owned + note_counts f
rows_at_law fr f = omega (arith, length-append fr.owned (comment_rows_of f fr.number), note_counts_law f fr.number)

-- inside the node n that owns the comments c, in front of its children
abbrev pub inside : Frame → Forest → ℕ → List ℕ → List Lexeme → Frame
inside fr f n t c = record { number = suc n; nodes = t; owned = rows_at fr f ++ owned n c; comments = fr.comments }

pub open_at : {text : List ℕ} {i b p : ℕ} {fr : Frame} {f : Forest} {st : State} {t u : List ℕ} {s : St}
    → At text (suc i) b p fr f st t u s → At text i b st.next (inside fr f st.next t []) bare (opened st) t u s
unfolding opened lay rows_of comment_rows_of sizes note_counts owned
open_at {fr = fr} {f = f} {st = st} h =
    let m : bump st.next ≡ suc st.next = small_bump st.next (omega (arith, h.credit)) in
    record {
      last = h.last;
      ahead = h.ahead;
      next = m ∙ omega arith;
      nodes = refl;
      count = rw (append-nil) (omega (arith, h.count, rows_at_law fr f));
      waits = h.waits;
      comments = rw (append-nil (rows_at fr f ++ []), append-nil (rows_at fr f)) h.comments;
      credit = omega (arith, h.credit, m);
      space = h.space;
      based = omega (arith, h.based, h.next);
      wide = rw (append-nil) (append_all h.wide (comments_wide f fr.number));
    }

-- the comments that wait are the node's
pub own_at : {text : List ℕ} {i b p : ℕ} {fr : Frame} {f : Forest} {st : State} {t u : List ℕ} (s : St)
    → At text (suc i) b p fr f st t u s
    → At text i b st.next (inside fr f st.next t (waiting_of s)) bare (owns (opened st)) t (owners st.owned st.waiting st.next u) (emptied s)
unfolding opened owns lay rows_of comment_rows_of sizes note_counts owned
own_at {fr = fr} {f = f} {st = st} {u = u} (pos l c ts) h =
    let m : bump st.next ≡ suc st.next = small_bump st.next (omega (arith, h.credit)) in
    let a : sum st.owned st.waiting ≡ st.owned + st.waiting = small_sum st.owned st.waiting (omega (arith, h.space, h.waits)) in
    let xs = rows_at fr f in
    let n = st.next in
    let z : st.owned ≡ length xs = omega (arith, h.count, rows_at_law fr f) in
    let y : (q : ℕ) → lay comment_width 0 (xs ++ owned q c) fr.comments ≡ lay comment_width (length xs) (owned q c) (lay comment_width 0 xs fr.comments) =
    λ q. lay_append comment_width comment_some 0 xs (owned q c) fr.comments ∙ ap (λ (k : ℕ). lay comment_width k (owned q c) (lay comment_width 0 xs fr.comments)) (zero-add (length xs)) in
    record {
      last = h.last;
      ahead = h.ahead;
      next = m ∙ omega arith;
      nodes = refl;
      count = a ∙ omega (arith, z, h.waits, length-append xs (owned n c), owned_count n c);
      waits = refl;
      comments =
          rw (append-nil ((xs ++ owned n c) ++ []), append-nil (xs ++ owned n c))
          (ap (λ (v : List ℕ). owners st.owned st.waiting n v) (h.comments ∙ y 0)
          ∙ ap (λ (k : ℕ). owners k st.waiting n (lay comment_width (length xs) (owned 0 c) (lay comment_width 0 xs fr.comments))) z
          ∙ ap (λ (k : ℕ). owners (length xs) k n (lay comment_width (length xs) (owned 0 c) (lay comment_width 0 xs fr.comments))) h.waits
          ∙ owners_lay (length xs) n c (lay comment_width 0 xs fr.comments) ∙ sym (y n));
      credit = omega (arith, h.credit, m);
      space = omega (arith, h.space, a, h.waits);
      based = omega (arith, h.based, h.next);
      wide = append_all (append_all h.wide (comments_wide f fr.number)) (owned_wide n c);
    }

-- ---- a node is finished

module _ (k fl : ℕ) (l : LOC) (w : List ℕ) (c : List Lexeme) (g : Forest) where
  one_size : (f : Forest) → sizes (f ⊕ single (node k fl l w c g)) ≡ sizes f + suc (sizes g)
  unfolding single sizes
  one_size f = sizes_plus f (grown (node k fl l w c g) bare) ∙ omega arith

  one_count : (f : Forest) → note_counts (f ⊕ single (node k fl l w c g)) ≡ note_counts f + (length c + note_counts g)
  unfolding single note_counts
  one_count f = counts_plus f (grown (node k fl l w c g) bare) ∙ omega arith

  one_rows : (f : Forest) (p m n : ℕ) → n ≡ m + sizes f → rows_of (f ⊕ single (node k fl l w c g)) p m ≡ rows_of f p m ++ (node_row k p fl l (n + suc (sizes g)) ∷ rows_of g n (suc n))
  unfolding single rows_of size
  one_rows f p m n e = rw e (rows_plus f (grown (node k fl l w c g) bare) p m ∙ ap (λ (x : List (List ℕ)). rows_of f p m ++ x) (append-nil _))

  one_notes : (f : Forest) (m n : ℕ) → n ≡ m + sizes f
      → comment_rows_of (f ⊕ single (node k fl l w c g)) m ≡ comment_rows_of f m ++ (owned n c ++ comment_rows_of g (suc n))
  unfolding single comment_rows_of
  one_notes f m n e = rw e (notes_plus f (grown (node k fl l w c g) bare) m ∙ ap (λ (x : List (List ℕ)). comment_rows_of f m ++ x) (append-nil _))

regroup : (a b c d : List (List ℕ)) → ((a ++ b) ++ c) ++ d ≡ a ++ (b ++ (c ++ d))
regroup a b c d = simp append_assoc

pub finish_at : {text : List ℕ} {i j b p : ℕ} {fr : Frame} {f g : Forest} {st st' : State} {t t' u u' : List ℕ} {s s' : St}
    (k fl : ℕ) (a : LOC) (x : ℕ) (w : List ℕ) (c : List Lexeme)
    → At text i b p fr f st t u s → At text j b st.next (inside fr f st.next t c) g st' t' u' s' → unpacked x ≡ a.start
    → At text j b p fr (f ⊕ single (node k fl (span a (last_of s')) w c g)) st' (put_node st.next k fl x b p st' t') u' s'
unfolding put_node place_of span
finish_at {b = b} {p = p} {fr = fr} {f = f} {g = g} {st = st} {st' = st'} {t = t} {t' = t'} {s' = s'} k fl a x w c h d e =
    let n = st.next in
    let l = span a (last_of s') in
    let past : st'.next ≡ n + suc (sizes g) = d.next ∙ omega arith in
    let r = node_row k p fl l (n + suc (sizes g)) in
    let q : fr.number - b + length (rows_of f p fr.number) ≡ n - b = omega (arith, h.next, h.based, rows_sizes f p fr.number) in
    let v : suc n - b ≡ suc (n - b) = omega (arith, h.next, h.based) in
    let z : (rows_at fr f ++ owned n c) ++ comment_rows_of g (suc n) ≡ fr.owned ++ comment_rows_of (f ⊕ single (node k fl l w c g)) fr.number =
    regroup fr.owned (comment_rows_of f fr.number) (owned n c) (comment_rows_of g (suc n))
    ∙ ap (λ (y : List (List ℕ)). fr.owned ++ y) (sym (one_notes k fl l w c g f fr.number n h.next)) in
    record {
      last = d.last;
      ahead = d.ahead;
      next = d.next ∙ omega (arith, h.next, one_size k fl l w c g f);
      nodes =
          rw (e, ap (λ (y : LOC). y.end) d.last, past)
          (ap (put node_width (n - b) r) (d.nodes ∙ ap (λ (y : ℕ). lay node_width y (rows_of g n (suc n)) t) v)
          ∙ put_lay node_width node_some (n - b) r t (node_row_width k p fl l _) (forest_wide g n (suc n))
          ∙ ap (lay node_width (n - b) (r ∷ rows_of g n (suc n))) h.nodes
          ∙ ap (λ (y : ℕ). lay node_width y (r ∷ rows_of g n (suc n)) (lay node_width (fr.number - b) (rows_of f p fr.number) fr.nodes)) (sym q)
          ∙ sym (lay_append node_width node_some (fr.number - b) (rows_of f p fr.number) (r ∷ rows_of g n (suc n)) fr.nodes)
          ∙ ap (λ (y : List (List ℕ)). lay node_width (fr.number - b) y fr.nodes) (sym (one_rows k fl l w c g f p fr.number n h.next)));
      count = d.count ∙ omega (arith, one_count k fl l w c g f, rows_at_law fr f, length-append (rows_at fr f) (owned n c), owned_count n c);
      waits = d.waits;
      comments = d.comments ∙ ap (λ (y : List (List ℕ)). lay comment_width 0 (y ++ owned 0 (waiting_of s')) fr.comments) z;
      credit = d.credit;
      space = d.space;
      based = h.based;
      wide = h.wide;
    }

-- ---- a node that is one token

pub leaf_at : {text : List ℕ} {i b p : ℕ} {fr : Frame} {f : Forest} {st : State} {t u : List ℕ} {s : St} (k : ℕ) (tok : Lexeme)
    → At text (suc i) b p fr f st t u s → last_of s ≡ place tok
    → At text i b p fr (f ⊕ single (leaf k tok)) (opened st) (put node_width (place_of b st.next) (node_row k p 0 (unpacked_loc st.last) (opened st).next) t) u s
unfolding leaf place opened put_node span
leaf_at {f = f} {st = st} {s = s} k (lexeme q w l) h e =
    rw e at (finish_at k 0 (last_of s) st.last.start w [] h (open_at h) (ap (λ (x : LOC). x.start) h.last))

-- a token was taken: it is a node of the kind k
pub leaf_m : {ks : List Token} {text : List ℕ} {i b p : ℕ} {fr : Frame} {f : Forest} {before : State} {o : Out} {r : Res Lexeme} (k : ℕ)
    → Meant (Wanted ks text (suc i) b p fr f before) o r
    → Meant (λ tok. Wanted ks text i b p fr (f ⊕ single (leaf k tok)) before tok) (after o (leaf_in k b p)) r
unfolding after leaf_in
leaf_m k (went {a = tok} h) = went (record { at = leaf_at k tok h.at h.there; there = h.there; first = h.first; kinds = h.kinds })
leaf_m k halted = halted

-- ---- lists

-- a turn of the loop: it closes, and the code's closing step goes on or refuses; or a member follows
pub data Turn (text : List ℕ) (i b p : ℕ) (fr : Frame) (f : Forest) (closes : State → Bool) (shut : M) : Out → Res Bool → Type 0 where
  shuts : {st st' : State} {t u t' u' : List ℕ} {s : St} → closes st ≡ true → shut st t u ≡ done st' t' u' → At text i b p fr f st' t' u' s
      → Turn text i b p fr f closes shut (done st t u) (ok true s)
  refuses : {st : State} {t u : List ℕ} {r : Raised} {l : Range} → closes st ≡ true → shut st t u ≡ stop (number r) l st t u
      → Turn text i b p fr f closes shut (done st t u) (no r (unpacked_loc l))
  goes : {st : State} {t u : List ℕ} {s : St} → closes st ≡ false → At text i b p fr f st t u s → Turn text i b p fr f closes shut (done st t u) (ok false s)
  halts : {r : Raised} {l : Range} {st : State} {t u : List ℕ} → Turn text i b p fr f closes shut (stop (number r) l st t u) (no r (unpacked_loc l))

module _ {text : List ℕ} {i b p : ℕ} {fr : Frame} {f : Forest} {closes : State → Bool} {shut : M} {A : Type 0} {Q : A → State → List ℕ → List ℕ → St → Type 0} where
  pub turn_after : {o : Out} {r : Res A} {k : M} {g : A → P Bool} → Meant Q o r
      → ((a : A) (st : State) (t u : List ℕ) (s : St) → Q a st t u s → Turn text i b p fr f closes shut (k st t u) (g a s))
      → Turn text i b p fr f closes shut (after o k) (bind r g)
  unfolding after bind
  turn_after (went {a = a} {st = st} {t = t} {u = u} {s = s} q) g = g a st t u s q
  turn_after halted g = halts

  pub turn_last : {o : Out} {r : Res A} {g : A → P Bool} → Meant Q o r
      → ((a : A) (st : State) (t u : List ℕ) (s : St) → Q a st t u s → Turn text i b p fr f closes shut (done st t u) (g a s))
      → Turn text i b p fr f closes shut o (bind r g)
  unfolding bind
  turn_last (went {a = a} {st = st} {t = t} {u = u} {s = s} q) g = g a st t u s q
  turn_last halted g = halts

take_known : (text : List ℕ) (st : State) (t u : List ℕ) → eqb (code_of st) 255 ≡ false → take_in text st t u ≡ done (advanced text st) t u
unfolding take_in
take_known text st t u e = rw e

-- the closing token is taken
closed_by : (text : List ℕ) (short : length text ≤ 65536) {i b p : ℕ} {fr : Frame} {f : Forest} {st : State} {t u : List ℕ} (k : Token) (s : St)
    → At text i b p fr f st t u s
    → (z : Bool) → peek (k ∷ []) s ≡ z → Turn text i b p fr f (closes_at (code k)) (take_in text) (done st t u) (closed k s)
unfolding closed closes_at when test next bind peek
closed_by text short k s h false e = rw e (goes (tested s (one_test k) h.ahead ∙ e) h)
closed_by text short k (pos l c []) h true e = absurd (false≢true e)
closed_by text short {st = st} {t = t} {u = u} k (pos l c (tok ∷ ts)) h true e =
    rw e (shuts (tested (pos l c (tok ∷ ts)) (one_test k) h.ahead ∙ e) (take_known text st t u (some_ahead h.ahead)) (less (less (step_at text short h))))

pub closed_turn : (text : List ℕ) (short : length text ≤ 65536) {i b p : ℕ} {fr : Frame} {f : Forest} {st : State} {t u : List ℕ} (k : Token) (s : St)
    → At text i b p fr f st t u s
    → Turn text i b p fr f (closes_at (code k)) (take_in text) (done st t u) (closed k s)
closed_turn text short k s h = closed_by text short k s h (peek (k ∷ []) s) refl

module _ {text : List ℕ} {A B : Type 0} (G : A → Tree) (H : B → Forest) (closes : State → Bool) (skips shut member : M)
    (rests : Rests text skips) (falls : Falls text member)
    (e : B) (c : A → B → B) (end : P Bool) (q : P A) {i b p : ℕ} {fr : Frame}
    (He : H e ≡ bare) (Hc : (a : A) (x : B) → H (c a x) ≡ grown (G a) (H x))
    (turns : (f : Forest) (st : State) (t u : List ℕ) (s : St) → At text i b p fr f st t u s → Turn text i b p fr f closes shut (skips st t u) (end s))
    (members : (f : Forest) (st : State) (t u : List ℕ) (s : St) → At text i b p fr f st t u s → Meant (λ a. At text i b p fr (f ⊕ single (G a))) (member st t u) (q s)) where
  -- with more turns for the definitions than there are bytes left
  Loops : ℕ → Type 0
  Loops n = (f : Forest) (st : State) (t u : List ℕ) (s : St) → At text i b p fr f st t u s → bytes_left text st < n
      → Meant (λ x. At text i b p fr (f ⊕ H x)) (loop_in text closes skips shut member st t u) (loop e c end q n s)

  -- what is left of the loop, behind a turn
  turned : (n : ℕ) → Loops n → (f : Forest) {o : Out} {r : Res Bool} → Turn text i b p fr f closes shut o r → Within text 0 n o
      → Meant (λ x. At text i b p fr (f ⊕ H x)) (after o (λ st t u. cond (closes st) (shut st t u) (after (member st t u) (loop_in text closes skips shut member))))
      (bind r (λ z. test z (λ s. ok e s) (λ s. bind (q s) (λ a s. bind (loop e c end q n s) (λ x s. ok (c a x) s)))))
  unfolding after bind test single Loops
  turned n ih f (shuts {s = s} x y h) w = rw (x, y) (went (regrown (sym (ap (λ (g : Forest). f ⊕ g) He ∙ plus_bare f)) h))
  turned n ih f (refuses x y) w = rw (x, y) halted
  turned n ih f (goes {st = st} {t = t} {u = u} {s = s} x h) (within w) =
      rw x
      (bind_m (within_m (members f st t u s h) (falls st t u)) λ a st t u s h₁.
      last_m (ih (f ⊕ single (G a)) st t u s h₁.0 (omega (arith, h₁.1))) λ x st t u s h₂.
      went (regrown (plus_assoc f (grown (G a) bare) (H x) ∙ sym (ap (λ (g : Forest). f ⊕ g) (Hc a x))) h₂))
  turned n ih f halts w = halted

  looped : (n : ℕ) → Loops n
  unfolding Loops loop
  looped zero f st t u s h l = absurd (omega arith)
  looped (suc n) f st t u s h l =
      rw (loop_is text closes skips shut member rests falls st t u)
      (turned n (looped n) f (turns f st t u s h) (weak_w (λ x g. omega arith) (rests st t u)))

  pub loop_m : length text ≤ 65536 → (f : Forest) (st : State) (t u : List ℕ) (s : St) → At text i b p fr f st t u s
      → Meant (λ x. At text i b p fr (f ⊕ H x)) (loop_in text closes skips shut member st t u) (many e c end q s)
  unfolding many Loops
  loop_m short f st t u s h = looped 65537 f st t u s h (few_left st short h.ahead)
