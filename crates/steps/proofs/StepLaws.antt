-- The steps of the code (its model, specs/Into) mean the steps of the definitions.
--     take_m, step_m      the next token, where there may be none, and where one is known to be ahead
--     expect_m            a token of this kind
--     refuse_m            a refusal at the token ahead
--     when_m, one_m       by the kind of the token ahead
--     here_in, start_in, taken_in    the steps of the meaning alone
use mathlib.Core.Path.{◌≡◌, refl, ap, ◌∙◌}
use mathlib.Core.Bool.{Bool, true, false, cond, false≢true}
use mathlib.Core.List.{List, [], ◌∷◌}
use Prim.Native.Nat.{ℕ, suc, ◌≤◌}
use native.Mathlib.Omega.{arith}
use borrow.Author.Tests.{eq-eqb}
use lib.Dec.{eqb}
use lib.ListN.{length}
use Rattle.token.specs.Code.{code, among}
use Rattle.token.specs.declared.Token.{Token}
use Rattle.lexer.specs.declared.location.Lexer.{Lexer}
use Rattle.lexer.specs.declared.location.LOC.{LOC}
use Rattle.lexer.specs.Tokens.{Lexeme}
use Rattle.ast.specs.Tree.{Forest}
use Rattle.steps.specs.declared.packed.Range.{Range}
use Rattle.steps.specs.declared.state.State.{State}
use Rattle.parser.specs.Steps.{kind, place, St, pos, P, bind, peek, when, fail, refuse, next, want, start, here, taken}
use Rattle.steps.specs.Packed.{unpacked, unpacked_loc}
use Rattle.steps.specs.Into.{code_of, Out, done, refused, start_at, advanced, take_in, expect_in}
use Rattle.parser.proofs.KindLaws.{Tests, code_some, one_test}
use Rattle.steps.proofs.Seen.{
  First,
  Sound,
  Ahead,
  over,
  on,
  AheadOf,
  advance_ahead,
  moved,
  last_of,
  waiting_of,
  left_of,
  Frame,
  At,
  Meant,
  went,
  halted,
  cond_m,
}

-- ---- the token ahead

pub none_ahead : {text : List ℕ} {k : ℕ} {l : Range} {x : Lexer} → Ahead text k l x [] → eqb k 255 ≡ true
none_ahead (over e q) = eq-eqb _ _ e

pub some_ahead : {text : List ℕ} {k : ℕ} {l : Range} {x : Lexer} {t : Lexeme} {ts : List Lexeme} → Ahead text k l x (t ∷ ts) → eqb k 255 ≡ false
some_ahead {t = t} (on h e x z q) = rw h.coded (code_some (kind t))

pub first_ahead : {text : List ℕ} {k : ℕ} {l : Range} {x : Lexer} {t : Lexeme} {ts : List Lexeme} → Ahead text k l x (t ∷ ts) → First text k l t
first_ahead (on h e x z q) = h

pub sound_ahead : {text : List ℕ} {k : ℕ} {l : Range} {x : Lexer} {ts : List Lexeme} → Ahead text k l x ts → Sound text x
sound_ahead (over e q) = q
sound_ahead (on h e x z q) = q

-- a test of the code's kind is the test of the token's
pub tested : {g : ℕ → Bool} {ks : List Token} {text : List ℕ} {k : ℕ} {l : Range} {x : Lexer} (s : St) → Tests g ks → Ahead text k l x (left_of s)
    → g k ≡ peek ks s
unfolding peek
tested {g = g} (pos l c []) h (over e q) = ap g e ∙ h.fails
tested {g = g} (pos l c (t ∷ ts)) h (on a e x z q) = ap g a.coded ∙ h.agrees (kind t)

-- ---- one token

-- behind the token that was ahead of the state before
pub record Took (text : List ℕ) (i b p : ℕ) (fr : Frame) (f : Forest) (before : State) (tok : Lexeme) (st : State) (t u : List ℕ) (s : St) : Type 0 where
  pub at : At text i b p fr f st t u s
  pub there : last_of s ≡ place tok
  pub first : First text (code_of before) before.loc tok

-- and it is of one of these kinds
pub record Wanted (ks : List Token) (text : List ℕ) (i b p : ℕ) (fr : Frame) (f : Forest) (before : State) (tok : Lexeme) (st : State) (t u : List ℕ) (s : St) : Type 0 where
  pub at : At text i b p fr f st t u s
  pub there : last_of s ≡ place tok
  pub first : First text (code_of before) before.loc tok
  pub kinds : among (kind tok) ks ≡ true

pub refuse_m : {A : Type 0} {Q : A → State → List ℕ → List ℕ → St → Type 0} {text : List ℕ} {i b p : ℕ} {fr : Frame} {f : Forest} {st : State} {t u : List ℕ} (s : St)
    (e : ℕ) → At text i b p fr f st t u s → Meant Q (refused e st t u) (fail {A = A} e s)
unfolding refused fail
refuse_m (pos l c []) e h = rw (none_ahead h.ahead, ← h.last) halted
refuse_m (pos l c (t ∷ ts)) e h = rw (some_ahead h.ahead, ← (first_ahead h.ahead).placed) halted

-- refuse at the token that was ahead of a state
pub refuse_at_m : {A : Type 0} {Q : A → State → List ℕ → List ℕ → St → Type 0} {text : List ℕ} (e : ℕ) (st : State) (tok : Lexeme) (s : St) (t u : List ℕ)
    → First text (code_of st) st.loc tok → Meant Q (refused e st t u) (refuse {A = A} e tok s)
unfolding refused refuse
refuse_at_m e st tok s t u h =
    let z : eqb (code_of st) 255 ≡ false = ap (λ (n : ℕ). eqb n 255) h.coded ∙ code_some (kind tok) in
    rw (z, ← h.placed) halted

module _ (text : List ℕ) (short : length text ≤ 65536) {i b p : ℕ} {fr : Frame} {f : Forest} {st : State} {t u : List ℕ} where
  stepped : {l : LOC} {c ts : List Lexeme} {tok : Lexeme} → At text i b p fr f st t u (pos l c (tok ∷ ts)) → AheadOf text st (tok ∷ ts)
      → At text (suc (suc i)) b p fr f (advanced text st) t u (pos (place tok) c ts)
  stepped h (on a e x z q) =
      let m = moved text st in
      record {
        last = ap unpacked_loc m.last ∙ a.placed;
        ahead = rw (← e) at (advance_ahead text short st x q);
        next = m.next ∙ h.next;
        nodes = h.nodes;
        count = m.owned ∙ h.count;
        waits = m.waiting ∙ h.waits;
        comments = h.comments;
        credit = omega (arith, h.credit, m.next);
        space = omega (arith, h.space, m.owned);
        based = h.based;
        wide = h.wide;
      }

  pub step_at : {l : LOC} {c ts : List Lexeme} {tok : Lexeme} → At text i b p fr f st t u (pos l c (tok ∷ ts))
      → At text (suc (suc i)) b p fr f (advanced text st) t u (pos (place tok) c ts)
  step_at h = stepped h h.ahead

  pub take_m : (s : St) → At text i b p fr f st t u s → Meant (Took text (suc (suc i)) b p fr f st) (take_in text st t u) (next s)
  unfolding take_in refused next
  take_m (pos l c []) h = rw (none_ahead h.ahead, ← h.last) halted
  take_m (pos l c (tok ∷ ts)) h = rw (some_ahead h.ahead) (went (record { at = step_at h; there = refl; first = first_ahead h.ahead }))

  pub step_m : (ks : List Token) (s : St) → peek ks s ≡ true → At text i b p fr f st t u s
      → Meant (Wanted ks text (suc (suc i)) b p fr f st) (done (advanced text st) t u) (next s)
  unfolding peek next
  step_m ks (pos l c []) e h = absurd (false≢true e)
  step_m ks (pos l c (tok ∷ ts)) e h = went (record { at = step_at h; there = refl; first = first_ahead h.ahead; kinds = e })

  known_m : (ks : List Token) (s : St) → peek ks s ≡ true → At text i b p fr f st t u s
      → Meant (Wanted ks text (suc (suc i)) b p fr f st) (take_in text st t u) (next s)
  unfolding take_in peek next
  known_m ks (pos l c []) e h = absurd (false≢true e)
  known_m ks (pos l c (tok ∷ ts)) e h =
      rw (some_ahead h.ahead) (went (record { at = step_at h; there = refl; first = first_ahead h.ahead; kinds = e }))

  pub when_m : {A : Type 0} {Q : A → State → List ℕ → List ℕ → St → Type 0} {o v : Out} {g : ℕ → Bool} {ks : List Token} (q r : P A) (s : St) → Tests g ks
      → At text i b p fr f st t u s
      → (peek ks s ≡ true → Meant Q o (q s)) → (peek ks s ≡ false → Meant Q v (r s)) → Meant Q (cond (g (code_of st)) o v) (when ks q r s)
  unfolding when
  when_m {ks = ks} q r s h a x y = cond_m q r s _ (peek ks s) (tested s h a.ahead) x y

  pub one_m : {A : Type 0} {Q : A → State → List ℕ → List ℕ → St → Type 0} {o v : Out} (j : Token) (q r : P A) (s : St) → At text i b p fr f st t u s
      → (peek (j ∷ []) s ≡ true → Meant Q o (q s)) → (peek (j ∷ []) s ≡ false → Meant Q v (r s))
      → Meant Q (cond (eqb (code_of st) (code j)) o v) (when (j ∷ []) q r s)
  one_m j q r s a x y = when_m {g = λ n. eqb n (code j)} q r s (one_test j) a x y

  want_m : {g : ℕ → Bool} {ks : List Token} (s : St) (e : ℕ) → Tests g ks → At text i b p fr f st t u s
      → Meant (Wanted ks text (suc (suc i)) b p fr f st) (cond (g (code_of st)) (take_in text st t u) (refused e st t u)) (want ks e s)
  unfolding want
  want_m {g = g} {ks = ks} s e h a = when_m {g = g} next (fail e) s h a (λ x. known_m ks s x a) (λ x. refuse_m s e a)

  pub expect_m : (j : Token) (s : St) (e : ℕ) → At text i b p fr f st t u s
      → Meant (Wanted (j ∷ []) text (suc (suc i)) b p fr f st) (expect_in text (code j) e st t u) (want (j ∷ []) e s)
  unfolding expect_in
  expect_m j s e a = want_m {g = λ n. eqb n (code j)} s e (one_test j) a

-- ---- steps of the meaning alone

abbrev pub start_of : St → LOC
start_of (pos l c []) = l
start_of (pos l c (t ∷ ts)) = place t

abbrev pub emptied : St → St
emptied (pos l c ts) = pos l [] ts

module _ {B : Type 0} {R : B → State → List ℕ → List ℕ → St → Type 0} {o : Out} where
  pub here_in : (s : St) (f : LOC → P B) → Meant R o (f (last_of s) s) → Meant R o (bind (here s) f)
  unfolding here bind
  here_in (pos l c ts) f h = h

  pub start_in : (s : St) (f : LOC → P B) → Meant R o (f (start_of s) s) → Meant R o (bind (start s) f)
  unfolding start bind
  start_in (pos l c []) f h = h
  start_in (pos l c (t ∷ ts)) f h = h

  pub taken_in : (s : St) (f : List Lexeme → P B) → Meant R o (f (waiting_of s) (emptied s)) → Meant R o (bind (taken s) f)
  unfolding taken bind
  taken_in (pos l c ts) f h = h

pub start_at_law : {text : List ℕ} {i b p : ℕ} {fr : Frame} {f : Forest} {st : State} {t u : List ℕ} (s : St) → At text i b p fr f st t u s
    → unpacked (start_at st) ≡ (start_of s).start
unfolding start_at
start_at_law (pos l c []) h = rw (none_ahead h.ahead) (ap (λ (l : LOC). l.start) h.last)
start_at_law (pos l c (t ∷ ts)) h = rw (some_ahead h.ahead) (ap (λ (l : LOC). l.start) (first_ahead h.ahead).placed)
