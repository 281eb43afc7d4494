-- What the whole-text check finds.
use mathlib.Core.Path.{◌≡◌, refl, sym, ap, ◌∙◌}
use mathlib.Core.Bool.{Bool, true, false, cond}
use mathlib.Core.List.{List, []}
use Prim.Native.Nat.{ℕ, ◌<◌, ◌≤◌}
use borrow.Author.Tests.{lt-ltb, le-ltb, ltb-false}
use native.Mathlib.Omega.{arith}
use lib.Dec.{ltb}
use lib.ListN.{length}
use Rattle.std.specs.Prelude.{Some, None, Ok, Err}
use Rattle.std.specs.declared.result.Result.{Result}
use Rattle.lexer.specs.declared.error.ErrorKind.{ErrorKind}
use Rattle.lexer.specs.declared.error.Refusal.{Refusal}
use Rattle.lexer.specs.Refusal.{number_of, said_by}
use Rattle.lexer.specs.Outcome.{Outcome, accepted, refused}
use Rattle.utf8.specs.Utf8.{ill_formed}
use Rattle.lexer.specs.Cuts.{cuts, unrecognized}
use Rattle.lexer.specs.Check.{verdict, checked, found}
use Rattle.lexer.proofs.KindNumbers.{number_once}

module _ (t : List ℕ) where
  pub too_long : 65536 < length t → checked t ≡ refused 20 0 0
  unfolding checked
  too_long h = rw (lt-ltb 65536 (length t) h)

  module _ (h : length t ≤ 65536) where
    pub ill : (p : ℕ) → ill_formed t ≡ Some p → checked t ≡ refused 21 p 0
    unfolding checked verdict
    ill p e = rw (le-ltb 65536 (length t) h, e)

    pub unknown : (p : ℕ) → ill_formed t ≡ None → unrecognized (cuts t) 0 ≡ Some p → checked t ≡ refused 22 p 0
    unfolding checked verdict
    unknown p e f = rw (le-ltb 65536 (length t) h, e, f)

    pub fine : ill_formed t ≡ None → unrecognized (cuts t) 0 ≡ None → checked t ≡ accepted []
    unfolding checked verdict
    fine e f = rw (le-ltb 65536 (length t) h, e, f)

-- ---- what is not refused for its length is not longer

within : (o : Bool) (n : ℕ) (v r : Outcome (List ℕ)) → ltb 65536 n ≡ o → cond o (refused 20 0 0) v ≡ r → (r ≡ refused 20 0 0 → ⊥) → n ≤ 65536
within true n v r l e h = absurd (h (sym e))
within false n v r l e h = ltb-false 65536 n l

pub fine_fits : (t : List ℕ) {ns : List ℕ} → checked t ≡ accepted ns → length t ≤ 65536
unfolding checked
fine_fits t {ns} e = within (ltb 65536 (length t)) (length t) _ (accepted ns) refl e (λ f. let z : ◌≡◌ {A = ℕ} 0 1 = cc in omega arith)

pub ill_fits : (t : List ℕ) (p l : ℕ) → checked t ≡ refused 21 p l → length t ≤ 65536
unfolding checked
ill_fits t p l e = within (ltb 65536 (length t)) (length t) _ (refused 21 p l) refl e (λ f. let z : ◌≡◌ {A = ℕ} 0 1 = cc in omega arith)

pub unknown_fits : (t : List ℕ) (p l : ℕ) → checked t ≡ refused 22 p l → length t ≤ 65536
unfolding checked
unknown_fits t p l e = within (ltb 65536 (length t)) (length t) _ (refused 22 p l) refl e (λ f. let z : ◌≡◌ {A = ℕ} 0 1 = cc in omega arith)

-- ---- what the code's answer says of the text

module _ (t : List ℕ) (r : Result (Unit {0}) Refusal) (e : found r ≡ checked t) where
  pub told_fine : (u : Unit {0}) → r ≡ Ok u → checked t ≡ accepted []
  unfolding said_by
  told_fine u h = sym e ∙ ap found h

  pub told_refused : (f : Refusal) → r ≡ Err f → checked t ≡ refused (number_of f.kind) f.place f.length
  unfolding said_by
  told_refused f h = sym e ∙ ap found h

-- each answer says something else, so what is said tells the answer
told : Refusal → Outcome (List ℕ)
told f = refused (number_of f.kind) f.place f.length

refusal : ErrorKind → ℕ → ℕ → Refusal
refusal k p n = record { kind = k; place = p; length = n }

refused_same : (f g : Refusal) → told f ≡ told g → f ≡ g
unfolding told refusal
refused_same f g e =
    let k : f.kind ≡ g.kind = number_once f.kind g.kind cc in
    let p : f.place ≡ g.place = cc in
    let n : f.length ≡ g.length = cc in
    ap (λ x. refusal x f.place f.length) k ∙ ap (λ x. refusal g.kind x f.length) p ∙ ap (refusal g.kind g.place) n

pub found_same : (r s : Result (Unit {0}) Refusal) → found r ≡ found s → r ≡ s
unfolding said_by told
found_same (Ok _) (Ok _) e = refl
found_same (Ok _) (Err g) e = absurd cc
found_same (Err f) (Ok _) e = absurd cc
found_same (Err f) (Err g) e = ap Err (refused_same f g e)
