-- `scan` is the longest match in the textbook's words: its kind is that of the first rule that matches so many bytes, and no rule matches more.
--     scan_longest  for every text
use mathlib.Core.Path.{◌≡◌, refl, sym, ap, ◌∙◌}
use mathlib.Core.Logic.{⊎_elim}
use Rattle.std.specs.Prelude.{Option, Some, None}
use mathlib.Core.List.{List, [], ◌∷◌, ◌++◌, append_assoc, append-nil}
use Prim.Native.Nat.{ℕ, suc, ◌<◌, ◌≤◌}
use native.Mathlib.Omega.{arith}
use native.Mathlib.Nat.{eq-or-lt_of_le}
use lib.ListN.{length, take}
use lib.Seq.{take-append-le, take_all}
use Rattle.token.specs.Patterns.{rules}
use Rattle.token.specs.Scan.{derivs, first, keep, scan_from, scan}
use Rattle.token.specs.Match.{NoneBeyond, Longest}
use Rattle.token.specs.Automaton.{after}
use Rattle.token.specs.declared.Token.{Token}
use Rattle.token.specs.Scanned.{Scan}
use Rattle.token.proofs.Matching.{first_by_law, first_none, first_some}
use Rattle.token.proofs.Words.{after_snoc, length_snoc}

-- the kind of the first rule that matches the first m bytes of u
unfoldable first_at : List ℕ → ℕ → Option Token
first_at u m = first (after rules (take m u))

NoneFrom : List ℕ → ℕ → Type 0
NoneFrom u n = (m : ℕ) → n < m → m ≤ length u → first_at u m ≡ None

-- b is the longest match within u
Best : List ℕ → Scan → Type 0
Best u None = NoneFrom u 0
Best u (Some (k, n)) = (0 < n) × (n ≤ length u) × (first_at u n ≡ Some k) × NoneFrom u n

module _ (u : List ℕ) (c : ℕ) where
  shorter : (m : ℕ) → m ≤ length u → first_at (u ++ (c ∷ [])) m ≡ first_at u m
  unfolding first_at
  shorter m h = rw (take-append-le m u (c ∷ []) h)

  whole : first_at (u ++ (c ∷ [])) (suc (length u)) ≡ first (derivs c (after rules u))
  unfolding first_at
  whole = ap (λ (x : List ℕ). first (after rules x)) (take_all (suc (length u)) (u ++ (c ∷ [])) (omega (arith, length_snoc u c))) ∙ ap first (after_snoc u rules c)

  none_more : (n : ℕ) → NoneFrom u n → first (derivs c (after rules u)) ≡ None → NoneFrom (u ++ (c ∷ [])) n
  unfolding NoneFrom
  none_more n h e m l f =
      ⊎_elim (λ g. rw g (whole ∙ e)) (λ g. let k : m ≤ length u = omega arith in shorter m k ∙ h m l k)
      (eq-or-lt_of_le (rw (length_snoc u c) at f))

  nothing_more : NoneFrom (u ++ (c ∷ [])) (suc (length u))
  unfolding NoneFrom
  nothing_more m l f = absurd (omega (arith, length_snoc u c))

  step : (b : Scan) → Best u b → Best (u ++ (c ∷ [])) (keep (first (derivs c (after rules u))) (suc (length u)) b)
  unfolding keep Best
  step b h = go (first (derivs c (after rules u))) refl b h
    where
      go : (o : Option Token) → first (derivs c (after rules u)) ≡ o → (b : Scan) → Best u b → Best (u ++ (c ∷ [])) (keep o (suc (length u)) b)
      go None e None h = none_more 0 h e
      go None e (Some (k, n)) h = (h.0, omega (arith, length_snoc u c), shorter n h.1 ∙ h.2, none_more n h.3 e)
      go (Some q) e b h = (omega arith, omega (arith, length_snoc u c), whole ∙ e, nothing_more)

from : (w u : List ℕ) (b : Scan) → Best u b → Best (u ++ w) (scan_from (after rules u) (length u) b w)
unfolding scan_from
from [] u b h = rw append-nil h
from (c ∷ w) u b h =
    rw (append_assoc u (c ∷ []) w, after_snoc u rules c, length_snoc u c) at
    (from w (u ++ (c ∷ [])) (keep (first (derivs c (after rules u))) (suc (length u)) b) (step u c b h))

beyond : (t : List ℕ) (n : ℕ) → NoneFrom t n → NoneBeyond t n
unfolding NoneFrom first_at
beyond t n h m l f = first_none rules (take m t) (sym (first_by_law (take m t) rules) ∙ h m l f)

best_longest : (t : List ℕ) (b : Scan) → Best t b → Longest t b
unfolding Best first_at
best_longest t None h = beyond t 0 h
best_longest t (Some (k, n)) h = (h.0, h.1, first_some rules (take n t) k (sym (first_by_law (take n t) rules) ∙ h.2), beyond t n h.3)

pub scan_longest : (t : List ℕ) → Longest t (scan t)
unfolding scan after Best NoneFrom
scan_longest t = best_longest t (scan t) (from t [] None (λ m l f. absurd (omega arith)))
