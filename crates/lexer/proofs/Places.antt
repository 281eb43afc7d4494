-- The places of 21 and 22 lie in the text, so they are numbers of 32 bits.
--     ill_small, unknown_small
use mathlib.Core.Path.{◌≡◌, ap}
use mathlib.Core.List.{List, [], ◌∷◌}
use Prim.Native.Nat.{ℕ, zero, suc, ◌+◌, ◌-◌, ◌≤◌}
use native.Mathlib.Omega.{arith}
use lib.ListN.{length, take, drop, length-drop, length-take}
use Rattle.std.specs.Prelude.{Option, Some, None}
use Rattle.token.specs.Scan.{scan}
use Rattle.token.specs.Scanned.{Scan}
use Rattle.utf8.specs.Utf8.{width, sequences, sequence, ill_from, ill_formed}
use Rattle.lexer.specs.Cuts.{Cuts, cut_at, cuts_from, cuts, unrecognized}

places : Option ℕ → ℕ → ℕ
places None d = d
places (Some p) d = p

some_inside : (a p n : ℕ) → Some a ≡ Some p → p ≤ a + suc n
unfolding places
some_inside a p n e = let h : a ≡ p = ap (λ (x : Option ℕ). places x 0) e in omega arith

None≢Some : {p : ℕ} → ◌≡◌ {A = Option ℕ} None (Some p) → ⊥
None≢Some e = let z : ◌≡◌ {A = ℕ} 0 1 = cc in omega arith

here : (k at : ℕ) (go : ℕ → Option ℕ) (p n : ℕ) → ((m : ℕ) → go m ≡ Some p → p ≤ at + suc n) → sequence k at go ≡ Some p → p ≤ at + suc n
unfolding sequence
here zero at go p n h e = some_inside at p n e
here (suc k) at go p n h e = h k e

cut_at_law : (s : Scan) (t : List ℕ) (go : ℕ → Cuts) (at p n : ℕ) → ((m a q : ℕ) → unrecognized (go m) a ≡ Some q → q + m ≤ a + n) →
    unrecognized (cut_at s t go) at ≡ Some p → p + 0 ≤ at + suc n
unfolding cut_at unrecognized
cut_at_law None t go at p n h e = omega (arith, some_inside at p n e)
cut_at_law (Some (k, m)) t go at p n h e = omega (arith, h (m - 1) (at + length (take m t)) p e, length-take m t)

ill_step : (c : ℕ) (w : List ℕ) → ((at n p : ℕ) → ill_from w at n ≡ Some p → p ≤ at + length w) →
    (at n p : ℕ) → ill_from (c ∷ w) at n ≡ Some p → p ≤ at + suc (length w)
unfolding ill_from
ill_step c w ih at (suc n) p e = omega (arith, ih (suc at) n p e)
ill_step c w ih at zero p e = go (width sequences (c ∷ w)) e
  where
    go : (k : ℕ) → sequence k at (ill_from w (suc at)) ≡ Some p → p ≤ at + suc (length w)
    go k e = here k at (ill_from w (suc at)) p (length w) (λ m f. omega (arith, ih (suc at) m p f)) e

ill_inside : (t : List ℕ) (at n p : ℕ) → ill_from t at n ≡ Some p → p ≤ at + length t
unfolding ill_from
ill_inside [] at n p e = absurd (None≢Some e)
ill_inside (c ∷ w) at n p e = ill_step c w (ill_inside w) at n p e

cut_step : (c : ℕ) (w : List ℕ) → ((n at p : ℕ) → unrecognized (cuts_from w n) at ≡ Some p → p + n ≤ at + length w) →
    (n at p : ℕ) → unrecognized (cuts_from (c ∷ w) n) at ≡ Some p → p + n ≤ at + suc (length w)
unfolding cuts_from
cut_step c w ih (suc n) at p e = omega (arith, ih n at p e)
cut_step c w ih zero at p e = cut_at_law (scan (c ∷ w)) (c ∷ w) (cuts_from w) at p (length w) (λ n a q f. ih n a q f) e

cut_inside : (t : List ℕ) (n at p : ℕ) → unrecognized (cuts_from t n) at ≡ Some p → p + n ≤ at + length t
unfolding cuts_from unrecognized
cut_inside [] n at p e = absurd (None≢Some e)
cut_inside (c ∷ w) n at p e = cut_step c w (cut_inside w) n at p e

-- so they are numbers of 32 bits
pub ill_small : (t : List ℕ) (p : ℕ) → ill_formed t ≡ Some p → p ≤ length t
unfolding ill_formed
ill_small t p e = omega (arith, ill_inside t 0 0 p e)

pub unknown_small : (t : List ℕ) (from p : ℕ) → unrecognized (cuts (drop from t)) from ≡ Some p → p ≤ from + (length t - from)
unfolding cuts
unknown_small t from p e = omega (arith, cut_inside (drop from t) 0 from p e, length-drop from t)
