-- Zeros of a table, from an index on.
--     zeros_on      up to a number that is 0 too
--     zeros_whole   up to the table's end: then all
--     zero_all      that all numbers from there on are 0 decides
use mathlib.Core.Path.{◌≡◌, refl, sym, ap, ◌∙◌}
use mathlib.Core.Logic.{⊎_elim}
use mathlib.Core.Bool.{Bool, true}
use mathlib.Core.List.{List, [], ◌∷◌}
use Prim.Native.Nat.{ℕ, zero, suc, ◌+◌, ◌-◌, ◌≤◌, ◌<◌}
use native.Mathlib.Omega.{arith}
use lib.Dec.{eqb}
use lib.ListN.{length, get_or, drop, get_or-eq_default}
use lib.Seq.{get_or-drop}
use Rattle.std.specs.List.{list_all}
use Rattle.std.proofs.lemmas.Bool.{eq-eqb}
use Rattle.token.proofs.Numbers.{lt_or_le}
use Rattle.replay.specs.List.{ZeroFrom}

pub zeros_on : (t : List ℕ) (a i : ℕ) → ((k : ℕ) → a ≤ k → k < i → get_or t k 0 ≡ 0) → get_or t i 0 ≡ 0 → (k : ℕ) → a ≤ k → k < i + 1 → get_or t k 0 ≡ 0
zeros_on t a i z e k h l = ⊎_elim (λ m. z k h m) (λ m. let q : k ≡ i = omega (arith, m, l) in ap (λ (x : ℕ). get_or t x 0) q ∙ e) (lt_or_le k i)

pub zeros_whole : (t : List ℕ) (a i : ℕ) → ((k : ℕ) → a ≤ k → k < i → get_or t k 0 ≡ 0) → length t ≤ i → (k : ℕ) → a ≤ k → get_or t k 0 ≡ 0
zeros_whole t a i z e k h = ⊎_elim (λ m. z k h m) (λ m. get_or-eq_default t 0 (omega (arith, m, e))) (lt_or_le k i)

zeros : (t : List ℕ) → list_all (λ n. eqb n 0) t ≡ true → (k : ℕ) → get_or t k 0 ≡ 0
zeros [] e k = refl
zeros (x ∷ t) e zero = grind arith
zeros (x ∷ t) e (suc k) = zeros t (grind arith) k

all : (t : List ℕ) → ((k : ℕ) → get_or t k 0 ≡ 0) → list_all (λ n. eqb n 0) t ≡ true
all [] h = refl
all (x ∷ t) h = rw (eq-eqb x 0 (h 0)) (all t (λ k. h (suc k)))

pub zero_all : (t : List ℕ) (i : ℕ) (b : Bool) → b ≡ list_all (λ n. eqb n 0) (drop i t) → (b ≡ true → ZeroFrom t i) × (ZeroFrom t i → b ≡ true)
zero_all t i b e = (
  λ h k l. let q : i + (k - i) ≡ k = omega (arith, l) in sym (get_or-drop i t (k - i) 0 ∙ ap (λ (x : ℕ). get_or t x 0) q) ∙ zeros (drop i t) (sym e ∙ h) (k - i),
  λ z. e ∙ all (drop i t) (λ k. get_or-drop i t k 0 ∙ z (i + k) (omega arith)),
)
