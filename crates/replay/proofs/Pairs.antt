-- CR LF in a text, one offset after the other.
--     pair_past    none behind the end
--     pair_other   none at another byte than CR
--     pair_cut     none at a CR that ends the text
--     pair_next    at a CR the next byte decides
--     pair_front   one where the text goes on with it
--     pair_here, pair_on   the search from here, where it is found and where it goes on
--     any_pair     that some offset from here on has one decides
use mathlib.Core.Path.{◌≡◌, refl, ap, ◌∙◌}
use mathlib.Core.Bool.{true, false, ◌||◌}
use mathlib.Core.List.{List, [], ◌∷◌}
use Prim.Native.Nat.{ℕ, zero, suc, ◌+◌, ◌-◌, ◌<◌, ◌≤◌}
use native.Mathlib.Nat.{add-zero}
use native.Mathlib.Numerals.{add-one}
use native.Mathlib.Omega.{arith}
use lib.Dec.{eqb}
use lib.ListN.{length, get_or, drop, take, drop_of_length-le, get_or-eq_default}
use lib.Seq.{drop-cons, get_or-drop}
use Rattle.std.specs.Cmp.Lexicographic.{pointwise}
use Rattle.std.specs.List.{list_any, range_with_len, slice_range}
use Rattle.std.proofs.Math.Bool.{and-true}
use Rattle.std.proofs.lemmas.List.{drop-drop, take_all, length-drop}
use borrow.Author.Tests.{ne_eqb}
use Rattle.std.proofs.lemmas.Bool.{eq-eqb, eqb-true}
use Rattle.lexer.specs.Location.{pair, has_pair}
use Rattle.replay.specs.Pair.{pair_at}

module _ (t : List ℕ) (i : ℕ) where
  pub pair_past : length t ≤ i → false ≡ pair_at t i
  unfolding pair_at pair
  pair_past h = rw (get_or-eq_default t 0 h)

  pub pair_other : (get_or t i 0 ≡ 13 → ⊥) → false ≡ pair_at t i
  unfolding pair_at pair
  pair_other h = rw (ne_eqb _ _ h)

  pub pair_cut : get_or t i 0 ≡ 13 → length t ≤ i + 1 → false ≡ pair_at t i
  unfolding pair_at pair
  pair_cut e h = rw (eq-eqb _ _ e, drop_of_length-le t h)

  pub pair_next : get_or t i 0 ≡ 13 → eqb (get_or t (i + 1) 0) 10 ≡ pair_at t i
  unfolding pair_at pair
  pair_next e = rw (eq-eqb _ _ e, get_or-drop (i + 1) t 0 0, add-zero)

turned : (a b : ℕ) → eqb a b ≡ eqb b a
turned a b = grind (arith, eq-eqb, eqb-true)

front : (r : List ℕ) → pointwise eqb (13 ∷ 10 ∷ []) (take 2 r) ≡ pair (get_or r 0 0) (drop 1 r)
unfolding pair
front [] = refl
front (x ∷ []) = rw (turned x 13)
front (x ∷ y ∷ r) = rw (turned x 13, turned y 10, and-true (eqb 10 y))

-- the rest of a text as `&text[i..]` gives it
pub pair_front : (t : List ℕ) (i : ℕ) → pointwise eqb (13 ∷ 10 ∷ []) (take 2 (slice_range t i (length t))) ≡ pair_at t i
unfolding pair_at
pair_front t i =
    let all : length (drop i t) ≤ length t - i = omega (arith, length-drop i t) in
    rw (take_all (length t - i) (drop i t) all) (front (drop i t) ∙ rw (get_or-drop i t 0 0, add-zero, drop-drop 1 i t))

step : (t : List ℕ) (i : ℕ) → i < length t → has_pair (drop i t) ≡ (pair_at t i || has_pair (drop (i + 1) t))
unfolding pair_at has_pair
step t i h = ap has_pair (drop-cons t i 0 h) ∙ rw add-one

module _ (t : List ℕ) (i : ℕ) where
  pub pair_here : i < length t → pair_at t i ≡ true → has_pair (drop i t) ≡ true
  pair_here h e = step t i h ∙ rw e

  pub pair_on : i < length t → pair_at t i ≡ false → has_pair (drop i t) ≡ has_pair (drop (i + 1) t)
  pair_on h e = step t i h ∙ rw e

pub any_pair : (t : List ℕ) (n i : ℕ) → i + n ≡ length t → list_any (pair_at t) (range_with_len i n) ≡ has_pair (drop i t)
unfolding has_pair
any_pair t zero i e = let h : length t ≤ i = omega arith in rw (drop_of_length-le t h)
any_pair t (suc n) i e = let h : i < length t = omega arith in rw (step t i h, any_pair t n (i + 1) (omega arith))
