-- Laws of digits, over any base and any bound: the code of ids, of enum members and of constants has them.
--     digits_turn       one digit more
--     digits_past       past the bound, whatever digits follow
--     digits_end        all read
--     digits_over       the same of a number up to a bound
--     shifted_fits, shifted_over a number times the base, by the bound divided by the base
--     digit_small       a byte's digit is no more than a byte
use mathlib.Core.Path.{◌≡◌}
use mathlib.Core.Bool.{Bool, true, false, cond}
use mathlib.Core.List.{List, [], ◌∷◌}
use Prim.Native.Nat.{ℕ, ◌+◌, ◌*◌, ◌-◌, ◌/◌, ◌≤◌, ◌<◌}
use native.Mathlib.Nat.{le-mul_of_pos_right, le-div_iff_mul-le, div-lt_iff_lt-mul}
use native.Mathlib.Numerals.{add-one}
use native.Mathlib.Omega.{arith}
use borrow.Author.Tests.{lt-leb}
use lib.Dec.{ltb}
use lib.ListN.{length, drop, get_or, drop_of_length-le}
use lib.Seq.{drop-cons}
use Rattle.std.specs.Prelude.{None}
use Rattle.number.specs.Value.{digit, digits, sized}

-- a number does not fall as digits follow
digits_least : (b : ℕ) → 0 < b → (n : ℕ) (w : List ℕ) → n ≤ digits b n w
unfolding digits
digits_least b h n [] = omega arith
digits_least b h n (c ∷ w) = omega (arith, digits_least b h (n * b + digit c) w, le-mul_of_pos_right n h)

module _ (b n : ℕ) (w : List ℕ) (i : ℕ) where
  pub digits_turn : i < length w → digits b n (drop i w) ≡ digits b (n * b + digit (get_or w i 0)) (drop (i + 1) w)
  unfolding digits
  digits_turn h = rw (add-one i, drop-cons w i 0 h)

  pub digits_past : (m : ℕ) → 0 < b → i < length w → m < n * b + digit (get_or w i 0) → m < digits b n (drop i w)
  digits_past m z h o =
      let k = n * b + digit (get_or w i 0) in
      rw (digits_turn h) (omega (arith, o, digits_least b z k (drop (i + 1) w)))

  pub digits_end : length w ≤ i → digits b n (drop i w) ≡ n
  unfolding digits
  digits_end h = rw (drop_of_length-le w h)

  pub digits_over : (m : ℕ) → 0 < b → i < length w → m < n * b + digit (get_or w i 0) → None ≡ sized m (digits b n (drop i w))
  unfolding sized
  digits_over m z h o = rw (lt-leb (digits b n (drop i w)) m (digits_past m z h o))

module _ (n b m : ℕ) (z : 0 < b) where
  pub shifted_fits : n ≤ m / b → n * b ≤ m
  shifted_fits h = (le-div_iff_mul-le z).0 h

  pub shifted_over : m / b < n → m < n * b
  shifted_over h = (div-lt_iff_lt-mul z).0 h

pub digit_small : (c : ℕ) → c < 256 → digit c < 256
unfolding digit
digit_small c h = go (ltb c 65) (ltb c 97)
  where
    go : (x y : Bool) → cond x (c - 48) (cond y (c - 55) (c - 87)) < 256
    go true y = omega arith
    go false true = omega arith
    go false false = omega arith

-- what the loop over digits needs
pub ruleset turns = (digits_turn, digits_end, digits_over)
