-- Laws of decimal digits and of ids.
use mathlib.Core.Path.{◌≡◌, refl}
use mathlib.Core.Bool.{true, false}
use mathlib.Core.List.{List, [], ◌∷◌}
use Prim.Native.Nat.{ℕ, ◌+◌, ◌*◌, ◌-◌, ◌^◌, ◌≤◌, ◌<◌}
use native.Mathlib.Numerals.{add-one}
use native.Mathlib.Omega.{arith}
use borrow.Author.Tests.{eq-eqb, ne_eqb, lt-ltb, le-ltb}
use lib.Dec.{ltb}
use lib.ListN.{length, take, drop, get_or, drop_of_length-le}
use lib.Seq.{drop-cons, take_all}
use mathlib.Core.Bool.{Bool, cond}
use Rattle.std.specs.Option.{is_some}
use Rattle.std.specs.Prelude.{Option, Some, None}
use Rattle.parser.specs.Definitions.{decimal, is_id}

-- a number does not fall as digits follow
decimal_least : (n : ℕ) (w : List ℕ) → n ≤ decimal n w
unfolding decimal
decimal_least n [] = omega arith
decimal_least n (c ∷ w) = let h = decimal_least (n * 10 + (c - 48)) w in omega arith

abbrev fitted : ℕ → Option ℕ
fitted d = cond (ltb d (2 ^ 64)) (Some d) None

module _ (n : ℕ) (w : List ℕ) (i : ℕ) where
  -- one digit more
  pub decimal_turn : i < length w → decimal n (drop i w) ≡ decimal (n * 10 + (get_or w i 0 - 48)) (drop (i + 1) w)
  unfolding decimal
  decimal_turn h = rw (add-one i, drop-cons w i 0 h)

  pub decimal_over : i < length w → 2 ^ 64 ≤ n * 10 + (get_or w i 0 - 48) → None ≡ fitted (decimal n (drop i w))
  decimal_over h o =
      let m = n * 10 + (get_or w i 0 - 48) in
      let l = decimal_least m (drop (i + 1) w) in
      rw (decimal_turn h) (rw (le-ltb (decimal m (drop (i + 1) w)) (2 ^ 64) (omega arith)))

  pub decimal_done : length w ≤ i → n < 2 ^ 64 → Some n ≡ fitted (decimal n (drop i w))
  unfolding decimal
  decimal_done h o = rw (drop_of_length-le w h) (rw (lt-ltb n (2 ^ 64) o))

-- what the loop over digits needs
pub ruleset turns = (decimal_turn, decimal_over, decimal_done)

-- ---- ids

pub id_none : (w : List ℕ) → length w ≡ 0 → false ≡ is_id w
unfolding is_id
id_none [] h = refl
id_none (c ∷ w) h = absurd (omega arith)

pub id_minus : (w : List ℕ) → (length w ≡ 0 → ⊥) → get_or w 0 0 ≡ 45 → false ≡ is_id w
unfolding is_id
id_minus [] h e = absurd (h refl)
id_minus (c ∷ w) h e = rw (eq-eqb c 45 e)

pub id_plus : (w : List ℕ) → (length w ≡ 0 → ⊥) → get_or w 0 0 ≡ 43 → ltb (decimal 0 (take (length w - 1) (drop 1 w))) (2 ^ 64) ≡ is_id w
unfolding is_id
id_plus [] h e = absurd (h refl)
id_plus (c ∷ w) h e = rw (ne_eqb c 45 (λ z. omega arith), eq-eqb c 43 e, take_all (length (c ∷ w) - 1) w (omega arith))

pub id_plain : (w : List ℕ) → (length w ≡ 0 → ⊥) → (get_or w 0 0 ≡ 45 → ⊥) → (get_or w 0 0 ≡ 43 → ⊥) → ltb (decimal 0 w) (2 ^ 64) ≡ is_id w
unfolding is_id
id_plain [] h m e = absurd (h refl)
id_plain (c ∷ w) h m e = rw (ne_eqb c 45 m, ne_eqb c 43 e)

pub some_by : (b : Bool) (d : ℕ) → is_some {T = ℕ} (cond b (Some d) None) ≡ b
some_by true d = refl
some_by false d = refl
