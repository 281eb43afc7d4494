-- Laws of signed numbers of 32 bits.
--     fitted_in, fitted_out_law   a number that 32 bits hold, and one that they do not
--     fitted_as               the same of an answer that says whether 32 bits hold it
--     positive_.., negative_none, minus   what digits up to the bound of either sign tell
--     natural_.., integer_.., hex_..   the tokens
use mathlib.Core.Path.{◌≡◌, refl, ap, ◌∙◌}
use mathlib.Core.Bool.{Bool, true, false, cond}
use mathlib.Core.List.{List, [], ◌∷◌}
use Prim.Native.Nat.{ℕ, zero, suc, ◌-◌, ◌≤◌, ◌<◌}
use native.Mathlib.Omega.{arith}
use Rattle.std.proofs.lemmas.Int.{ints}
use borrow.Author.Tests.{leb-true, leb-false, le-ltb, lt-ltb, eq-eqb, ne_eqb}
use lib.Dec.{leb}
use lib.ListN.{length, take, drop, get_or, length-drop, drop_of_length-le}
use lib.Seq.{take_all}
use lib.IntN.{ℤ, pos, negsuc, neg_ℤ, ◌-ℤ◌}
use lib.Signed.{mag}
use mir.Syntax.{w32}
use mir.Val.{SFits, to_z}
use mir.Facts.{to_z_pos}
use Rattle.std.specs.Prelude.{Option, Some, None, SomeIff}
use Rattle.number.specs.Value.{digits, unsigned, natural, integer, hex, i32, sized, fitted}

pub fitted_in : (z : ℤ) → mag z ≤ 2147483647 → Some z ≡ fitted z
unfolding fitted i32
fitted_in (pos n) h = rw (le-ltb 2147483647 n h)
fitted_in (negsuc n) h = rw (le-ltb 2147483647 n h)

pub fitted_out_law : (z : ℤ) → 2147483647 < mag z → None ≡ fitted z
unfolding fitted i32
fitted_out_law (pos n) h = rw (lt-ltb 2147483647 n h)
fitted_out_law (negsuc n) h = rw (lt-ltb 2147483647 n h)

within : (z : ℤ) → SFits w32 z → mag z ≤ 2147483647
within (pos n) f = omega (arith, f.sfits)
within (negsuc n) f = omega (arith, f.sfits)

past : (n : ℕ) → (n < 2147483648 → ⊥) → 2147483647 < n
past n h = omega (arith, h)

beyond : (z : ℤ) → (SFits w32 z → ⊥) → 2147483647 < mag z
beyond (pos n) h = past n (λ l. h (record { sfits = l }))
beyond (negsuc n) h = past n (λ l. h (record { sfits = l }))

pub fitted_as : (r : Option ℤ) (z : ℤ) → SomeIff r (SFits w32 z) z → r ≡ fitted z
fitted_as (Some x) z h = ap Some h.1 ∙ fitted_in z (within z h.0)
fitted_as None z h = fitted_out_law z (beyond z h)

-- ---- what digits up to a bound tell

pub sized_some : (m n k : ℕ) → Some k ≡ sized m n → (k ≡ n) × (n ≤ m)
unfolding sized
sized_some m n k e = go (leb n m) refl e
  where
    go : (x : Bool) → leb n m ≡ x → Some k ≡ cond x (Some n) None → (k ≡ n) × (n ≤ m)
    go true h e = (cc, leb-true n m h)
    go false h e = absurd cc

sized_none : (m n : ℕ) → None ≡ sized m n → m < n
unfolding sized
sized_none m n e = go (leb n m) refl e
  where
    go : (x : Bool) → leb n m ≡ x → None ≡ cond x (Some n) None → m < n
    go true h e = absurd cc
    go false h e = leb-false n m h

pub positive_none : (m n : ℕ) → None ≡ sized m n → m ≡ 2147483647 → None ≡ fitted (pos n)
positive_none m n e h = let l = sized_none m n e in fitted_out_law (pos n) (omega arith)

pub positive_some : (m n k : ℕ) → Some k ≡ sized m n → m ≡ 2147483647 → Some (to_z w32 k) ≡ fitted (pos n)
positive_some m n k e h =
    let l = sized_some m n k e in
    ap (λ (i : ℕ). Some (to_z w32 i)) l.0 ∙ ap Some (to_z_pos w32 (omega (arith, l.1))) ∙ fitted_in (pos n) (omega (arith, l.1))

pub negative_none : (m n : ℕ) → None ≡ sized m n → m ≡ 2147483648 → None ≡ fitted (neg_ℤ (pos n))
negative_none m zero e h = let l = sized_none m 0 e in absurd (omega arith)
negative_none m (suc n) e h = let l = sized_none m (suc n) e in fitted_out_law (negsuc n) (omega arith)

pub minus : (n : ℕ) → pos 0 -ℤ pos n ≡ neg_ℤ (pos n)
minus n = omega (arith, ints)

-- ---- tokens

-- the digits behind the first byte
abbrev rest : List ℕ → ℕ
rest w = digits 10 0 (take (length w - 1) (drop 1 w))

pub integer_minus : (w : List ℕ) → 1 ≤ length w → get_or w 0 0 ≡ 45 → fitted (neg_ℤ (pos (rest w))) ≡ fitted (integer w)
unfolding integer
integer_minus [] s e = absurd (omega arith)
integer_minus (c ∷ w) s e = rw (eq-eqb c 45 e, take_all (length (c ∷ w) - 1) w (omega arith))

pub integer_plus : (w : List ℕ) → 1 ≤ length w → get_or w 0 0 ≡ 43 → fitted (pos (rest w)) ≡ fitted (integer w)
unfolding integer natural unsigned
integer_plus [] s e = absurd (omega arith)
integer_plus (c ∷ w) s e = rw (ne_eqb c 45 (omega arith), eq-eqb c 43 e, take_all (length (c ∷ w) - 1) w (omega arith))

pub natural_plus : (w : List ℕ) → (length w ≡ 0 → ⊥) → get_or w 0 0 ≡ 43 → rest w ≡ natural w
unfolding natural unsigned
natural_plus [] s e = absurd (s refl)
natural_plus (c ∷ w) s e = rw (eq-eqb c 43 e, take_all (length (c ∷ w) - 1) w (omega arith))

pub natural_plain : (w : List ℕ) → (length w ≡ 0 → ⊥) → (get_or w 0 0 ≡ 43 → ⊥) → digits 10 0 w ≡ natural w
unfolding natural unsigned
natural_plain [] s p = absurd (s refl)
natural_plain (c ∷ w) s p = rw (ne_eqb c 43 p)

pub integer_none : (w : List ℕ) → length w < 1 → fitted (pos (digits 10 0 w)) ≡ fitted (integer w)
unfolding integer digits
integer_none [] h = refl
integer_none (c ∷ w) h = absurd (omega arith)

pub integer_plain : (w : List ℕ) → (get_or w 0 0 ≡ 45 → ⊥) → (get_or w 0 0 ≡ 43 → ⊥) → fitted (pos (digits 10 0 w)) ≡ fitted (integer w)
unfolding integer natural unsigned digits
integer_plain [] m p = refl
integer_plain (c ∷ w) m p = rw (ne_eqb c 45 m, ne_eqb c 43 p)

pub hex_none : (w : List ℕ) → length w < 2 → Some (pos 0) ≡ fitted (hex w)
unfolding hex digits
hex_none w h = rw (drop_of_length-le w {i = 2} (omega arith)) (fitted_in (pos 0) (omega arith))

pub hex_some : (w : List ℕ) → 2 ≤ length w → fitted (pos (digits 16 0 (take (length w - 2) (drop 2 w)))) ≡ fitted (hex w)
unfolding hex
hex_some w h = rw (take_all (length w - 2) (drop 2 w) (omega (arith, length-drop 2 w)))

-- what each function needs
pub ruleset positives = (sized_some, positive_none, positive_some)

pub ruleset negatives = (fitted_as, sized_some, negative_none, minus)

pub ruleset integers = (integer_minus, integer_plus, integer_none, integer_plain)

pub ruleset hexes = (hex_none, hex_some)
