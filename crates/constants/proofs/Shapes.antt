-- A fingerprint of a text by which the productions, the departures and hexadecimal are told apart.
use mathlib.Core.Path.{◌≡◌, refl, ◌∙◌}
use mathlib.Core.Bool.{Bool, true, false, cond, ◌&&◌, ◌||◌}
use mathlib.Core.List.{List, [], ◌∷◌, ◌++◌, append-nil}
use Prim.Native.Nat.{ℕ}
use native.Mathlib.Omega.{arith}
use lib.Dec.{leb, eqb}
use borrow.Author.Tests.{le-leb, ne_eqb}
use Rattle.constants.specs.Constants.{
  Digit,
  Digits,
  none,
  more,
  Number,
  some,
  Sign,
  unsigned,
  plus,
  minus,
  IntConstant,
  int,
  upper,
  lower,
  Exponent,
  plain,
  power,
  Shared,
  fraction,
  scaled,
  BareDot,
  bare,
  LoneExponent,
  lone,
}

pub data Shape : Type 0 where
  shared bare_dot lone_exponent lone_sign integer other : Shape

unfoldable pub is_digit : ℕ → Bool
is_digit c = leb 48 c && leb c 57

unfoldable pub is_sign : ℕ → Bool
is_sign c = eqb c 43 || eqb c 45

unfoldable pub is_letter : ℕ → Bool
is_letter c = eqb c 69 || eqb c 101

unfoldable pub digit_next : List ℕ → Bool
digit_next [] = false
digit_next (c ∷ w) = is_digit c

unfoldable pub sign_next : List ℕ → Bool
sign_next [] = false
sign_next (c ∷ w) = is_sign c

-- at the first byte c that is no digit, with w behind it; l: a digit was passed
unfoldable pub at : Bool → ℕ → List ℕ → Shape
at l c w = cond (eqb c 46) (cond (digit_next w) shared (cond l bare_dot other)) (cond (is_letter c) (cond l shared lone_exponent) other)

unfoldable pub walk : Bool → List ℕ → Shape
walk l [] = cond l integer lone_sign
walk l (c ∷ w) = cond (is_digit c) (walk true w) (at l c w)

unfoldable pub unsign : List ℕ → List ℕ
unsign [] = []
unsign (c ∷ w) = w

unfoldable pub shape : List ℕ → Shape
shape w = walk false (cond (sign_next w) (unsign w) w)

-- ---- bytes

digit_is : {c : ℕ} → Digit c → is_digit c ≡ true
unfolding is_digit
digit_is {c} h = rw (le-leb 48 c h.low, le-leb c 57 h.high)

digit_unsigned : {c : ℕ} → Digit c → is_sign c ≡ false
unfolding is_sign
digit_unsigned {c} h = rw (ne_eqb c 43 (λ e. omega arith), ne_eqb c 45 (λ e. omega arith))

-- ---- runs

module _ (r : List ℕ) where
  walk_digits : {d : List ℕ} → Digits d → walk true (d ++ r) ≡ walk true r
  unfolding walk
  walk_digits none = refl
  walk_digits (more h hs) = rw (digit_is h) (walk_digits hs)

  walk_number : {d : List ℕ} (l : Bool) → Number d → walk l (d ++ r) ≡ walk true r
  unfolding walk
  walk_number l (some h hs) = rw (digit_is h) (walk_digits hs)

  number_next : {d : List ℕ} → Number d → digit_next (d ++ r) ≡ true
  unfolding digit_next
  number_next (some h hs) = digit_is h

  number_unsigned : {d : List ℕ} → Number d → sign_next (d ++ r) ≡ false
  unfolding sign_next
  number_unsigned (some h hs) = digit_unsigned h

  signed : {s : List ℕ} → Sign s → sign_next r ≡ false → shape (s ++ r) ≡ walk false r
  unfolding shape walk sign_next is_sign unsign
  signed unsigned e = rw e
  signed plus e = refl
  signed minus e = refl

-- ---- the shape of each

pub shape_sign : {w : List ℕ} → Sign w → shape w ≡ lone_sign
unfolding shape walk sign_next is_sign unsign
shape_sign unsigned = refl
shape_sign plus = refl
shape_sign minus = refl

pub shape_int : {w : List ℕ} → IntConstant w → shape w ≡ integer
unfolding walk
shape_int (int {d = d} s n) = signed d s (rw (append-nil d) at (number_unsigned [] n)) ∙ (rw (append-nil d) at (walk_number [] false n))

pub shape_lone : {w : List ℕ} → LoneExponent w → shape w ≡ lone_exponent
unfolding walk at is_digit is_letter sign_next is_sign
shape_lone (lone {i = i} s upper n) = signed (69 ∷ i) s refl
shape_lone (lone {i = i} s lower n) = signed (101 ∷ i) s refl

no_digit : {e : List ℕ} → Exponent e → digit_next e ≡ false
unfolding digit_next is_digit
no_digit plain = refl
no_digit (power upper i) = refl
no_digit (power lower i) = refl

pub shape_bare : {w : List ℕ} → BareDot w → shape w ≡ bare_dot
unfolding walk at is_digit
shape_bare (bare {d = d} {e = e} s n x) = signed (d ++ 46 ∷ e) s (number_unsigned (46 ∷ e) n) ∙ walk_number (46 ∷ e) false n ∙ rw (no_digit x)

dotted : {d f : List ℕ} (e : List ℕ) → Digits d → Number f → walk false (d ++ (46 ∷ f ++ e)) ≡ shared
unfolding walk at is_digit
dotted e none n = rw (number_next e n)
dotted {f = f} e (more h hs) n = walk_number (46 ∷ f ++ e) false (some h hs) ∙ rw (number_next e n)

dotted_unsigned : {d : List ℕ} (r : List ℕ) → Digits d → sign_next (d ++ 46 ∷ r) ≡ false
unfolding sign_next is_sign
dotted_unsigned r none = refl
dotted_unsigned r (more h hs) = digit_unsigned h

pub shape_shared : {w : List ℕ} → Shared w → shape w ≡ shared
unfolding walk at is_digit is_letter
shape_shared (fraction {d = d} {f = f} {e = e} s ds n x) = signed (d ++ (46 ∷ f ++ e)) s (dotted_unsigned (f ++ e) ds) ∙ dotted e ds n
shape_shared (scaled {d = d} {i = i} s n upper x) = signed (d ++ 69 ∷ i) s (number_unsigned (69 ∷ i) n) ∙ walk_number (69 ∷ i) false n
shape_shared (scaled {d = d} {i = i} s n lower x) = signed (d ++ 101 ∷ i) s (number_unsigned (101 ∷ i) n) ∙ walk_number (101 ∷ i) false n

pub shape_hex : (w : List ℕ) → (shape (48 ∷ 120 ∷ w) ≡ other) × (shape (48 ∷ 88 ∷ w) ≡ other)
unfolding shape walk sign_next is_sign is_digit at is_letter
shape_hex w = (refl, refl)
