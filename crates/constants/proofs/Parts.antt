-- The token patterns of the numbers, and what a text that matches each part of them is.
use mathlib.Core.Path.{◌≡◌, refl, sym, ◌∙◌}
use mathlib.Core.Logic.{◌⊎◌, inl, inr, ⊎_elim}
use mathlib.Core.Bool.{Bool, true, false, ◌&&◌, ◌||◌}
use mathlib.Core.List.{List, [], ◌∷◌, ◌++◌, append_assoc}
use Prim.Native.Nat.{ℕ, ◌≤◌}
use native.Mathlib.Omega.{arith}
use lib.Dec.{leb}
use lib.ListN.{length}
use borrow.Author.Tests.{leb-true, le-leb}
use Rattle.token.specs.Code.{code, is}
use Rattle.token.specs.Regex.{Range, to, Regex, empty, set, seq, alt, star, within, then, ranges, bytes}
use Rattle.token.specs.Patterns.{word_rule, token, one_of, plus as Some-of, opt, words, marks, digits as digitsOf, sign as sign_of, exponent as exponentOf, point as point_of, shapes, rest, rules, pattern_of}
use Rattle.token.specs.Match.{Star, stop, more as again, In}
use Rattle.constants.specs.Constants.{
  Digit,
  Digits,
  none,
  more,
  Number,
  some,
  Sign,
  unsigned,
  plus,
  minus,
  IntConstant,
  int,
  Letter,
  upper,
  lower,
  Exponent,
  plain,
  power,
  Shared,
  fraction,
  scaled,
  BareDot,
  bare,
  integer_pattern,
  double_pattern,
  hex_pattern,
}

-- ---- the patterns, computed

abbrev digit : Regex
digit = set (to 48 57 ∷ [])

abbrev sign : Regex
sign = alt (set (to 43 43 ∷ to 45 45 ∷ [])) empty

abbrev letter : Regex
letter = set (to 101 101 ∷ to 69 69 ∷ [])

abbrev dot : Regex
dot = set (to 46 46 ∷ [])

abbrev number : Regex
number = seq digit (star digit)

abbrev integer : Regex
integer = seq sign number

abbrev exponent : Regex
exponent = seq letter integer

abbrev point : Regex
point = alt (seq digit (seq (star digit) (seq dot (star digit)))) (seq dot number)

abbrev body : Regex
body = alt (seq point (alt exponent empty)) (seq digit (seq (star digit) exponent))

abbrev hex_digit : Regex
hex_digit = set (to 48 57 ∷ to 97 102 ∷ to 65 70 ∷ [])

abbrev hex : Regex
hex = seq (set (to 48 48 ∷ [])) (seq (set (to 120 120 ∷ to 88 88 ∷ [])) (seq hex_digit (star hex_digit)))

pub integer_is : integer_pattern ≡ integer
unfolding integer_pattern pattern_of rules words rest marks shapes word_rule token is code one_of Some-of opt digitsOf sign_of then ranges bytes
integer_is = refl

pub double_is : double_pattern ≡ seq sign body
unfolding double_pattern pattern_of rules words rest marks shapes word_rule token is code one_of Some-of opt digitsOf sign_of exponentOf point_of then ranges bytes
double_is = refl

pub hex_is : hex_pattern ≡ hex
unfolding hex_pattern pattern_of rules words rest marks shapes word_rule token is code one_of Some-of then ranges bytes
hex_is = refl

-- ---- a byte of a set

pub within_cases : (c a b : ℕ) (rs : List Range) → within c (to a b ∷ rs) ≡ true → ((a ≤ c) × (c ≤ b)) ⊎ (within c rs ≡ true)
unfolding within
within_cases c a b rs e = go (leb a c) refl (leb c b) refl e
  where
    go : (p : Bool) → leb a c ≡ p → (q : Bool) → leb c b ≡ q → (p && q || within c rs) ≡ true → ((a ≤ c) × (c ≤ b)) ⊎ (within c rs ≡ true)
    go true f true g h = inl (leb-true a c f, leb-true c b g)
    go true f false g h = inr h
    go false f q g h = inr h

pub nowhere : {A : Type 0} (c : ℕ) → within c [] ≡ true → A
unfolding within
nowhere c e = let z : ◌≡◌ {A = ℕ} 0 1 = cc in absurd (omega arith)

-- the byte is the one, or the other
pub one : (c a : ℕ) → within c (to a a ∷ []) ≡ true → c ≡ a
one c a e = ⊎_elim (λ h. let l : a ≤ c = h.0 in let g : c ≤ a = h.1 in omega arith) (λ h. nowhere c h) (within_cases c a a [] e)

two : (c a b : ℕ) → within c (to a a ∷ to b b ∷ []) ≡ true → (c ≡ a) ⊎ (c ≡ b)
two c a b e = ⊎_elim (λ h. let l : a ≤ c = h.0 in let g : c ≤ a = h.1 in inl (omega arith)) (λ h. inr (one c b h)) (within_cases c a a (to b b ∷ []) e)

digit_of : (c : ℕ) → within c (to 48 57 ∷ []) ≡ true → Digit c
digit_of c e = ⊎_elim (λ h. record { low = h.0; high = h.1 }) (λ h. nowhere c h) (within_cases c 48 57 [] e)

digit_in : {c : ℕ} → Digit c → within c (to 48 57 ∷ []) ≡ true
unfolding within
digit_in {c} h = rw (le-leb 48 c h.low, le-leb c 57 h.high)

-- ---- signs, digits, integers

sign_of_law : (u : List ℕ) → In sign u → Sign u
sign_of_law u (inl h) = rw h.1 (⊎_elim (λ e. rw e plus) (λ e. rw e minus) (two h.0 43 45 h.2))
sign_of_law u (inr e) = rw e unsigned

sign_in : {u : List ℕ} → Sign u → In sign u
unfolding within
sign_in unsigned = inr refl
sign_in plus = inl (43, refl, refl)
sign_in minus = inl (45, refl, refl)

digits_of : {w : List ℕ} → Star (In digit) w → Digits w
digits_of (stop e) = rw e none
digits_of (again e h t) = rw (e, h.1) (more (digit_of h.0 h.2) (digits_of t))

digits_in : {w : List ℕ} → Digits w → Star (In digit) w
digits_in none = stop refl
digits_in (more {c = c} h hs) = again {u = c ∷ []} refl (c, refl, digit_in h) (digits_in hs)

all_digits : {d : List ℕ} → Number d → Digits d
all_digits (some h hs) = more h hs

number_of : (w : List ℕ) → In number w → Number w
number_of w h = rw (h.2, h.3.1) (some (digit_of h.3.0 h.3.2) (digits_of h.4))

number_in : {w : List ℕ} → Number w → In number w
number_in (some {c = c} {w = w} h hs) = (c ∷ [], w, refl, (c, refl, digit_in h), digits_in hs)

-- digits and what follows them
module _ (x : Regex) where
  numbered_of : (w : List ℕ) → In (seq digit (seq (star digit) x)) w → (d : List ℕ) × (r : List ℕ) × (w ≡ d ++ r) × Number d × In x r
  numbered_of w h =
      (h.3.0 ∷ h.4.0, h.4.1, h.2 ∙ rw (h.3.1, h.4.2) refl, some (digit_of h.3.0 h.3.2) (digits_of h.4.3), h.4.4)

  numbered_in : {d : List ℕ} (r : List ℕ) → Number d → In x r → In (seq digit (seq (star digit) x)) (d ++ r)
  numbered_in r (some {c = c} {w = w} h hs) g = (c ∷ [], w ++ r, refl, (c, refl, digit_in h), (w, r, refl, digits_in hs, g))

pub integer_of : (w : List ℕ) → In integer w → IntConstant w
integer_of w h = rw h.2 (int (sign_of_law h.0 h.3) (number_of h.1 h.4))

pub integer_in : {w : List ℕ} → IntConstant w → In integer w
integer_in (int {s = s} {d = d} g n) = (s, d, refl, sign_in g, number_in n)

-- ---- exponents

letter_of : (c : ℕ) → within c (to 101 101 ∷ to 69 69 ∷ []) ≡ true → Letter c
letter_of c e = ⊎_elim (λ h. rw h lower) (λ h. rw h upper) (two c 101 69 e)

letter_in : {c : ℕ} → Letter c → within c (to 101 101 ∷ to 69 69 ∷ []) ≡ true
unfolding within
letter_in upper = refl
letter_in lower = refl

power_in : {c : ℕ} {i : List ℕ} → Letter c → IntConstant i → In exponent (c ∷ i)
power_in {c} {i} l n = (c ∷ [], i, refl, (c, refl, letter_in l), integer_in n)

exponent_of : (w : List ℕ) → In (alt exponent empty) w → Exponent w
exponent_of w (inl h) = rw (h.2, h.3.1) (power (letter_of h.3.0 h.3.2) (integer_of h.1 h.4))
exponent_of w (inr e) = rw e plain

exponent_in : {w : List ℕ} → Exponent w → In (alt exponent empty) w
exponent_in plain = inr refl
exponent_in (power l n) = inl (power_in l n)

-- ---- doubles

dotted : {s d b x : List ℕ} → Sign s → Number d → Digits b → Exponent x → Shared (s ++ (d ++ (46 ∷ b ++ x))) ⊎ BareDot (s ++ (d ++ (46 ∷ b ++ x)))
dotted g n none x = inr (bare g n x)
dotted g n (more h hs) x = inl (fraction g (all_digits n) (some h hs) x)

-- digits, a dot, digits
pointed : {s : List ℕ} (p x : List ℕ) → Sign s → In point p → Exponent x → Shared (s ++ (p ++ x)) ⊎ BareDot (s ++ (p ++ x))
pointed p x g (inl h) e =
    let k = numbered_of (seq dot (star digit)) p h in
    rw (k.2, k.4.2, k.4.3.1, one k.4.3.0 46 k.4.3.2, append_assoc) (dotted g k.3 (digits_of k.4.4) e)
pointed p x g (inr h) e = rw (h.2, h.3.1, one h.3.0 46 h.3.2) (inl (fraction g none (number_of h.1 h.4) e))

body_of : {s : List ℕ} (w : List ℕ) → Sign s → In body w → Shared (s ++ w) ⊎ BareDot (s ++ w)
body_of w g (inl h) = rw h.2 (pointed h.0 h.1 g h.3 (exponent_of h.1 h.4))
body_of w g (inr h) =
    let k = numbered_of exponent w h in
    rw (k.2, k.4.2, k.4.3.1) (inl (scaled g k.3 (letter_of k.4.3.0 k.4.3.2) (integer_of k.4.1 k.4.4)))

pub double_of : (w : List ℕ) → In (seq sign body) w → Shared w ⊎ BareDot w
double_of w h = rw h.2 (body_of h.1 (sign_of_law h.0 h.3) h.4)

dot_in : {f : List ℕ} → Digits f → In (seq dot (star digit)) (46 ∷ f)
unfolding within
dot_in {f} hs = (46 ∷ [], f, refl, (46, refl, refl), digits_in hs)

point_in : {d f : List ℕ} → Digits d → Number f → In point (d ++ 46 ∷ f)
unfolding within
point_in {f = f} none n = inr (46 ∷ [], f, refl, (46, refl, refl), number_in n)
point_in {f = f} (more h hs) n = inl (numbered_in (seq dot (star digit)) (46 ∷ f) (some h hs) (dot_in (all_digits n)))

pub shared_in : {w : List ℕ} → Shared w → In (seq sign body) w
shared_in (fraction {s = s} {d = d} {f = f} {e = e} g ds n x) =
    (s, d ++ (46 ∷ f ++ e), refl, sign_in g, inl (d ++ 46 ∷ f, e, sym (append_assoc d (46 ∷ f) e), point_in ds n, exponent_in x))
shared_in (scaled {s = s} {d = d} {i = i} {c = c} g n l k) = (s, d ++ (c ∷ i), refl, sign_in g, inr (numbered_in exponent (c ∷ i) n (power_in l k)))

pub bare_in : {w : List ℕ} → BareDot w → In (seq sign body) w
bare_in (bare {s = s} {d = d} {e = e} g n x) = (
  s,
  d ++ (46 ∷ e),
  refl,
  sign_in g,
  inl (d ++ 46 ∷ [], e, sym (append_assoc d (46 ∷ []) e), inl (numbered_in (seq dot (star digit)) (46 ∷ []) n (dot_in none)), exponent_in x),
)

-- ---- hexadecimal begins with 0x or 0X

two_bytes : (w u v a b : List ℕ) (c d x y : ℕ) → w ≡ u ++ v → u ≡ c ∷ [] → v ≡ a ++ b → a ≡ d ∷ [] → c ≡ x → d ≡ y → w ≡ x ∷ y ∷ b
two_bytes w u v a b c d x y e f g h i j = rw (e, f, g, h, i, j) refl

hex_begins : (w : List ℕ) → In hex w → (v : List ℕ) × ((w ≡ 48 ∷ 120 ∷ v) ⊎ (w ≡ 48 ∷ 88 ∷ v))
hex_begins w h =
    let zero = one h.3.0 48 h.3.2 in
    let begins : (y : ℕ) → h.4.3.0 ≡ y → w ≡ 48 ∷ y ∷ h.4.1 =
    λ y e. two_bytes w h.0 h.1 h.4.0 h.4.1 h.3.0 h.4.3.0 48 y h.2 h.3.1 h.4.2 h.4.3.1 zero e in
    (h.4.1, ⊎_elim (λ e. inl (begins 120 e)) (λ e. inr (begins 88 e)) (two h.4.3.0 120 88 h.4.3.2))

pub hex_of : (w : List ℕ) → In hex_pattern w → (v : List ℕ) × ((w ≡ 48 ∷ 120 ∷ v) ⊎ (w ≡ 48 ∷ 88 ∷ v))
hex_of w m = hex_begins w (rw hex_is at m)

three_bytes : (w u v a b x y : List ℕ) (c d z : ℕ) → w ≡ u ++ v → u ≡ c ∷ [] → v ≡ a ++ b → a ≡ d ∷ [] → b ≡ x ++ y → x ≡ z ∷ [] → 3 ≤ length w
three_bytes w u v a b x y c d z e f g h i j = rw (e, f, g, h, i, j) (omega arith)

pub hex_length : (w : List ℕ) → In hex w → 3 ≤ length w
hex_length w h =
    three_bytes w h.0 h.1 h.4.0 h.4.1 h.4.4.0 h.4.4.1 h.3.0 h.4.3.0 h.4.4.3.0 h.2 h.3.1 h.4.2 h.4.3.1
    h.4.4.2 h.4.4.3.1
