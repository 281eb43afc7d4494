-- Apache's IDL [32] IntConstant and [33] DoubleConstant over bytes, as the page has them; and each departure of rico's token patterns from them.
--
use Rattle.std.specs.Prelude.{ℕ, ◌≤◌, List, [], ◌∷◌, ◌++◌}
use Rattle.token.specs.Regex.{Regex}
use Rattle.token.specs.Patterns.{pattern_of, rules}
use Rattle.token.specs.declared.Token.TheVariants as T

-- ---- the productions

-- [41] Digit ::= ['0'-'9']
pub record Digit (c : ℕ) : Type 0 where
  pub low : 48 ≤ c
  pub high : c ≤ 57

-- Digit*
pub data Digits : List ℕ → Type 0 where
  none : Digits []
  more : {c : ℕ} {w : List ℕ} → Digit c → Digits w → Digits (c ∷ w)

-- Digit+
pub data Number : List ℕ → Type 0 where
  some : {c : ℕ} {w : List ℕ} → Digit c → Digits w → Number (c ∷ w)

-- ('+' | '-')?
pub data Sign : List ℕ → Type 0 where
  unsigned : Sign []
  plus : Sign (43 ∷ [])
  minus : Sign (45 ∷ [])

-- [32] IntConstant ::= ('+' | '-')? Digit+
pub data IntConstant : List ℕ → Type 0 where
  int : {s d : List ℕ} → Sign s → Number d → IntConstant (s ++ d)

-- ('.' Digit+)?
pub data Fraction : List ℕ → Type 0 where
  whole : Fraction []
  point : {d : List ℕ} → Number d → Fraction (46 ∷ d)

-- 'E' | 'e'
pub data Letter : ℕ → Type 0 where
  upper : Letter 69
  lower : Letter 101

-- ( ('E' | 'e') IntConstant )?
pub data Exponent : List ℕ → Type 0 where
  plain : Exponent []
  power : {c : ℕ} {i : List ℕ} → Letter c → IntConstant i → Exponent (c ∷ i)

-- [33] DoubleConstant ::= ('+' | '-')? Digit* ('.' Digit+)? ( ('E' | 'e') IntConstant )?
pub data DoubleConstant : List ℕ → Type 0 where
  double : {s d f e : List ℕ} → Sign s → Digits d → Fraction f → Exponent e → DoubleConstant (s ++ (d ++ (f ++ e)))

-- ---- the token patterns, out of rico's list

unfoldable pub integer_pattern : Regex
integer_pattern = pattern_of T.IntegerLiteral rules

unfoldable pub double_pattern : Regex
double_pattern = pattern_of T.DoubleLiteral rules

unfoldable pub hex_pattern : Regex
hex_pattern = pattern_of T.HexLiteral rules

-- ---- what both take for a double

-- a digit behind the dot; or digits, no dot, and an exponent
pub data Shared : List ℕ → Type 0 where
  fraction : {s d f e : List ℕ} → Sign s → Digits d → Number f → Exponent e → Shared (s ++ (d ++ (46 ∷ f ++ e)))
  scaled : {s d i : List ℕ} {c : ℕ} → Sign s → Number d → Letter c → IntConstant i → Shared (s ++ (d ++ (c ∷ i)))

-- ---- the departures

-- only rico: no digit behind the dot. Smallest: 0.
pub data BareDot : List ℕ → Type 0 where
  bare : {s d e : List ℕ} → Sign s → Number d → Exponent e → BareDot (s ++ (d ++ (46 ∷ e)))

-- only the IDL: an exponent with no number before it. Smallest: e0
pub data LoneExponent : List ℕ → Type 0 where
  lone : {s i : List ℕ} {c : ℕ} → Sign s → Letter c → IntConstant i → LoneExponent (s ++ (c ∷ i))

-- only the IDL: `Sign w`, a sign by itself, or nothing at all. Smallest: the empty string; then + and -
-- only the IDL: `IntConstant w`, which is a DoubleConstant too. Smallest: 0
