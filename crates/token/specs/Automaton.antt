-- The states of a scan, for the contracts of scan/src: what is left of the rules that are no words, by the class of each byte.
use Rattle.std.specs.Prelude.{ℕ, ◌-◌, ◌<◌, ◌≤◌, ◌≡◌, Bool, true, false, cond, ◌&&◌, List, [], ◌∷◌, eqb, ltb, leb, length, get_or, drop}
use Rattle.std.specs.Prelude.{Option, Some, None}
use Rattle.token.specs.Regex.{empty, bytes as ascii, ranges, within, nullable, is_nothing, then, or, deriv}
use Rattle.token.specs.Patterns.{
  Rule,
  rule,
  one_of,
  none_of,
  plus,
  opt,
  exact,
  word_rule,
  token,
  marks,
  name,
  quoted,
  digits,
  sign,
  exponent,
  point,
  stars,
  shapes,
  rest,
}
use Rattle.token.specs.Scan.{derivs, scan_from}
use Rattle.token.specs.declared.Token.{Token}
use Rattle.token.specs.declared.Token.TheVariants as T
use Rattle.token.specs.Scanned.{Scan}

-- where a scan may stand. `closed k`: a token of the kind k that nothing can lengthen. The Bool of a string: its quote is `"`
pub data State : Type 0 where
  start dead blanks comment signed dot signed_dot slash zero whole fraction exponent_sign exponent_digit exponent_mark hex_mark hex_digits named name_dot block block_star : State
  in_string escaped : Bool → State
  closed : Token → State

-- what a text leaves of the rules
unfoldable pub after : List Rule → List ℕ → List Rule
after rs [] = rs
after rs (c ∷ w) = let d = derivs c rs in after d w

-- what is left of the rules in each state: that of a text that leads there
unfoldable pub rules_at : State → List Rule
unfolding ascii ranges within nullable is_nothing then or deriv one_of none_of plus opt exact word_rule token marks name quoted digits sign exponent point stars shapes rest derivs after
rules_at start = rest
rules_at dead = []
rules_at blanks = after rest (ascii " ")
rules_at comment = after rest (ascii "#")
rules_at signed = after rest (ascii "+")
rules_at dot = after rest (ascii ".")
rules_at signed_dot = after rest (ascii "+.")
rules_at slash = after rest (ascii "/")
rules_at zero = after rest (ascii "0")
rules_at whole = after rest (ascii "1")
rules_at fraction = after rest (ascii ".0")
rules_at exponent_mark = after rest (ascii "0e")
rules_at exponent_sign = after rest (ascii "0e+")
rules_at exponent_digit = after rest (ascii "0e0")
rules_at hex_mark = after rest (ascii "0x")
rules_at hex_digits = after rest (ascii "0x0")
rules_at named = after rest (ascii "a")
rules_at name_dot = after rest (ascii "a.")
rules_at block = after rest (ascii "/*")
rules_at block_star = after rest (ascii "/**")
rules_at (in_string true) = after rest (ascii "\"")
rules_at (in_string false) = after rest (ascii "'")
rules_at (escaped true) = after rest (ascii "\"\\")
rules_at (escaped false) = after rest (ascii "'\\")
rules_at (closed k) = rule k empty ∷ []

-- the state behind a first byte of the classes from 36 on
unfoldable pub openings : List State
openings =
    dot ∷ closed T.Star ∷ slash ∷ closed T.Newline ∷ closed T.Newline ∷ in_string true ∷ dead ∷ in_string false ∷ comment ∷ signed
    ∷ closed T.LeftParen ∷ closed T.RightParen ∷ closed T.Comma ∷ closed T.Colon ∷ closed T.Semicolon ∷ closed T.LeftAngle ∷ closed T.Equals
    ∷ closed T.RightAngle ∷ closed T.LeftBracket ∷ closed T.RightBracket ∷ closed T.LeftBrace ∷ closed T.RightBrace ∷ dead ∷ blanks ∷ []

-- the class of the quote
abbrev pub quote : Bool → ℕ
quote true = 41
quote false = 43

-- the first of the two classes, the quote's and the backslash's, at which a run within a string stops
abbrev pub stop : Bool → ℕ
stop true = 41
stop false = 42

-- the token of one byte of a class
unfoldable pub whole_byte : State → Scan
whole_byte start = None
whole_byte dead = None
whole_byte blanks = None
whole_byte comment = None
whole_byte signed = None
whole_byte dot = None
whole_byte signed_dot = None
whole_byte slash = None
whole_byte zero = None
whole_byte whole = None
whole_byte fraction = None
whole_byte exponent_mark = None
whole_byte exponent_sign = None
whole_byte exponent_digit = None
whole_byte hex_mark = None
whole_byte hex_digits = None
whole_byte named = None
whole_byte name_dot = None
whole_byte block = None
whole_byte block_star = None
whole_byte (in_string q) = None
whole_byte (escaped q) = None
whole_byte (closed k) = Some (k, 1)

unfoldable pub opened : ℕ → Scan
opened k = whole_byte (get_or openings (k - 36) dead)

-- the state behind a byte of the class k
unfoldable pub step : State → ℕ → State
step start k = cond (eqb k 0) zero (cond (ltb k 8) whole (cond (ltb k 36) named (get_or openings (k - 36) dead)))
step dead k = dead
step blanks k = cond (eqb k 59) blanks dead
step comment k = cond (eqb k 39) dead comment
step signed k = cond (ltb k 8) whole (cond (eqb k 36) signed_dot dead)
step dot k = cond (ltb k 8) fraction dead
step signed_dot k = cond (ltb k 8) fraction dead
step slash k = cond (eqb k 37) block (cond (eqb k 38) comment dead)
step zero k = cond (leb 16 k && ltb k 18) hex_mark (cond (ltb k 8) whole (cond (ltb k 10) exponent_mark (cond (eqb k 36) fraction dead)))
step whole k = cond (ltb k 8) whole (cond (ltb k 10) exponent_mark (cond (eqb k 36) fraction dead))
step fraction k = cond (ltb k 8) fraction (cond (ltb k 10) exponent_mark dead)
step exponent_mark k = cond (ltb k 8) exponent_digit (cond (eqb k 45) exponent_sign dead)
step exponent_sign k = cond (ltb k 8) exponent_digit dead
step exponent_digit k = cond (ltb k 8) exponent_digit dead
step hex_mark k = cond (ltb k 16) hex_digits dead
step hex_digits k = cond (ltb k 16) hex_digits dead
step named k = cond (ltb k 36) named (cond (eqb k 36) name_dot dead)
step name_dot k = cond (leb 8 k && ltb k 36) named dead
step block k = cond (eqb k 37) block_star block
step block_star k = cond (eqb k 37) block_star (cond (eqb k 38) (closed T.BlockComment) block)
step (in_string q) k = cond (eqb k (quote q)) (closed T.StringLiteral) (cond (eqb k 42) (escaped q) (in_string q))
step (escaped q) k = cond (eqb k 39) dead (in_string q)
step (closed t) k = dead

-- the kind of the token that ends here
unfoldable pub kind_at : State → Option Token
kind_at start = None
kind_at dead = None
kind_at blanks = Some T.Blank
kind_at comment = Some T.LineComment
kind_at signed = None
kind_at dot = Some T.Dot
kind_at signed_dot = None
kind_at slash = None
kind_at zero = Some T.IntegerLiteral
kind_at whole = Some T.IntegerLiteral
kind_at fraction = Some T.DoubleLiteral
kind_at exponent_mark = None
kind_at exponent_sign = None
kind_at exponent_digit = Some T.DoubleLiteral
kind_at hex_mark = None
kind_at hex_digits = Some T.HexLiteral
kind_at named = Some T.Identifier
kind_at name_dot = None
kind_at block = None
kind_at block_star = None
kind_at (in_string q) = None
kind_at (escaped q) = None
kind_at (closed k) = Some k

-- the longest match of the rules that are no words
unfoldable pub longest : List ℕ → Scan
longest t = scan_from rest 0 None t

-- a scan of t stands behind i bytes in the state s, with b the longest match so far
pub record Reached (t : List ℕ) (s : State) (i : ℕ) (b : Scan) : Type 0 where
  pub bytes : (j : ℕ) → get_or t j 0 < 256
  pub inside : i ≤ length t
  pub decides : longest t ≡ scan_from (rules_at s) i b (drop i t)
