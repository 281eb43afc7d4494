-- The value of a number token, for field ids, enum members and constants.
--     digits base n w    the number of the digits w behind the number n
--     natural            the value of decimal digits, behind a `+` or not
--     integer, hex       the value of an integer token, with its sign, and of a hexadecimal one, unsigned
--     value              the value of a token
--     sized, fitted      a number up to a bound, and a signed one that 32 bits hold, as the code tells them
use Rattle.std.specs.Prelude.{Bool, cond, not, ◌&&◌, List, [], ◌∷◌, ℕ, ◌+◌, ◌*◌, ◌-◌, eqb, ltb, leb, drop, ℤ, pos, neg_ℤ, Option, Some, None}
use Rattle.std.specs.Int.Signed.{lt_z}
use Rattle.token.specs.Code.{is}
use Rattle.token.specs.declared.Token.TheVariants as T
use Rattle.lexer.specs.Tokens.{Lexeme, lexeme}

-- `0` to `9`, `A` to `F`, `a` to `f`
unfoldable pub digit : ℕ → ℕ
digit c = cond (ltb c 65) (c - 48) (cond (ltb c 97) (c - 55) (c - 87))

unfoldable pub digits : ℕ → ℕ → List ℕ → ℕ
digits base n [] = n
digits base n (c ∷ w) = digits base (n * base + digit c) w

-- the digits behind a `+`, or all
unfoldable pub unsigned : List ℕ → List ℕ
unsigned [] = []
unsigned (c ∷ w) = cond (eqb c 43) w (c ∷ w)

unfoldable pub natural : List ℕ → ℕ
natural w = digits 10 0 (unsigned w)

-- [+-]?[0-9]+
unfoldable pub integer : List ℕ → ℤ
integer [] = pos 0
integer (c ∷ w) = cond (eqb c 45) (neg_ℤ (pos (digits 10 0 w))) (pos (natural (c ∷ w)))

-- 0[xX][0-9a-fA-F]+, read as unsigned
unfoldable pub hex : List ℕ → ℤ
hex w = pos (digits 16 0 (drop 2 w))

unfoldable pub value : Lexeme → ℤ
value (lexeme t w l) = cond (is t T.HexLiteral) (hex w) (integer w)

-- THE RANGE of a signed number of 32 bits: -2147483648 to 2147483647
unfoldable pub i32 : ℤ → Bool
i32 z = not (lt_z z (neg_ℤ (pos 2147483648))) && not (lt_z (pos 2147483647) z)

unfoldable pub sized : ℕ → ℕ → Option ℕ
sized most n = cond (leb n most) (Some n) None

unfoldable pub fitted : ℤ → Option ℤ
fitted z = cond (i32 z) (Some z) None
