-- The tokens of a print, read off its pieces, and the pieces that stand apart. The places are forgotten.
--     toks          the tokens of the pieces
--     Sep           blanks are blanks, a token is one by itself, and what follows it ends it
use mathlib.Core.Path.{◌≡◌}
use mathlib.Core.Bool.{true, false}
use mathlib.Core.List.{List, [], ◌∷◌}
use Prim.Native.Nat.{ℕ}
use lib.ListN.{length}
use Rattle.token.specs.Code.{among}
use Rattle.token.specs.Scan.{scan}
use Rattle.token.specs.Breaks.{Stops, Bytes}
use Rattle.token.specs.declared.Token.{Token}
use Rattle.token.specs.declared.Token.TheVariants as T
use Rattle.std.specs.Prelude.{Some}
use Rattle.lexer.specs.Tokens.{Lexeme, lexeme, skipped}
use Rattle.utf8.specs.Utf8.{WellFormed}
use Rattle.ast.proofs.Forget.{nowhere}
use Rattle.writer.specs.Print.{Piece, gap, mark, word, note, bytes_of}

-- ---- the tokens of the pieces

unfoldable pub toks : List Piece → List Lexeme
toks [] = []
toks (gap b ∷ r) = toks r
toks (mark k b ∷ r) = lexeme k (b ∷ []) nowhere ∷ toks r
toks (word k w ∷ r) = lexeme k w nowhere ∷ toks r
toks (note k w ∷ r) = lexeme k w nowhere ∷ toks r

-- ---- the pieces stand apart

-- spaces and newlines
pub data Blanks : List ℕ → Type 0 where
  bnil : Blanks []
  bspace : {b : List ℕ} → Blanks b → Blanks (32 ∷ b)
  bline : {b : List ℕ} → Blanks b → Blanks (10 ∷ b)

-- the marks of the printer
pub data Mark : Token → ℕ → Type 0 where
  left_brace : Mark T.LeftBrace 123
  right_brace : Mark T.RightBrace 125
  left_bracket : Mark T.LeftBracket 91
  right_bracket : Mark T.RightBracket 93
  left_angle : Mark T.LeftAngle 60
  right_angle : Mark T.RightAngle 62
  left_paren : Mark T.LeftParen 40
  right_paren : Mark T.RightParen 41
  colon : Mark T.Colon 58
  comma : Mark T.Comma 44
  equals : Mark T.Equals 61

-- by itself w is a token of the kind k, and no blank
pub record Good (k : Token) (w : List ℕ) : Type 0 where
  pub bytes : Bytes w
  pub scanned : scan w ≡ Some (k, length w)
  pub solid : skipped k ≡ false
  pub formed : WellFormed w

pub data Sep : List Piece → Type 0 where
  snil : Sep []
  sgap : {b : List ℕ} {r : List Piece} → Blanks b → Sep r → Sep (gap b ∷ r)
  smark : {k : Token} {b : ℕ} {r : List Piece} → Mark k b → Sep r → Sep (mark k b ∷ r)
  sword : {k : Token} {w : List ℕ} {r : List Piece} → Good k w → Stops k (bytes_of r) → Sep r → Sep (word k w ∷ r)
  snote : {k : Token} {w : List ℕ} {r : List Piece} → Good k w → among k (T.LineComment ∷ T.BlockComment ∷ []) ≡ true → Sep r → Sep (note k w ∷ r)
