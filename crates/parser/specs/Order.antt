-- Where the tokens of a text stand.
use Rattle.std.specs.Prelude.{List, [], ◌∷◌, ℕ, ◌<◌, ◌≤◌}
use Rattle.token.specs.declared.Token.{Token}
use Rattle.token.specs.declared.Token.TheVariants as T
use Rattle.lexer.specs.declared.location.LOC.{LOC}
use Rattle.lexer.specs.Tokens.{Lexeme}
use Rattle.parser.specs.Steps.{place}

-- the index of a token's first byte, and one past its last byte's
unfoldable pub token_start : Lexeme → ℕ
token_start t = (place t).start.index

unfoldable pub token_end : Lexeme → ℕ
token_end t = (place t).end.index

-- tokens that are nonempty, in text order and without overlap, from the index a on and inside a text of n bytes
pub data InOrder (n : ℕ) : ℕ → List Lexeme → Type 0 where
  no_token_law : {a : ℕ} → a ≤ n → InOrder n a []
  one_token : {a : ℕ} {t : Lexeme} {ts : List Lexeme} → a ≤ token_start t → token_start t < token_end t → InOrder n (token_end t) ts → InOrder n a (t ∷ ts)

-- the place of the last of the tokens, and l if there are none
unfoldable pub final : LOC → List Lexeme → LOC
final l [] = l
final l (t ∷ ts) = final (place t) ts

-- what may stand between definitions: separators and comments
abbrev pub gap_kinds : List Token
gap_kinds = T.Comma ∷ T.Semicolon ∷ T.LineComment ∷ T.BlockComment ∷ []
