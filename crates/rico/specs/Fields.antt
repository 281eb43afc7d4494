-- rico's own rule for a field that begins with no integer, and where a field is begun (document 02, Change 4).
use Rattle.std.specs.Prelude.{Option, None}
use Rattle.std.specs.Prelude.{ℕ}
use Rattle.lexer.specs.Tokens.{Lexeme}
use Rattle.parser.specs.Steps.{◌>>◌, MissingTypeDeclaration, P, pure, fail, needs, next}
use Rattle.parser.specs.Definitions.{id_or}

-- parse_field_id: without an id the first token, of any kind, is passed over. With no token left there is no field, and the type is missing
-- FieldId ::= integer ':' | token
unfoldable pub parse_field_id : P (Option Lexeme)
parse_field_id = id_or (needs MissingTypeDeclaration (do next; pure None))

-- A field is begun where the steps come to the rule for its id with a token in hand. This rule refuses it there, with e, if that token is no integer.
-- With no token left the type is missing, as above
unfoldable pub stopping : ℕ → P (Option Lexeme)
stopping e = id_or (needs MissingTypeDeclaration (fail e))
