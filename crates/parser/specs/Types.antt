-- Types: rico's parser/types.rs.
use Rattle.std.specs.Prelude.{List, [], ◌∷◌, ℕ, suc, zero}
use Rattle.token.specs.Code.{is, among}
use Rattle.token.specs.declared.Token.{Token}
use Rattle.token.specs.declared.Token.TheVariants as T
use Rattle.lexer.specs.declared.location.LOC.{LOC}
use Rattle.lexer.specs.Error.{UnexpectedToken, UnsupportedType, TooDeep}
use Rattle.lexer.specs.Tokens.{Lexeme}
use Rattle.ast.specs.Ast.{FieldType, CommonType, ListType, SetType, MapType}
use Rattle.parser.specs.Steps.{◌>>=◌, ◌>>◌, P, pure, test, kind, place, span, MissingTypeDeclaration, needs, next, want, here, refuse}

-- a type by itself: a keyword, or a name
abbrev pub leaf_types : List Token
leaf_types = T.Binary ∷ T.String ∷ T.Byte ∷ T.I8 ∷ T.I16 ∷ T.I32 ∷ T.I64 ∷ T.Double ∷ T.Bool ∷ T.Identifier ∷ []

abbrev pub container_types : List Token
container_types = T.List ∷ T.Map ∷ T.Set ∷ []

-- parse_complex_type: `<`, a type, `>`
unfoldable pub complex_type : (LOC → Lexeme → FieldType → FieldType) → P FieldType → Lexeme → P FieldType
complex_type create inner t = do
  want (T.LeftAngle ∷ []) UnexpectedToken
  a ← inner
  want (T.RightAngle ∷ []) UnexpectedToken
  e ← here
  pure (create (span (place t) e) t a)

-- parse_map_type
unfoldable pub map_type : P FieldType → Lexeme → P FieldType
map_type inner t = do
  want (T.LeftAngle ∷ []) UnexpectedToken
  a ← inner
  want (T.Comma ∷ []) UnexpectedToken
  b ← inner
  want (T.RightAngle ∷ []) UnexpectedToken
  e ← here
  pure (MapType (span (place t) e) t a b)

-- a container whose keyword is t
unfoldable pub container_type : P FieldType → Lexeme → P FieldType
container_type inner t =
    test (is (kind t) T.List) (complex_type ListType inner t) (test (is (kind t) T.Set) (complex_type SetType inner t) (map_type inner t))

-- parse_field_type_opt: step, then by the token in hand; `inside` reads a container
unfoldable pub type_by : (Lexeme → P FieldType) → P FieldType
type_by inside = needs MissingTypeDeclaration do
  t ← next
  test (among (kind t) leaf_types) (pure (CommonType t)) (test (among (kind t) container_types) (inside t) (refuse UnsupportedType t))

-- parse_field_type, with so many containers left: the next one inside is 23 at its keyword
-- Type ::= keyword | name | ('list' | 'set') '<' Type '>' | 'map' '<' Type ',' Type '>'
unfoldable pub field_type : ℕ → P FieldType
field_type zero = type_by (refuse TooDeep)
field_type (suc d) = type_by (container_type (field_type d))
