-- Constant values: rico's parser/values.rs.
use Rattle.std.specs.Prelude.{Bool, List, [], ◌∷◌, ℕ, suc, zero}
use Rattle.token.specs.Code.{is, among}
use Rattle.token.specs.declared.Token.{Token}
use Rattle.token.specs.declared.Token.TheVariants as T
use Rattle.lexer.specs.declared.location.LOC.{LOC}
use Rattle.lexer.specs.Error.{UnexpectedToken, InvalidValueDeclaration, TooDeep}
use Rattle.lexer.specs.Tokens.{Lexeme}
use Rattle.ast.specs.Ast.{FieldInitialValue, ConstValue, ConstList, ConstMap, nil, cons, Properties, pnil, pcons}
use Rattle.parser.specs.Steps.{◌>>=◌, ◌>>◌, P, pure, test, kind, place, span, next, want, start, here, refuse, skip_separator, skip_comments_discard, closed, many}

abbrev pub leaf_values : List Token
leaf_values = T.StringLiteral ∷ T.IntegerLiteral ∷ T.DoubleLiteral ∷ T.BooleanLiteral ∷ T.HexLiteral ∷ T.Identifier ∷ []

abbrev pub openers : List Token
openers = T.LeftBracket ∷ T.LeftBrace ∷ []

-- parse_delimited_values, before an element: separators, then comments, discarded; then the closing bracket or not
unfoldable pub values_end : Token → P Bool
values_end k = do
  skip_separator
  skip_comments_discard
  closed k

-- MapProperty: its range, key and value
pub data Property : Type 0 where
  property : LOC → FieldInitialValue → FieldInitialValue → Property

unfoldable pub put : Property → Properties → Properties
put (property l k v) ps = pcons l k v ps

-- Property ::= Value ':' Value
unfoldable pub map_property : P FieldInitialValue → P Property
map_property value = do
  b ← start
  k ← value
  want (T.Colon ∷ []) UnexpectedToken
  v ← value
  e ← here
  pure (property (span b e) k v)

-- parse_list_value, parse_map_value: the bracket t was taken
-- List ::= '[' (Separator* Comment* Value)* Separator* Comment* ']'
unfoldable pub list_value : P FieldInitialValue → Lexeme → P FieldInitialValue
list_value value t = do
  vs ← many nil cons (values_end T.RightBracket) value
  e ← here
  pure (ConstList (span (place t) e) vs)

-- Map ::= '{' (Separator* Comment* Property)* Separator* Comment* '}'
unfoldable pub map_value : P FieldInitialValue → Lexeme → P FieldInitialValue
map_value value t = do
  ps ← many pnil put (values_end T.RightBrace) (map_property value)
  e ← here
  pure (ConstMap (span (place t) e) ps)

unfoldable pub container_value : P FieldInitialValue → Lexeme → P FieldInitialValue
container_value value t = test (is (kind t) T.LeftBracket) (list_value value t) (map_value value t)

-- parse_field_value_opt
unfoldable pub value_by : (Lexeme → P FieldInitialValue) → P FieldInitialValue
value_by inside = do
  t ← next
  test (among (kind t) leaf_values) (pure (ConstValue t)) (test (among (kind t) openers) (inside t) (refuse InvalidValueDeclaration t))

-- parse_field_value, with so many containers left: the next one inside is 23 at its bracket
-- Value ::= string | integer | double | boolean | hex | name | List | Map
unfoldable pub field_value : ℕ → P FieldInitialValue
field_value zero = value_by (refuse TooDeep)
field_value (suc d) = value_by (container_value (field_value d))
