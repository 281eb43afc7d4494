-- The readers of parser's Values and Definitions that read a list or a field, with the loop's constant n and the rule for a field's id as parameters; at 65537 and parser's rule they are those (proofs/Anchor).
use Rattle.std.specs.Prelude.{List, [], ◌∷◌, ℕ, suc, zero}
use Rattle.std.specs.Prelude.{Option, Some, None}
use Rattle.token.specs.Code.{is}
use Rattle.token.specs.declared.Token.{Token}
use Rattle.token.specs.declared.Token.TheVariants as T
use Rattle.lexer.specs.Error.{UnexpectedToken, InvalidFieldName, MissingConstIdentifier, MissingEnumIdentifier, MissingStructIdentifier, MissingServiceIdentifier, InvalidEnumMemberName, TooDeep}
use Rattle.lexer.specs.Outcome.{Outcome, accepted, refused}
use Rattle.lexer.specs.Location.{between, opening}
use Rattle.lexer.specs.Tokens.{Lexeme, tokens}
use Rattle.lexer.specs.Check.{checked}
use Rattle.ast.specs.Ast.{
  FieldInitialValue,
  ConstList,
  ConstMap,
  nil,
  cons,
  pnil,
  Annotations,
  absent,
  annotations,
  Field,
  field,
  EnumMember,
  member,
  Function,
  function,
  Structure,
  Struct,
  Union,
  Exception,
  Definition,
  Include,
  CppInclude,
  Const,
  Enum,
  structure,
  Service,
}
use Rattle.parser.specs.Steps.{◌>>=◌, ◌>>◌, pos, Res, P, pure, test, kind, place, span, when, next, want, fail, start, here, taken, refuse, skip_trivia, loop}
use Rattle.parser.specs.Values.{values_end, put, map_property, value_by}
use Rattle.parser.specs.Definitions.{
  nesting,
  parse_type,
  parse_annotation,
  annotations_end,
  parse_field_id,
  parse_required,
  field_names,
  members_end,
  parse_return_type,
  parse_oneway,
  parse_initializer,
  parse_include,
  parse_namespace,
  parse_typedef,
  parse_extends,
  document_end,
}
use Rattle.parser.specs.Read.{answered}

-- ---- values

unfoldable pub list_value : ℕ → P FieldInitialValue → Lexeme → P FieldInitialValue
list_value n value t = do
  vs ← loop nil cons (values_end T.RightBracket) value n
  e ← here
  pure (ConstList (span (place t) e) vs)

unfoldable pub map_value : ℕ → P FieldInitialValue → Lexeme → P FieldInitialValue
map_value n value t = do
  ps ← loop pnil put (values_end T.RightBrace) (map_property value) n
  e ← here
  pure (ConstMap (span (place t) e) ps)

unfoldable pub container_value : ℕ → P FieldInitialValue → Lexeme → P FieldInitialValue
container_value n value t = test (is (kind t) T.LeftBracket) (list_value n value t) (map_value n value t)

unfoldable pub field_value : ℕ → ℕ → P FieldInitialValue
field_value n zero = value_by (refuse TooDeep)
field_value n (suc d) = value_by (container_value n (field_value n d))

unfoldable pub parse_value : ℕ → P FieldInitialValue
parse_value n = field_value n nesting

-- ---- annotations

unfoldable pub parse_annotations : ℕ → P Annotations
parse_annotations n =
    when (T.LeftParen ∷ [])
    (do
      b ← here
      next
      xs ← loop [] ◌∷◌ annotations_end parse_annotation n
      e ← here
      pure (annotations (span b e) xs))
    (pure absent)

-- ---- fields

unfoldable pub parse_default : ℕ → P (Option FieldInitialValue)
parse_default n = when (T.Equals ∷ []) (do next; v ← parse_value n; pure (Some v)) (pure None)

unfoldable pub parse_field : P (Option Lexeme) → ℕ → P Field
parse_field rule n = do
  c ← taken
  b ← start
  i ← rule
  r ← parse_required
  t ← parse_type
  m ← want field_names InvalidFieldName
  v ← parse_default n
  a ← parse_annotations n
  e ← here
  pure (field (span b e) c i r t m v a)

unfoldable pub parse_members : {A : Type 0} → ℕ → Token → Token → P A → P (List A)
parse_members n l r p = do
  want (l ∷ []) UnexpectedToken
  loop [] ◌∷◌ (members_end r) p n

unfoldable pub parse_parameters : P (Option Lexeme) → ℕ → P (List Field)
parse_parameters rule n = parse_members n T.LeftParen T.RightParen (parse_field rule n)

-- ---- functions

unfoldable pub parse_throws : P (Option Lexeme) → ℕ → P (Option (List Field))
parse_throws rule n = when (T.Throws ∷ []) (do next; fs ← parse_parameters rule n; pure (Some fs)) (pure None)

unfoldable pub parse_function : P (Option Lexeme) → ℕ → P Function
parse_function rule n = do
  c ← taken
  o ← parse_oneway
  t ← parse_return_type
  m ← want (T.Identifier ∷ []) UnexpectedToken
  ps ← parse_parameters rule n
  th ← parse_throws rule n
  skip_trivia
  a ← parse_annotations n
  e ← here
  pure (function (span (place m) e) c o t m ps th a)

-- ---- enum members

unfoldable pub parse_enum_member : ℕ → P EnumMember
parse_enum_member n = do
  c ← taken
  m ← want (T.Identifier ∷ []) InvalidEnumMemberName
  v ← parse_initializer
  a ← parse_annotations n
  e ← here
  pure (member (span (place m) e) c m v a)

-- ---- definitions

unfoldable pub parse_const : ℕ → P Definition
parse_const n = do
  c ← taken
  k ← next
  t ← parse_type
  m ← want (T.Identifier ∷ []) MissingConstIdentifier
  want (T.Equals ∷ []) UnexpectedToken
  v ← parse_value n
  e ← here
  skip_trivia
  pure (Const (span (place k) e) c t m v)

unfoldable pub parse_enum : ℕ → P Definition
parse_enum n = do
  c ← taken
  k ← next
  m ← want (T.Identifier ∷ []) MissingEnumIdentifier
  xs ← parse_members n T.LeftBrace T.RightBrace (parse_enum_member n)
  a ← parse_annotations n
  e ← here
  pure (Enum (span (place k) e) c m xs a)

unfoldable pub parse_structure : P (Option Lexeme) → ℕ → Structure → P Definition
parse_structure rule n s = do
  c ← taken
  k ← next
  m ← want (T.Identifier ∷ []) MissingStructIdentifier
  xs ← parse_members n T.LeftBrace T.RightBrace (parse_field rule n)
  a ← parse_annotations n
  e ← here
  pure (structure s (span (place k) e) c m xs a)

unfoldable pub parse_service : P (Option Lexeme) → ℕ → P Definition
parse_service rule n = do
  c ← taken
  k ← next
  m ← want (T.Identifier ∷ []) MissingServiceIdentifier
  x ← parse_extends
  xs ← parse_members n T.LeftBrace T.RightBrace (parse_function rule n)
  a ← parse_annotations n
  e ← here
  pure (Service (span (place k) e) c m x xs a)

unfoldable pub parse_definition : P (Option Lexeme) → ℕ → P Definition
parse_definition rule n =
    when (T.Include ∷ []) (parse_include Include)
    (when (T.CppInclude ∷ []) (parse_include CppInclude)
    (when (T.Namespace ∷ []) parse_namespace
    (when (T.Const ∷ []) (parse_const n)
    (when (T.Typedef ∷ []) parse_typedef
    (when (T.Enum ∷ []) (parse_enum n)
    (when (T.Struct ∷ []) (parse_structure rule n Struct)
    (when (T.Union ∷ []) (parse_structure rule n Union)
    (when (T.Exception ∷ []) (parse_structure rule n Exception)
    (when (T.Service ∷ []) (parse_service rule n)
    (fail UnexpectedToken))))))))))

unfoldable pub parse_document : P (Option Lexeme) → ℕ → P (List Definition)
parse_document rule n = loop [] ◌∷◌ document_end (parse_definition rule n) n

-- ---- a text

unfoldable pub parsed : ℕ → List ℕ → Res (List Definition)
parsed n t = parse_document parse_field_id n (pos (between opening opening) [] (tokens t opening))

unfoldable pub outcome_by : ℕ → Outcome (List ℕ) → List ℕ → Outcome (List Definition)
outcome_by n (accepted ns) t = answered (parsed n t) t
outcome_by n (refused e p l) t = refused e p l

unfoldable pub outcome : ℕ → List ℕ → Outcome (List Definition)
outcome n t = outcome_by n (checked t) t
