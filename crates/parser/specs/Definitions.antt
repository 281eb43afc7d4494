-- Definitions: rico's parser/definitions.rs, function by function.
use Rattle.std.specs.Prelude.{Bool, true, false, cond, not, ◌&&◌, List, [], ◌∷◌, ℕ, ◌+◌, ◌*◌, ◌-◌, ◌^◌, eqb, ltb}
use Rattle.std.specs.Prelude.{Option, Some, None}
use Rattle.token.specs.declared.Token.{Token}
use Rattle.token.specs.declared.Token.TheVariants as T
use Rattle.lexer.specs.declared.location.LOC.{LOC}
use Rattle.lexer.specs.Error.{UnrecognizedToken, UnexpectedToken, InvalidValueDeclaration, InvalidFieldName, InvalidFieldId, MissingNamespaceIdentifier, MissingNamespaceScope, MissingIncludeIdentifier, MissingConstIdentifier, MissingTypedefIdentifier, MissingEnumIdentifier, MissingStructIdentifier, MissingServiceIdentifier, MissingServiceExtends, InvalidEnumMemberName}
use Rattle.lexer.specs.Tokens.{Lexeme}
use Rattle.ast.specs.Ast.{
  FieldType,
  CommonType,
  FieldInitialValue,
  Annotation,
  annotation,
  Annotations,
  absent,
  annotations,
  Required,
  default,
  required,
  optional,
  Field,
  field,
  EnumMember,
  member,
  Function,
  function,
  Structure,
  Struct,
  Union,
  Exception,
  Definition,
  Include,
  CppInclude,
  Namespace,
  Const,
  Typedef,
  Enum,
  structure,
  Service,
}
use Rattle.parser.specs.Steps.{◌>>=◌, ◌>>◌, pos, ok, P, pure, test, bytes, place, span, InvalidReturnType, when, needs, next, want, fail, start, here, taken, refuse, skip_separator, skip_comments, skip_comments_discard, skip_trivia, separators, closed, many}
use Rattle.parser.specs.Types.{field_type}
use Rattle.parser.specs.Values.{field_value}

-- up to 32 containers inside one another
abbrev pub nesting : ℕ
nesting = 32

unfoldable pub parse_type : P FieldType
parse_type = field_type nesting

unfoldable pub parse_value : P FieldInitialValue
parse_value = field_value nesting

-- ---- annotations

-- at most one separator behind an annotation
unfoldable pub one_separator : P (Unit {0})
one_separator = when separators (do next; pure tt) (pure tt)

-- Annotation ::= name '=' string Separator?
unfoldable pub parse_annotation : P Annotation
parse_annotation = do
  t ← want (T.Identifier ∷ []) UnexpectedToken
  want (T.Equals ∷ []) UnexpectedToken
  v ← want (T.StringLiteral ∷ []) UnexpectedToken
  one_separator
  pure (annotation (span (place t) (place v)) t v)

unfoldable pub annotations_end : P Bool
annotations_end = do
  skip_comments_discard
  closed T.RightParen

-- parse_annotations: they start at the token before `(`
-- Annotations ::= '(' (Comment* Annotation)* Comment* ')'
unfoldable pub parse_annotations : P Annotations
parse_annotations =
    when (T.LeftParen ∷ [])
    (do
      b ← here
      next
      xs ← many [] ◌∷◌ annotations_end parse_annotation
      e ← here
      pure (annotations (span b e) xs))
    (pure absent)

-- ---- fields

-- the value of decimal digits
unfoldable pub decimal : ℕ → List ℕ → ℕ
decimal n [] = n
decimal n (c ∷ w) = decimal (n * 10 + (c - 48)) w

-- Rust's parse::<u64>: a leading `+` is allowed, a `-` is not
unfoldable pub is_id : List ℕ → Bool
is_id [] = false
is_id (c ∷ w) = not (eqb c 45) && ltb (cond (eqb c 43) (decimal 0 w) (decimal 0 (c ∷ w))) (2 ^ 64)

-- parse_field_id: an integer is the id, and `:` must follow; at any other token, or none, the steps go on with `other`
abbrev pub id_or : P (Option Lexeme) → P (Option Lexeme)
id_or other =
    when (T.IntegerLiteral ∷ [])
    (do
      t ← next
      test (is_id (bytes t)) (do want (T.Colon ∷ []) UnexpectedToken; pure (Some t)) (refuse InvalidFieldId t))
    other

-- THE FIELD RULE: without an id no token is taken (document 02, Change 4; rico's own rule is in `rico/specs/Fields`)
-- FieldId ::= integer ':'
unfoldable pub parse_field_id : P (Option Lexeme)
parse_field_id = id_or (pure None)

-- Required ::= 'required' | 'optional'
unfoldable pub parse_required : P Required
parse_required =
    when (T.Required ∷ []) (do next; pure required)
    (when (T.Optional ∷ []) (do next; pure optional) (pure default))

-- parse_field_name
abbrev pub field_names : List Token
field_names =
    T.Identifier ∷ T.Namespace ∷ T.Include ∷ T.List ∷ T.Map ∷ T.Set ∷ T.Oneway ∷ T.Required ∷ T.Optional ∷ T.Throws ∷ T.Bool ∷ T.Byte ∷ T.I8 ∷ T.I16
    ∷ T.I32 ∷ T.I64 ∷ T.String ∷ T.Binary ∷ T.Extends ∷ T.Struct ∷ T.Double ∷ T.Service ∷ T.Enum ∷ []

-- Default ::= '=' Value
unfoldable pub parse_default : P (Option FieldInitialValue)
parse_default = when (T.Equals ∷ []) (do next; v ← parse_value; pure (Some v)) (pure None)

-- Field ::= FieldId? Required? Type FieldName Default? Annotations?
unfoldable pub parse_field : P Field
parse_field = do
  c ← taken
  b ← start
  i ← parse_field_id
  r ← parse_required
  t ← parse_type
  m ← want field_names InvalidFieldName
  v ← parse_default
  a ← parse_annotations
  e ← here
  pure (field (span b e) c i r t m v a)

-- parse_members, parse_parameters: one step, separators, comments; then the closing bracket or a member.
-- (parse_parameters also passes a separator behind a member, which the next turn would pass as well)
unfoldable pub members_end : Token → P Bool
members_end k = do
  skip_separator
  skip_comments
  closed k

-- X* in brackets, of members X, is (Separator* Comment* X)* Separator* Comment*
unfoldable pub parse_members : {A : Type 0} → Token → Token → P A → P (List A)
parse_members l r p = do
  want (l ∷ []) UnexpectedToken
  many [] ◌∷◌ (members_end r) p

unfoldable pub parse_parameters : P (List Field)
parse_parameters = parse_members T.LeftParen T.RightParen parse_field

-- ---- functions

-- Throws ::= 'throws' '(' Field* ')'
unfoldable pub parse_throws : P (Option (List Field))
parse_throws = when (T.Throws ∷ []) (do next; fs ← parse_parameters; pure (Some fs)) (pure None)

-- ReturnType ::= 'void' | Type
unfoldable pub parse_return_type : P FieldType
parse_return_type = when (T.Void ∷ []) (do t ← next; pure (CommonType t)) (needs InvalidReturnType parse_type)

unfoldable pub parse_oneway : P Bool
parse_oneway = when (T.Oneway ∷ []) (do next; pure true) (pure false)

-- Function ::= 'oneway'? ReturnType name '(' Field* ')' Throws? (Separator | Comment)* Annotations?
unfoldable pub parse_function : P Function
parse_function = do
  c ← taken
  o ← parse_oneway
  t ← parse_return_type
  m ← want (T.Identifier ∷ []) UnexpectedToken
  ps ← parse_parameters
  th ← parse_throws
  skip_trivia
  a ← parse_annotations
  e ← here
  pure (function (span (place m) e) c o t m ps th a)

-- ---- enum members

-- Initializer ::= '=' (hex | integer)
unfoldable pub parse_initializer : P (Option Lexeme)
parse_initializer =
    when (T.Equals ∷ [])
    (do
      next
      t ← want (T.IntegerLiteral ∷ T.HexLiteral ∷ []) InvalidValueDeclaration
      pure (Some t))
    (pure None)

-- EnumMember ::= name Initializer? Annotations?
unfoldable pub parse_enum_member : P EnumMember
parse_enum_member = do
  c ← taken
  m ← want (T.Identifier ∷ []) InvalidEnumMemberName
  v ← parse_initializer
  a ← parse_annotations
  e ← here
  pure (member (span (place m) e) c m v a)

-- ---- definitions, the keyword in hand

-- Include ::= ('include' | 'cpp_include') string
unfoldable pub parse_include : (LOC → List Lexeme → Lexeme → Definition) → P Definition
parse_include create = do
  c ← taken
  k ← next
  m ← want (T.StringLiteral ∷ []) MissingIncludeIdentifier
  pure (create (span (place k) (place m)) c m)

-- Namespace ::= 'namespace' (name | '*') name
unfoldable pub parse_namespace : P Definition
parse_namespace = do
  c ← taken
  k ← next
  s ← want (T.Identifier ∷ T.Star ∷ []) MissingNamespaceScope
  m ← want (T.Identifier ∷ []) MissingNamespaceIdentifier
  pure (Namespace (span (place k) (place m)) c s m)

-- Const ::= 'const' Type name '=' Value (Separator | Comment)*
unfoldable pub parse_const : P Definition
parse_const = do
  c ← taken
  k ← next
  t ← parse_type
  m ← want (T.Identifier ∷ []) MissingConstIdentifier
  want (T.Equals ∷ []) UnexpectedToken
  v ← parse_value
  e ← here
  skip_trivia
  pure (Const (span (place k) e) c t m v)

-- Typedef ::= 'typedef' Type name
unfoldable pub parse_typedef : P Definition
parse_typedef = do
  c ← taken
  k ← next
  t ← parse_type
  m ← want (T.Identifier ∷ []) MissingTypedefIdentifier
  pure (Typedef (span (place k) (place m)) c t m)

-- Enum ::= 'enum' name '{' EnumMember* '}' Annotations?
unfoldable pub parse_enum : P Definition
parse_enum = do
  c ← taken
  k ← next
  m ← want (T.Identifier ∷ []) MissingEnumIdentifier
  xs ← parse_members T.LeftBrace T.RightBrace parse_enum_member
  a ← parse_annotations
  e ← here
  pure (Enum (span (place k) e) c m xs a)

-- parse_struct_like
-- Structure ::= ('struct' | 'union' | 'exception') name '{' Field* '}' Annotations?
unfoldable pub parse_structure : Structure → P Definition
parse_structure s = do
  c ← taken
  k ← next
  m ← want (T.Identifier ∷ []) MissingStructIdentifier
  xs ← parse_members T.LeftBrace T.RightBrace parse_field
  a ← parse_annotations
  e ← here
  pure (structure s (span (place k) e) c m xs a)

-- Extends ::= 'extends' name
unfoldable pub parse_extends : P (Option Lexeme)
parse_extends = when (T.Extends ∷ []) (do next; t ← want (T.Identifier ∷ []) MissingServiceExtends; pure (Some t)) (pure None)

-- Service ::= 'service' name Extends? '{' Function* '}' Annotations?
unfoldable pub parse_service : P Definition
parse_service = do
  c ← taken
  k ← next
  m ← want (T.Identifier ∷ []) MissingServiceIdentifier
  x ← parse_extends
  xs ← parse_members T.LeftBrace T.RightBrace parse_function
  a ← parse_annotations
  e ← here
  pure (Service (span (place k) e) c m x xs a)

-- ---- the document: parse of parser/mod.rs

-- Definition ::= Include | Namespace | Const | Typedef | Enum | Structure | Service
unfoldable pub parse_definition : P Definition
parse_definition =
    when (T.Include ∷ []) (parse_include Include)
    (when (T.CppInclude ∷ []) (parse_include CppInclude)
    (when (T.Namespace ∷ []) parse_namespace
    (when (T.Const ∷ []) parse_const
    (when (T.Typedef ∷ []) parse_typedef
    (when (T.Enum ∷ []) parse_enum
    (when (T.Struct ∷ []) (parse_structure Struct)
    (when (T.Union ∷ []) (parse_structure Union)
    (when (T.Exception ∷ []) (parse_structure Exception)
    (when (T.Service ∷ []) parse_service
    (fail UnexpectedToken))))))))))

-- with no token left: the end, unless the last token ends at offset 1
unfoldable pub over : P Bool
over (pos l c []) = test (eqb l.end.index 1) (fail UnrecognizedToken) (pure true) (pos l c [])
over (pos l c (t ∷ ts)) = ok false (pos l c (t ∷ ts))

unfoldable pub document_end : P Bool
document_end = do
  skip_separator
  skip_comments
  skip_separator
  over

-- Document ::= (Gap Definition)* Gap; Gap ::= Separator* Comment* Separator*
unfoldable pub parse_document : P (List Definition)
parse_document = many [] ◌∷◌ document_end parse_definition
