-- The nodes of document 01's records as trees: kind, flags, range, bytes, owned comments, children in the order they are read.
use Rattle.std.specs.Prelude.{Bool, true, false, cond, List, [], ◌∷◌, ℕ, ◌+◌}
use Rattle.std.specs.Prelude.{Option, Some, None}
use Rattle.token.specs.Code.{is}
use Rattle.token.specs.declared.Token.{Token}
use Rattle.token.specs.declared.Token.TheVariants as T
use Rattle.lexer.specs.declared.location.LOC.{LOC}
use Rattle.lexer.specs.Tokens.{Lexeme, lexeme}
use Rattle.ast.specs.Kind as K
use Rattle.ast.specs.Ast.{
  FieldType,
  CommonType,
  ListType,
  SetType,
  MapType,
  FieldInitialValue,
  ConstValue,
  ConstList,
  ConstMap,
  Elements,
  nil,
  cons,
  Properties,
  pnil,
  pcons,
  Annotation,
  annotation,
  Annotations,
  absent,
  annotations,
  Required,
  default,
  required,
  optional,
  Field,
  field,
  EnumMember,
  member,
  Function,
  function,
  Structure,
  Struct,
  Union,
  Exception,
  Definition,
  Include,
  CppInclude,
  Namespace,
  Const,
  Typedef,
  Enum,
  structure,
  Service,
}

mutual
  pub data Tree : Type 0 where
    node : ℕ → ℕ → LOC → List ℕ → List Lexeme → Forest → Tree

  pub data Forest : Type 0 where
    bare : Forest
    grown : Tree → Forest → Forest

-- a node that is one token
unfoldable pub leaf : ℕ → Lexeme → Tree
leaf k (lexeme t w l) = node k 0 l w [] bare

-- a node with children alone
unfoldable pub inner : ℕ → LOC → Forest → Tree
inner k l f = node k 0 l [] [] f

unfoldable pub single : Tree → Forest
single t = grown t bare

unfoldable pub both : Tree → Tree → Forest
both a b = grown a (single b)

-- the trees of a list, of an optional part, before others
unfoldable pub each : {A : Type 0} → (A → Tree) → List A → Forest → Forest
each f [] r = r
each f (x ∷ xs) r = grown (f x) (each f xs r)

unfoldable pub perhaps : {A : Type 0} → (A → Tree) → Option A → Forest → Forest
perhaps f None r = r
perhaps f (Some x) r = grown (f x) r

unfoldable pub name_tree : Lexeme → Tree
name_tree t = leaf K.Name t

unfoldable pub id_tree : Lexeme → Tree
id_tree t = leaf K.FieldId t

unfoldable pub type_tree : FieldType → Tree
type_tree (CommonType (lexeme t w l)) = leaf (cond (is t T.Identifier) K.NamedType K.KeywordType) (lexeme t w l)
type_tree (ListType l k t) = inner K.List l (single (type_tree t))
type_tree (SetType l k t) = inner K.Set l (single (type_tree t))
type_tree (MapType l k a b) = inner K.Map l (both (type_tree a) (type_tree b))

unfoldable pub value_kind : Token → ℕ
value_kind t =
    cond (is t T.StringLiteral) K.String
    (cond (is t T.IntegerLiteral) K.Integer (cond (is t T.DoubleLiteral) K.Double (cond (is t T.BooleanLiteral) K.Boolean (cond (is t T.HexLiteral) K.Hex K.NameValue))))

unfoldable pub literal_tree : Lexeme → Tree
literal_tree (lexeme t w l) = leaf (value_kind t) (lexeme t w l)

unfoldable mutual
  pub value_tree : FieldInitialValue → Tree
  value_tree (ConstValue t) = literal_tree t
  value_tree (ConstList l vs) = inner K.ListValue l (element_trees vs)
  value_tree (ConstMap l ps) = inner K.MapValue l (property_trees ps)

  pub element_trees : Elements → Forest
  element_trees nil = bare
  element_trees (cons v vs) = grown (value_tree v) (element_trees vs)

  pub property_trees : Properties → Forest
  property_trees pnil = bare
  property_trees (pcons l k v ps) = grown (inner K.Property l (both (value_tree k) (value_tree v))) (property_trees ps)

unfoldable pub annotation_tree : Annotation → Tree
annotation_tree (annotation l n v) = inner K.Annotation l (both (name_tree n) (literal_tree v))

unfoldable pub annotations_tree : Annotations → Forest → Forest
annotations_tree absent r = r
annotations_tree (annotations l xs) r = grown (inner K.Annotations l (each annotation_tree xs bare)) r

unfoldable pub required_flag : Required → ℕ
required_flag default = 0
required_flag required = K.Required
required_flag optional = K.Optional

-- a field, with a further flag
unfoldable pub field_tree : ℕ → Field → Tree
field_tree f (field l c i r t n v a) =
    node K.Field (required_flag r + f) l [] c (perhaps id_tree i (grown (type_tree t) (grown (name_tree n) (perhaps value_tree v (annotations_tree a bare)))))

unfoldable pub member_tree : EnumMember → Tree
member_tree (member l c n v a) = node K.EnumMember 0 l [] c (grown (name_tree n) (perhaps literal_tree v (annotations_tree a bare)))

unfoldable pub oneway_flag : Bool → ℕ
oneway_flag true = K.Oneway
oneway_flag false = 0

unfoldable pub throws_flag : Option (List Field) → ℕ
throws_flag None = 0
throws_flag (Some fs) = K.Throws

unfoldable pub throws_trees : Option (List Field) → Forest → Forest
throws_trees None r = r
throws_trees (Some fs) r = each (field_tree K.Thrown) fs r

unfoldable pub function_tree : Function → Tree
function_tree (function l c o t n ps th a) =
    node K.Function (oneway_flag o + throws_flag th) l [] c
    (grown (type_tree t) (grown (name_tree n) (each (field_tree 0) ps (throws_trees th (annotations_tree a bare)))))

unfoldable pub structure_kind : Structure → ℕ
structure_kind Struct = K.Struct
structure_kind Union = K.Union
structure_kind Exception = K.Exception

unfoldable pub definition_tree : Definition → Tree
definition_tree (Include l c n) = node K.Include 0 l [] c (single (name_tree n))
definition_tree (CppInclude l c n) = node K.CppInclude 0 l [] c (single (name_tree n))
definition_tree (Namespace l c s n) = node K.Namespace 0 l [] c (both (name_tree s) (name_tree n))
definition_tree (Const l c t n v) = node K.Const 0 l [] c (grown (type_tree t) (both (name_tree n) (value_tree v)))
definition_tree (Typedef l c t n) = node K.Typedef 0 l [] c (both (type_tree t) (name_tree n))
definition_tree (Enum l c n ms a) = node K.Enum 0 l [] c (grown (name_tree n) (each member_tree ms (annotations_tree a bare)))
definition_tree (structure s l c n fs a) = node (structure_kind s) 0 l [] c (grown (name_tree n) (each (field_tree 0) fs (annotations_tree a bare)))
definition_tree (Service l c n x fs a) =
    node K.Service 0 l [] c (grown (name_tree n) (perhaps name_tree x (each function_tree fs (annotations_tree a bare))))
