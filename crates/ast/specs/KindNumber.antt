-- The kinds of the code, and their numbers.
use Rattle.std.specs.Prelude.{◌≡◌, ℕ, List, [], ◌∷◌, Option, Some, None, Result, Ok, Err, get_or}
use Rattle.ast.specs.Kind as K
use Rattle.ast.specs.declared.kind.Kind.{Kind}
use Rattle.ast.specs.declared.kind.Kind.TheVariants as V
use Rattle.ast.specs.declared.kind.UnknownKind.{UnknownKind}

abbrev pub number_of : Kind → ℕ
number_of V.Include = K.Include
number_of V.CppInclude = K.CppInclude
number_of V.Namespace = K.Namespace
number_of V.Const = K.Const
number_of V.Typedef = K.Typedef
number_of V.Enum = K.Enum
number_of V.Struct = K.Struct
number_of V.Union = K.Union
number_of V.Exception = K.Exception
number_of V.Service = K.Service
number_of V.Function = K.Function
number_of V.Field = K.Field
number_of V.EnumMember = K.EnumMember
number_of V.Annotations = K.Annotations
number_of V.Annotation = K.Annotation
number_of V.Name = K.Name
number_of V.FieldId = K.FieldId
number_of V.KeywordType = K.KeywordType
number_of V.NamedType = K.NamedType
number_of V.List = K.List
number_of V.Set = K.Set
number_of V.Map = K.Map
number_of V.String = K.String
number_of V.Integer = K.Integer
number_of V.Double = K.Double
number_of V.Boolean = K.Boolean
number_of V.Hex = K.Hex
number_of V.NameValue = K.NameValue
number_of V.ListValue = K.ListValue
number_of V.MapValue = K.MapValue
number_of V.Property = K.Property
number_of V.LineComment = K.LineComment
number_of V.BlockComment = K.BlockComment

-- the kinds, each at its number
unfoldable pub kinds : List (Option Kind)
kinds =
    None
    ∷ Some V.Include
    ∷ Some V.CppInclude
    ∷ Some V.Namespace
    ∷ Some V.Const
    ∷ Some V.Typedef
    ∷ Some V.Enum
    ∷ Some V.Struct
    ∷ Some V.Union
    ∷ Some V.Exception
    ∷ Some V.Service
    ∷ Some V.Function
    ∷ Some V.Field
    ∷ Some V.EnumMember
    ∷ Some V.Annotations
    ∷ Some V.Annotation
    ∷ Some V.Name
    ∷ Some V.FieldId
    ∷ Some V.KeywordType
    ∷ Some V.NamedType
    ∷ Some V.List
    ∷ Some V.Set
    ∷ Some V.Map
    ∷ Some V.String
    ∷ Some V.Integer
    ∷ Some V.Double
    ∷ Some V.Boolean
    ∷ Some V.Hex
    ∷ Some V.NameValue
    ∷ Some V.ListValue
    ∷ Some V.MapValue
    ∷ Some V.Property
    ∷ Some V.LineComment
    ∷ Some V.BlockComment
    ∷ []

-- the kind with a number
unfoldable pub kind_of : ℕ → Option Kind
kind_of n = get_or kinds n None

-- the number of a kind, 0 of none
unfoldable pub number_or_none : Option Kind → ℕ
number_or_none None = 0
number_or_none (Some k) = number_of k

-- the kind with this number, or an error with a number that no kind has
abbrev pub Decodes : ℕ → Result Kind UnknownKind → Type 0
Decodes n (Ok k) = kind_of n ≡ Some k
Decodes n (Err e) = (kind_of n ≡ None) × (e.0 ≡ n)
