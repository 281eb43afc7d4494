-- Definitions without places, made again of their shapes. What shapes that no definition has give does not matter.
--     rebuild   the definitions
use mathlib.Core.Bool.{Bool, true, cond, not, ◌&&◌, ◌||◌}
use mathlib.Core.List.{List, [], ◌∷◌}
use Rattle.std.specs.Prelude.{Option, Some, None}
use Prim.Native.Nat.{ℕ}
use lib.Dec.{eqb, leb}
use Rattle.token.specs.Regex.{bytes as ascii}
use Rattle.token.specs.Scan.{scan}
use Rattle.token.specs.declared.Token.{Token}
use Rattle.token.specs.declared.Token.TheVariants as T
use Rattle.token.specs.Scanned.{Scan}
use Rattle.lexer.specs.Tokens.{Lexeme, lexeme}
use Rattle.ast.specs.Lists.{maps}
use Rattle.ast.specs.Ast.{
  FieldType,
  CommonType,
  ListType,
  SetType,
  MapType,
  FieldInitialValue,
  ConstValue,
  ConstList,
  ConstMap,
  Elements,
  nil,
  cons,
  Properties,
  pnil,
  pcons,
  Annotation,
  annotation,
  Annotations,
  absent,
  annotations,
  Required,
  default,
  required,
  optional,
  Field,
  field,
  EnumMember,
  member,
  Function,
  function,
  Structure,
  Struct,
  Union,
  Exception,
  Definition,
  Include,
  CppInclude,
  Namespace,
  Const,
  Typedef,
  Enum,
  structure,
  Service,
}
use Rattle.ast.proofs.Forget.{nowhere}
use Rattle.demand.specs.Agree.{Shape, shape, Shapes, no_shape, and_shape}

-- ---- lexemes

unfoldable pub kind_by : Scan → Token
kind_by None = T.Identifier
kind_by (Some (k, n)) = k

-- the lexeme of these bytes
unfoldable pub spelled : List ℕ → Lexeme
spelled w = lexeme (kind_by (scan w)) w nowhere

unfoldable pub leaf_of : Shape → Lexeme
leaf_of (shape k f w c ts) = spelled w

-- ---- the parts of a node

unfoldable pub head : Shapes → Shape
head no_shape = shape 0 0 [] [] no_shape
head (and_shape s ss) = s

unfoldable pub tail : Shapes → Shapes
tail no_shape = no_shape
tail (and_shape s ss) = ss

-- a test of the kind and the flags
unfoldable pub holds : (ℕ → ℕ → Bool) → Shape → Bool
holds p (shape k f w c ts) = p k f

-- the parts that pass a test
unfoldable pub select : {A : Type 0} → (ℕ → ℕ → Bool) → (Shape → A) → Shapes → List A
select p f no_shape = []
select p f (and_shape s ss) = cond (holds p s) (f s ∷ select p f ss) (select p f ss)

unfoldable pub first : {A : Type 0} → List A → Option A
first [] = None
first (x ∷ xs) = Some x

unfoldable pub anything : ℕ → ℕ → Bool
anything k f = true

unfoldable pub a_name : ℕ → ℕ → Bool
a_name k f = eqb k 16

unfoldable pub a_function : ℕ → ℕ → Bool
a_function k f = eqb k 11

unfoldable pub a_member : ℕ → ℕ → Bool
a_member k f = eqb k 13

-- a field of a structure, a parameter; a thrown field
unfoldable pub a_field : ℕ → ℕ → Bool
a_field k f = eqb k 12 && leb f 15

unfoldable pub a_thrown : ℕ → ℕ → Bool
a_thrown k f = eqb k 12 && leb 16 f

unfoldable pub an_id : ℕ → ℕ → Bool
an_id k f = eqb k 17

unfoldable pub an_annotations : ℕ → ℕ → Bool
an_annotations k f = eqb k 14

unfoldable pub no_annotations : ℕ → ℕ → Bool
no_annotations k f = not (eqb k 14)

-- ---- types and values

unfoldable mutual
  pub type_of : Shape → FieldType
  type_of (shape k f w c ts) =
      cond (eqb k 20) (ListType nowhere (spelled (ascii "list")) (type_first ts))
      (cond (eqb k 21) (SetType nowhere (spelled (ascii "set")) (type_first ts))
      (cond (eqb k 22) (MapType nowhere (spelled (ascii "map")) (type_first ts) (type_second ts)) (CommonType (spelled w))))

  pub type_first : Shapes → FieldType
  type_first no_shape = CommonType (spelled [])
  type_first (and_shape s ss) = type_of s

  pub type_second : Shapes → FieldType
  type_second no_shape = CommonType (spelled [])
  type_second (and_shape s ss) = type_first ss

unfoldable mutual
  pub value_of : Shape → FieldInitialValue
  value_of (shape k f w c ts) =
      cond (eqb k 29) (ConstList nowhere (elements_of ts)) (cond (eqb k 30) (ConstMap nowhere (properties_of ts)) (ConstValue (spelled w)))

  pub elements_of : Shapes → Elements
  elements_of no_shape = nil
  elements_of (and_shape s ss) = cons (value_of s) (elements_of ss)

  pub properties_of : Shapes → Properties
  properties_of no_shape = pnil
  properties_of (and_shape s ss) = pcons nowhere (key_of s) (entry_of s) (properties_of ss)

  pub key_of : Shape → FieldInitialValue
  key_of (shape k f w c ts) = value_first ts

  pub entry_of : Shape → FieldInitialValue
  entry_of (shape k f w c ts) = value_second ts

  pub value_first : Shapes → FieldInitialValue
  value_first no_shape = ConstValue (spelled [])
  value_first (and_shape s ss) = value_of s

  pub value_second : Shapes → FieldInitialValue
  value_second no_shape = ConstValue (spelled [])
  value_second (and_shape s ss) = value_first ss

-- ---- annotations

unfoldable pub annotation_of : Shape → Annotation
annotation_of (shape k f w c ts) = annotation nowhere (leaf_of (head ts)) (leaf_of (head (tail ts)))

unfoldable pub annotations_of : Shape → Annotations
annotations_of (shape k f w c ts) = annotations nowhere (select anything annotation_of ts)

unfoldable pub annotations_first : List Annotations → Annotations
annotations_first [] = absent
annotations_first (a ∷ rest) = a

unfoldable pub annotations_in : Shapes → Annotations
annotations_in ts = annotations_first (select an_annotations annotations_of ts)

-- ---- fields, members, functions

unfoldable pub required_of : ℕ → Required
required_of f = cond (eqb f 1 || eqb f 17) required (cond (eqb f 2 || eqb f 18) optional default)

-- behind the name
unfoldable pub field_with : Option Lexeme → FieldType → Lexeme → Required → List Lexeme → Shapes → Field
field_with i t n q c r = field nowhere c i q t n (first (select no_annotations value_of r)) (annotations_in r)

-- behind the id, if there is one
unfoldable pub field_from : Option Lexeme → Required → List Lexeme → Shapes → Field
field_from i q c ts = field_with i (type_of (head ts)) (leaf_of (head (tail ts))) q c (tail (tail ts))

unfoldable pub field_of : Shape → Field
field_of (shape k f w c ts) =
    cond (holds an_id (head ts)) (field_from (Some (leaf_of (head ts))) (required_of f) (maps spelled c) (tail ts)) (field_from None (required_of f) (maps spelled c) ts)

unfoldable pub member_of : Shape → EnumMember
member_of (shape k f w c ts) =
    member nowhere (maps spelled c) (leaf_of (head ts)) (first (select no_annotations leaf_of (tail ts))) (annotations_in (tail ts))

-- the flags of a function
unfoldable pub oneway_by : ℕ → Bool
oneway_by f = eqb f 4 || eqb f 12

unfoldable pub throws_by : ℕ → List Field → Option (List Field)
throws_by f th = cond (leb 8 f) (Some th) None

unfoldable pub function_with : FieldType → Lexeme → ℕ → List Lexeme → Shapes → Function
function_with t n f c r =
    function nowhere c (oneway_by f) t n (select a_field field_of r) (throws_by f (select a_thrown field_of r)) (annotations_in r)

unfoldable pub function_of : Shape → Function
function_of (shape k f w c ts) = function_with (type_of (head ts)) (leaf_of (head (tail ts))) f (maps spelled c) (tail (tail ts))

-- ---- definitions

unfoldable pub structure_of : ℕ → Structure
structure_of k = cond (eqb k 7) Struct (cond (eqb k 8) Union Exception)

-- one whose first part is a name, and one whose first part is a type
unfoldable pub named_by : ℕ → List Lexeme → Lexeme → Shapes → Definition
named_by k c n r =
    cond (eqb k 1) (Include nowhere c n)
    (cond (eqb k 2) (CppInclude nowhere c n)
    (cond (eqb k 3) (Namespace nowhere c n (leaf_of (head r)))
    (cond (eqb k 6) (Enum nowhere c n (select a_member member_of r) (annotations_in r))
    (cond (eqb k 10) (Service nowhere c n (first (select a_name leaf_of r)) (select a_function function_of r) (annotations_in r))
    (structure (structure_of k) nowhere c n (select a_field field_of r) (annotations_in r))))))

unfoldable pub typed_by : ℕ → List Lexeme → FieldType → Shapes → Definition
typed_by k c t r =
    cond (eqb k 4) (Const nowhere c t (leaf_of (head r)) (value_of (head (tail r)))) (Typedef nowhere c t (leaf_of (head r)))

unfoldable pub definition_of : Shape → Definition
definition_of (shape k f w c ts) =
    cond (eqb k 4 || eqb k 5) (typed_by k (maps spelled c) (type_of (head ts)) (tail ts)) (named_by k (maps spelled c) (leaf_of (head ts)) (tail ts))

unfoldable pub rebuild : Shapes → List Definition
rebuild = select anything definition_of
