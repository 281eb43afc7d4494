-- The shape of a tree says nothing of places.
--     shapes_forget   without places the definitions have the same shapes
use mathlib.Core.Path.{◌≡◌, refl}
use mathlib.Core.List.{List, [], ◌∷◌}
use Rattle.std.specs.Prelude.{Option, Some, None}
use Prim.Native.Nat.{ℕ}
use Rattle.lexer.specs.Tokens.{Lexeme, lexeme}
use Rattle.ast.specs.Lists.{maps, opt}
use Rattle.ast.specs.Ast.{
  FieldType,
  CommonType,
  ListType,
  SetType,
  MapType,
  FieldInitialValue,
  ConstValue,
  ConstList,
  ConstMap,
  Elements,
  nil,
  cons,
  Properties,
  pnil,
  pcons,
  Annotation,
  annotation,
  Annotations,
  absent,
  annotations,
  Field,
  field,
  EnumMember,
  member,
  Function,
  function,
  Definition,
  Include,
  CppInclude,
  Namespace,
  Const,
  Typedef,
  Enum,
  structure,
  Service,
}
use Rattle.ast.specs.Tree.{
  Tree,
  Forest,
  bare,
  leaf,
  inner,
  single,
  both,
  each,
  perhaps,
  name_tree,
  id_tree,
  type_tree,
  literal_tree,
  value_tree,
  element_trees,
  property_trees,
  annotation_tree,
  annotations_tree,
  field_tree,
  member_tree,
  throws_flag,
  throws_trees,
  function_tree,
  definition_tree,
}
use Rattle.ast.specs.Records.{forest}
use Rattle.ast.specs.Move.{move_l, moves, move_type, move_value, move_elements, move_properties, move_annotation, move_annotations, move_field, move_member, move_function, move_definition, move}
use Rattle.ast.proofs.Forget.{bare_l, bares, forget_type, forget_value, forget_elements, forget_properties, forget_annotation, forget_annotations, forget_field, forget_member, forget_function, forget_definition, forget}
use Rattle.demand.specs.Agree.{note_bytes, shape_of, shapes_of}

-- ---- the parts of a forest

record Same (r q : Forest) : Type 0 where
  same : shapes_of r ≡ shapes_of q

bare_same : Same bare bare
bare_same = record { same = refl }

module _ {A : Type 0} (t : A → Tree) (g : A → A) (one : (x : A) → shape_of (t (g x)) ≡ shape_of (t x)) where
  each_same : (xs : List A) {r q : Forest} → Same r q → Same (each t (maps g xs) r) (each t xs q)
  unfolding shapes_of each maps
  each_same [] e = e
  each_same (x ∷ xs) e = let h = each_same xs e in record { same = cc (one x) }

  perhaps_same : (o : Option A) {r q : Forest} → Same r q → Same (perhaps t (opt g o) r) (perhaps t o q)
  unfolding shapes_of perhaps opt
  perhaps_same None e = e
  perhaps_same (Some x) e = record { same = cc (one x) }

-- ---- lexemes

notes_same : (c : List Lexeme) → maps note_bytes (bares c) ≡ maps note_bytes c
unfolding maps note_bytes moves move_l
notes_same [] = refl
notes_same (lexeme k w l ∷ c) = cc (notes_same c)

leaf_same : (k : ℕ) (t : Lexeme) → shape_of (leaf k (bare_l t)) ≡ shape_of (leaf k t)
unfolding shape_of leaf move_l
leaf_same k (lexeme t w l) = refl

name_same : (t : Lexeme) → shape_of (name_tree (bare_l t)) ≡ shape_of (name_tree t)
unfolding name_tree
name_same t = leaf_same 16 t

id_same : (t : Lexeme) → shape_of (id_tree (bare_l t)) ≡ shape_of (id_tree t)
unfolding id_tree
id_same t = leaf_same 17 t

literal_same : (t : Lexeme) → shape_of (literal_tree (bare_l t)) ≡ shape_of (literal_tree t)
unfolding literal_tree shape_of leaf move_l
literal_same (lexeme t w l) = refl

-- ---- types, values, annotations

type_same : (t : FieldType) → shape_of (type_tree (forget_type t)) ≡ shape_of (type_tree t)
unfolding shape_of shapes_of type_tree move_type leaf move_l inner single both
type_same (CommonType (lexeme t w l)) = refl
type_same (ListType l k t) = cc (type_same t)
type_same (SetType l k t) = cc (type_same t)
type_same (MapType l k a b) = cc (type_same a, type_same b)

mutual
  unfolding shape_of shapes_of value_tree element_trees property_trees move_value move_elements move_properties inner both single

  value_same : (v : FieldInitialValue) → shape_of (value_tree (forget_value v)) ≡ shape_of (value_tree v)
  value_same (ConstValue t) = literal_same t
  value_same (ConstList l vs) = cc (elements_same vs)
  value_same (ConstMap l ps) = cc (properties_same ps)

  elements_same : (vs : Elements) → shapes_of (element_trees (forget_elements vs)) ≡ shapes_of (element_trees vs)
  elements_same nil = refl
  elements_same (cons v vs) = cc (value_same v, elements_same vs)

  properties_same : (ps : Properties) → shapes_of (property_trees (forget_properties ps)) ≡ shapes_of (property_trees ps)
  properties_same pnil = refl
  properties_same (pcons l k v ps) = cc (value_same k, value_same v, properties_same ps)

annotation_same : (a : Annotation) → shape_of (annotation_tree (forget_annotation a)) ≡ shape_of (annotation_tree a)
unfolding shape_of shapes_of annotation_tree move_annotation inner both single
annotation_same (annotation l n v) = cc (name_same n, literal_same v)

annotations_same : (a : Annotations) → Same (annotations_tree (forget_annotations a) bare) (annotations_tree a bare)
unfolding shape_of shapes_of annotations_tree move_annotations inner
annotations_same absent = bare_same
annotations_same (annotations l xs) = record { same = cc (each_same annotation_tree forget_annotation annotation_same xs bare_same).same }

-- ---- fields, members, functions, definitions

field_same : (f : ℕ) (x : Field) → shape_of (field_tree f (forget_field x)) ≡ shape_of (field_tree f x)
unfolding shape_of shapes_of field_tree move_field perhaps opt
field_same f (field l c None r t n v a) =
    cc (notes_same c, type_same t, name_same n, (perhaps_same value_tree forget_value value_same v (annotations_same a)).same)
field_same f (field l c (Some i) r t n v a) =
    cc (notes_same c, id_same i, type_same t, name_same n, (perhaps_same value_tree forget_value value_same v (annotations_same a)).same)

member_same : (x : EnumMember) → shape_of (member_tree (forget_member x)) ≡ shape_of (member_tree x)
unfolding shape_of shapes_of member_tree move_member
member_same (member l c n v a) = cc (notes_same c, name_same n, (perhaps_same literal_tree bare_l literal_same v (annotations_same a)).same)

function_same : (x : Function) → shape_of (function_tree (forget_function x)) ≡ shape_of (function_tree x)
unfolding shape_of shapes_of function_tree move_function throws_flag throws_trees opt
function_same (function l c o t n ps None a) =
    cc (notes_same c, type_same t, name_same n, (each_same (field_tree 0) forget_field (field_same 0) ps (annotations_same a)).same)
function_same (function l c o t n ps (Some th) a) =
    cc
    (notes_same c, type_same t, name_same n, (each_same (field_tree 0) forget_field (field_same 0) ps (each_same (field_tree 16) forget_field (field_same 16) th (annotations_same a))).same)

definition_same : (d : Definition) → shape_of (definition_tree (forget_definition d)) ≡ shape_of (definition_tree d)
unfolding shape_of shapes_of definition_tree move_definition both single
definition_same (Include l c n) = cc (notes_same c, name_same n)
definition_same (CppInclude l c n) = cc (notes_same c, name_same n)
definition_same (Namespace l c s n) = cc (notes_same c, name_same s, name_same n)
definition_same (Const l c t n v) = cc (notes_same c, type_same t, name_same n, value_same v)
definition_same (Typedef l c t n) = cc (notes_same c, type_same t, name_same n)
definition_same (Enum l c n xs a) = cc (notes_same c, name_same n, (each_same member_tree forget_member member_same xs (annotations_same a)).same)
definition_same (structure s l c n xs a) = cc (notes_same c, name_same n, (each_same (field_tree 0) forget_field (field_same 0) xs (annotations_same a)).same)
definition_same (Service l c n x xs a) =
    cc
    (notes_same c, name_same n, (perhaps_same name_tree bare_l name_same x (each_same function_tree forget_function function_same xs (annotations_same a))).same)

pub shapes_forget : (ds : List Definition) → shapes_of (forest (forget ds)) ≡ shapes_of (forest ds)
unfolding forest move
shapes_forget ds = (each_same definition_tree forget_definition definition_same ds bare_same).same
