-- The print looks at no place, and at nothing that drop_params drops.
--     print_move     a tree whose places are moved, by any map of spans, is printed as the tree
--     print_forget   so is a tree without its places
--     print_drop     so is one without the comments, requiredness and annotations of parameters and thrown fields
use mathlib.Core.Path.{◌≡◌, refl, ap}
use mathlib.Core.List.{List, [], ◌∷◌}
use Rattle.std.specs.Prelude.{Option, Some, None}
use Prim.Native.Nat.{ℕ}
use Rattle.token.specs.declared.Token.TheVariants as T
use Rattle.lexer.specs.declared.location.Span.{Span}
use Rattle.lexer.specs.Tokens.{Lexeme, lexeme}
use Rattle.ast.specs.Ast.{
  FieldType,
  CommonType,
  ListType,
  SetType,
  MapType,
  FieldInitialValue,
  ConstValue,
  ConstList,
  ConstMap,
  Elements,
  nil,
  cons,
  Properties,
  pnil,
  pcons,
  Annotation,
  annotation,
  Annotations,
  absent,
  annotations,
  Field,
  field,
  EnumMember,
  member,
  Function,
  function,
  Definition,
  Include,
  CppInclude,
  Namespace,
  Const,
  Typedef,
  Enum,
  structure,
  Service,
}
use Rattle.ast.specs.Lists.{maps, opt}
use Rattle.ast.specs.Drop.{drop_field, drop_function, drop_params}
use Rattle.ast.specs.Move.{move_l, moves, move_type, move_value, move_elements, move_properties, move_annotation, move_annotations, move_field, move_member, move_function, move_definition, move}
use Rattle.ast.proofs.Forget.{gone, forget}
use Rattle.writer.specs.Print.{
  Piece,
  mark,
  space,
  bytes_of,
  own,
  write_type,
  write_value,
  write_elements,
  more_elements,
  write_properties,
  more_properties,
  write_each,
  commas,
  nothing,
  write_annotation,
  write_annotations,
  write_comment,
  write_comments,
  write_id,
  write_default,
  write_field,
  write_param,
  write_initializer,
  write_member,
  write_throws,
  write_function,
  write_body,
  write_extends,
  write_definition,
  pieces,
  printed,
}

-- a list whose members are printed alike
each_alike : {A : Type 0} (between : List A → List Piece → List Piece) (write : A → List Piece → List Piece) (f : A → A) →
    ((xs : List A) (r : List Piece) → between (maps f xs) r ≡ between xs r) → ((x : A) (r : List Piece) → write (f x) r ≡ write x r) →
    (xs : List A) (r : List Piece) → write_each between write (maps f xs) r ≡ write_each between write xs r
unfolding write_each maps
each_alike between write f g h [] r = refl
each_alike between write f g h (x ∷ xs) r = simp (h x, g xs, each_alike between write f g h xs r)

commas_alike : {A : Type 0} (f : A → A) (xs : List A) (r : List Piece) → commas (maps f xs) r ≡ commas xs r
unfolding commas maps
commas_alike f [] r = refl
commas_alike f (x ∷ xs) r = refl

nothing_alike : {A : Type 0} (f : A → A) (xs : List A) (r : List Piece) → nothing (maps f xs) r ≡ nothing xs r
unfolding nothing
nothing_alike f xs r = refl

-- ---- places moved

module _ (h : Span → Span) where
  own_move : (t : Lexeme) → own (move_l h t) ≡ own t
  unfolding own move_l
  own_move (lexeme k w l) = refl

  comment_move : (t : Lexeme) → write_comment (move_l h t) ≡ write_comment t
  unfolding write_comment move_l
  comment_move (lexeme k w l) = refl

  comments_move : (ind : List ℕ) (c : List Lexeme) (r : List Piece) → write_comments ind (moves h c) r ≡ write_comments ind c r
  unfolding write_comments moves
  comments_move ind [] r = refl
  comments_move ind (t ∷ c) r = simp (comment_move, comments_move ind c r)

  type_move : (t : FieldType) (r : List Piece) → write_type (move_type h t) r ≡ write_type t r
  unfolding write_type move_type
  type_move (CommonType t) r = simp own_move
  type_move (ListType l k t) r = simp (own_move, type_move t)
  type_move (SetType l k t) r = simp (own_move, type_move t)
  type_move (MapType l k a b) r = simp (own_move, type_move a, type_move b)

  mutual
    unfolding write_value write_elements more_elements write_properties more_properties move_value move_elements move_properties

    value_move : (v : FieldInitialValue) (r : List Piece) → write_value (move_value h v) r ≡ write_value v r
    value_move (ConstValue t) r = simp own_move
    value_move (ConstList l vs) r = simp (elements_move vs (mark T.RightBracket 93 ∷ r))
    value_move (ConstMap l ps) r = simp (properties_move ps (mark T.RightBrace 125 ∷ r))

    elements_move : (vs : Elements) (r : List Piece) → write_elements (move_elements h vs) r ≡ write_elements vs r
    elements_move nil r = refl
    elements_move (cons v vs) r = simp (more_elements_move vs r, value_move v (more_elements vs r))

    more_elements_move : (vs : Elements) (r : List Piece) → more_elements (move_elements h vs) r ≡ more_elements vs r
    more_elements_move nil r = refl
    more_elements_move (cons v vs) r = simp (more_elements_move vs r, value_move v (more_elements vs r))

    properties_move : (ps : Properties) (r : List Piece) → write_properties (move_properties h ps) r ≡ write_properties ps r
    properties_move pnil r = refl
    properties_move (pcons l k v ps) r =
        simp (more_properties_move ps r, value_move v (more_properties ps r), value_move k (mark T.Colon 58 ∷ space ∷ write_value v (more_properties ps r)))

    more_properties_move : (ps : Properties) (r : List Piece) → more_properties (move_properties h ps) r ≡ more_properties ps r
    more_properties_move pnil r = refl
    more_properties_move (pcons l k v ps) r =
        simp (more_properties_move ps r, value_move v (more_properties ps r), value_move k (mark T.Colon 58 ∷ space ∷ write_value v (more_properties ps r)))

  annotation_move : (a : Annotation) (r : List Piece) → write_annotation (move_annotation h a) r ≡ write_annotation a r
  unfolding write_annotation move_annotation
  annotation_move (annotation l n v) r = simp own_move

  annotations_move : (a : Annotations) (r : List Piece) → write_annotations (move_annotations h a) r ≡ write_annotations a r
  unfolding write_annotations move_annotations
  annotations_move absent r = refl
  annotations_move (annotations l xs) r = simp (each_alike commas write_annotation (move_annotation h) (commas_alike (move_annotation h)) annotation_move xs)

  id_move : (i : Option Lexeme) (r : List Piece) → write_id (opt (move_l h) i) r ≡ write_id i r
  unfolding write_id opt
  id_move None r = refl
  id_move (Some t) r = simp own_move

  default_move : (v : Option FieldInitialValue) (r : List Piece) → write_default (opt (move_value h) v) r ≡ write_default v r
  unfolding write_default opt
  default_move None r = refl
  default_move (Some v) r = simp (value_move v)

  initializer_move : (i : Option Lexeme) (r : List Piece) → write_initializer (opt (move_l h) i) r ≡ write_initializer i r
  unfolding write_initializer opt
  initializer_move None r = refl
  initializer_move (Some t) r = simp own_move

  extends_move : (i : Option Lexeme) (r : List Piece) → write_extends (opt (move_l h) i) r ≡ write_extends i r
  unfolding write_extends opt
  extends_move None r = refl
  extends_move (Some t) r = simp own_move

  field_move : (ind : List ℕ) (f : Field) (r : List Piece) → write_field ind (move_field h f) r ≡ write_field ind f r
  unfolding write_field move_field
  field_move ind (field l c i q t n v a) r = simp (comments_move, id_move, type_move, own_move, default_move, annotations_move)

  param_move : (f : Field) (r : List Piece) → write_param (move_field h f) r ≡ write_param f r
  unfolding write_param move_field
  param_move (field l c i q t n v a) r = simp (id_move, type_move, own_move, default_move)

  member_move : (ind : List ℕ) (m : EnumMember) (r : List Piece) → write_member ind (move_member h m) r ≡ write_member ind m r
  unfolding write_member move_member
  member_move ind (member l c n v a) r = simp (comments_move, own_move, initializer_move, annotations_move)

  throws_move : (th : Option (List Field)) (r : List Piece) → write_throws (opt (maps (move_field h)) th) r ≡ write_throws th r
  unfolding write_throws opt
  throws_move None r = refl
  throws_move (Some fs) r = simp (each_alike commas write_param (move_field h) (commas_alike (move_field h)) param_move fs)

  function_move : (ind : List ℕ) (f : Function) (r : List Piece) → write_function ind (move_function h f) r ≡ write_function ind f r
  unfolding write_function move_function
  function_move ind (function l c o t n ps th a) r =
      simp (comments_move, type_move, own_move, each_alike commas write_param (move_field h) (commas_alike (move_field h)) param_move, throws_move, annotations_move)

  body_move : {A : Type 0} (write : A → List Piece → List Piece) (f : A → A) → ((x : A) (r : List Piece) → write (f x) r ≡ write x r) →
      (xs : List A) (a : Annotations) (r : List Piece) → write_body write (maps f xs) (move_annotations h a) r ≡ write_body write xs a r
  unfolding write_body
  body_move write f e xs a r = simp (each_alike nothing write f (nothing_alike f) e, annotations_move)

  definition_move : (ind : List ℕ) (d : Definition) (r : List Piece) → write_definition ind (move_definition h d) r ≡ write_definition ind d r
  unfolding write_definition move_definition
  definition_move ind (Include l c n) r = simp (comments_move, own_move)
  definition_move ind (CppInclude l c n) r = simp (comments_move, own_move)
  definition_move ind (Namespace l c s n) r = simp (comments_move, own_move)
  definition_move ind (Const l c t n v) r = simp (comments_move, own_move, type_move, value_move)
  definition_move ind (Typedef l c t n) r = simp (comments_move, own_move, type_move)
  definition_move ind (Enum l c n ms a) r = simp (comments_move, own_move, body_move (write_member ind) (move_member h) (member_move ind))
  definition_move ind (structure s l c n fs a) r = simp (comments_move, own_move, body_move (write_field ind) (move_field h) (field_move ind))
  definition_move ind (Service l c n x fs a) r =
      simp (comments_move, own_move, extends_move, body_move (write_function ind) (move_function h) (function_move ind))

  pub print_move : (indent : ℕ) (ds : List Definition) → printed indent (move h ds) ≡ printed indent ds
  unfolding printed pieces move
  print_move indent ds = ap bytes_of (each_alike nothing (write_definition _) (move_definition h) (nothing_alike _) (definition_move _) ds [])

pub print_forget : (indent : ℕ) (ds : List Definition) → printed indent (forget ds) ≡ printed indent ds
print_forget = print_move gone

-- ---- what drop_params drops

param_drop : (f : Field) (r : List Piece) → write_param (drop_field f) r ≡ write_param f r
unfolding write_param drop_field
param_drop (field l c i q t n v a) r = refl

throws_drop : (th : Option (List Field)) (r : List Piece) → write_throws (opt (maps drop_field) th) r ≡ write_throws th r
unfolding write_throws opt
throws_drop None r = refl
throws_drop (Some fs) r = simp (each_alike commas write_param drop_field (commas_alike drop_field) param_drop fs)

function_drop : (ind : List ℕ) (f : Function) (r : List Piece) → write_function ind (drop_function f) r ≡ write_function ind f r
unfolding write_function drop_function
function_drop ind (function l c o t n ps th a) r = simp (each_alike commas write_param drop_field (commas_alike drop_field) param_drop, throws_drop)

definition_drop : (ind : List ℕ) (d : Definition) (r : List Piece) → write_definition ind (drop_params d) r ≡ write_definition ind d r
unfolding write_definition drop_params
definition_drop ind (Include l c n) r = refl
definition_drop ind (CppInclude l c n) r = refl
definition_drop ind (Namespace l c s n) r = refl
definition_drop ind (Const l c t n v) r = refl
definition_drop ind (Typedef l c t n) r = refl
definition_drop ind (Enum l c n ms a) r = refl
definition_drop ind (structure s l c n fs a) r = refl
definition_drop ind (Service l c n x fs a) r = unfold write_body in simp (each_alike nothing (write_function ind) drop_function (nothing_alike drop_function) (function_drop ind))

pub print_drop : (indent : ℕ) (ds : List Definition) → printed indent (maps drop_params ds) ≡ printed indent ds
unfolding printed pieces
print_drop indent ds = ap bytes_of (each_alike nothing (write_definition _) drop_params (nothing_alike _) (definition_drop _) ds [])
