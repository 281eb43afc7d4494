-- Trees whose places are moved, by any map of spans: a place goes where its start and its end go.
use Rattle.std.specs.Prelude.{List, [], ◌∷◌, ℕ, ◌+◌, set}
use Rattle.lexer.specs.declared.location.Span.{Span}
use Rattle.lexer.specs.declared.location.LOC.{LOC}
use Rattle.lexer.specs.Tokens.{Lexeme, lexeme}
use Rattle.ast.specs.Column.{Start, End}
use Rattle.ast.specs.Lists.{maps, opt}
use Rattle.ast.specs.Ast.{FieldType, CommonType, ListType, SetType, MapType, FieldInitialValue, ConstValue, ConstList, ConstMap, Elements, nil, cons, Properties, pnil, pcons, Annotation, annotation, Annotations, absent, annotations, Field, field, EnumMember, member, Function, function, Definition, Include, CppInclude, Namespace, Const, Typedef, Enum, structure, Service}

abbrev pub move_loc : (Span → Span) → LOC → LOC
move_loc h l = record { start = h l.start; end = h l.end }

unfoldable pub move_l : (Span → Span) → Lexeme → Lexeme
move_l h (lexeme k w l) = lexeme k w (move_loc h l)

unfoldable pub moves : (Span → Span) → List Lexeme → List Lexeme
moves h [] = []
moves h (t ∷ ts) = move_l h t ∷ moves h ts

unfoldable pub move_type : (Span → Span) → FieldType → FieldType
move_type h (CommonType t) = CommonType (move_l h t)
move_type h (ListType l k t) = ListType (move_loc h l) (move_l h k) (move_type h t)
move_type h (SetType l k t) = SetType (move_loc h l) (move_l h k) (move_type h t)
move_type h (MapType l k a b) = MapType (move_loc h l) (move_l h k) (move_type h a) (move_type h b)

unfoldable mutual
  pub move_value : (Span → Span) → FieldInitialValue → FieldInitialValue
  move_value h (ConstValue t) = ConstValue (move_l h t)
  move_value h (ConstList l vs) = ConstList (move_loc h l) (move_elements h vs)
  move_value h (ConstMap l ps) = ConstMap (move_loc h l) (move_properties h ps)

  pub move_elements : (Span → Span) → Elements → Elements
  move_elements h nil = nil
  move_elements h (cons v vs) = cons (move_value h v) (move_elements h vs)

  pub move_properties : (Span → Span) → Properties → Properties
  move_properties h pnil = pnil
  move_properties h (pcons l k v ps) = pcons (move_loc h l) (move_value h k) (move_value h v) (move_properties h ps)

unfoldable pub move_annotation : (Span → Span) → Annotation → Annotation
move_annotation h (annotation l n v) = annotation (move_loc h l) (move_l h n) (move_l h v)

unfoldable pub move_annotations : (Span → Span) → Annotations → Annotations
move_annotations h absent = absent
move_annotations h (annotations l xs) = annotations (move_loc h l) (maps (move_annotation h) xs)

unfoldable pub move_field : (Span → Span) → Field → Field
move_field h (field l c i r t n v a) =
    field (move_loc h l) (moves h c) (opt (move_l h) i) r (move_type h t) (move_l h n) (opt (move_value h) v) (move_annotations h a)

unfoldable pub move_member : (Span → Span) → EnumMember → EnumMember
move_member h (member l c n v a) = member (move_loc h l) (moves h c) (move_l h n) (opt (move_l h) v) (move_annotations h a)

unfoldable pub move_function : (Span → Span) → Function → Function
move_function h (function l c o t n ps th a) =
    function (move_loc h l) (moves h c) o (move_type h t) (move_l h n) (maps (move_field h) ps) (opt (maps (move_field h)) th) (move_annotations h a)

unfoldable pub move_definition : (Span → Span) → Definition → Definition
move_definition h (Include l c n) = Include (move_loc h l) (moves h c) (move_l h n)
move_definition h (CppInclude l c n) = CppInclude (move_loc h l) (moves h c) (move_l h n)
move_definition h (Namespace l c s n) = Namespace (move_loc h l) (moves h c) (move_l h s) (move_l h n)
move_definition h (Const l c t n v) = Const (move_loc h l) (moves h c) (move_type h t) (move_l h n) (move_value h v)
move_definition h (Typedef l c t n) = Typedef (move_loc h l) (moves h c) (move_type h t) (move_l h n)
move_definition h (Enum l c n xs a) = Enum (move_loc h l) (moves h c) (move_l h n) (maps (move_member h) xs) (move_annotations h a)
move_definition h (structure s l c n xs a) =
    structure s (move_loc h l) (moves h c) (move_l h n) (maps (move_field h) xs) (move_annotations h a)
move_definition h (Service l c n x xs a) =
    Service (move_loc h l) (moves h c) (move_l h n) (opt (move_l h) x) (maps (move_function h) xs) (move_annotations h a)

unfoldable pub move : (Span → Span) → List Definition → List Definition
move h = maps (move_definition h)

-- ---- without lines and columns

-- the index alone
unfoldable pub unlined : Span → Span
unlined s = record { line = 0; column = 0; index = s.index }

-- a record without its four lines and columns
unfoldable pub unlined_row : List ℕ → List ℕ
unlined_row r = set (set (set (set r (Start + 1) 0) (Start + 2) 0) (End + 1) 0) (End + 2) 0
