-- rico's own answers on the smallest texts where the port parts from it, and where a field is begun.
use mathlib.Core.Path.{refl}
use mathlib.Core.List.{List, [], ◌∷◌}
use Rattle.token.specs.Code.{code, is, among}
use Rattle.token.specs.Regex.{bytes, ranges, within, nullable, is_nothing, then, or, deriv}
use Rattle.token.specs.Patterns.{
  one_of,
  none_of,
  plus,
  opt,
  exact,
  word_rule,
  token,
  words,
  marks,
  name,
  quoted,
  digits,
  sign,
  exponent,
  point,
  stars,
  shapes,
  rest,
  rules,
}
use Rattle.token.specs.Scan.{derivs, first, keep, scan_from, scan}
use Rattle.utf8.specs.Utf8.{tail, sequences, begins, width, sequence, ill_from, ill_formed}
use Rattle.lexer.specs.Cuts.{cut_at, cuts_from, cuts, unrecognized}
use Rattle.lexer.specs.Location.{behind, span_of, between, opening}
use Rattle.lexer.specs.Tokens.{skipped}
use Rattle.lexer.specs.Check.{verdict, checked}
use Rattle.ast.specs.Tree as A
use Rattle.ast.specs.Records as R
use Rattle.parser.specs.Steps as S
use Rattle.parser.specs.Types as Y
use Rattle.parser.specs.Values as Val
use Rattle.parser.specs.Definitions as D
use Rattle.parser.specs.Read.{error, answered}
use Rattle.parser.specs.Edges.{Edge, refuses, accepts, All}
use Rattle.fuel.specs.Fueled as U
use Rattle.rico.specs.Lines as I
use Rattle.rico.specs.Fields as F
use Rattle.rico.specs.Reading as O

-- what rico answers
abbrev pub rico_edges : List Edge
rico_edges =
    -- document 01's CRLF case as it was: line 3, column 1
    accepts "\r\nenum E{}"
    ((6 ∷ 4294967295 ∷ 0 ∷ 2 ∷ 3 ∷ 1 ∷ 10 ∷ 3 ∷ 9 ∷ 2 ∷ []) ∷ (16 ∷ 0 ∷ 0 ∷ 7 ∷ 3 ∷ 6 ∷ 8 ∷ 3 ∷ 7 ∷ 2 ∷ []) ∷ [])
    []
    -- and its two cases of a field without an id: the word `required` is lost, and a type is taken for the token that is passed over
    ∷ accepts "struct A{required i32 a}"
    ((7 ∷ 4294967295 ∷ 0 ∷ 0 ∷ 1 ∷ 1 ∷ 24 ∷ 1 ∷ 25 ∷ 5 ∷ []) ∷ (16 ∷ 0 ∷ 0 ∷ 7 ∷ 1 ∷ 8 ∷ 8 ∷ 1 ∷ 9 ∷ 2 ∷ []) ∷ (12 ∷ 0 ∷ 0 ∷ 9 ∷ 1 ∷ 10 ∷ 23 ∷ 1 ∷ 24 ∷ 5 ∷ []) ∷ (18 ∷ 2 ∷ 0 ∷ 18 ∷ 1 ∷ 19 ∷ 21 ∷ 1 ∷ 22 ∷ 4 ∷ []) ∷ (16 ∷ 2 ∷ 0 ∷ 22 ∷ 1 ∷ 23 ∷ 23 ∷ 1 ∷ 24 ∷ 5 ∷ []) ∷ [])
    []
    ∷ refuses "struct A{i32 a}" 8 14 1
    -- any token is passed over
    ∷ accepts "struct A{)i8 a}"
    ((7 ∷ 4294967295 ∷ 0 ∷ 0 ∷ 1 ∷ 1 ∷ 15 ∷ 1 ∷ 16 ∷ 5 ∷ []) ∷ (16 ∷ 0 ∷ 0 ∷ 7 ∷ 1 ∷ 8 ∷ 8 ∷ 1 ∷ 9 ∷ 2 ∷ []) ∷ (12 ∷ 0 ∷ 0 ∷ 9 ∷ 1 ∷ 10 ∷ 14 ∷ 1 ∷ 15 ∷ 5 ∷ []) ∷ (18 ∷ 2 ∷ 0 ∷ 10 ∷ 1 ∷ 11 ∷ 12 ∷ 1 ∷ 13 ∷ 4 ∷ []) ∷ (16 ∷ 2 ∷ 0 ∷ 13 ∷ 1 ∷ 14 ∷ 14 ∷ 1 ∷ 15 ∷ 5 ∷ []) ∷ [])
    []
    ∷ []

-- where a begun field that starts with no integer is refused with 0: fields, parameters and thrown fields are begun; not one behind a refusal, and none with no token left
abbrev pub begun_edges : List Edge
begun_edges =
    refuses "struct A{i32 a}" 0 9 3
    ∷ refuses "service S{void f(A a)}" 0 17 1
    ∷ refuses "service S{void f()throws(E e)}" 0 25 1
    ∷ refuses "struct A{-1:i32 a i32 b}" 9 9 2
    ∷ refuses "struct A{" 3 8 1
    ∷ accepts "struct A{}"
    ((7 ∷ 4294967295 ∷ 0 ∷ 0 ∷ 1 ∷ 1 ∷ 10 ∷ 1 ∷ 11 ∷ 2 ∷ []) ∷ (16 ∷ 0 ∷ 0 ∷ 7 ∷ 1 ∷ 8 ∷ 8 ∷ 1 ∷ 9 ∷ 2 ∷ []) ∷ [])
    []
    ∷ []

pub edges_hold : All O.outcome rico_edges × All (O.outcome_with (F.stopping 0)) begun_edges
unfolding code is among bytes ranges within nullable is_nothing then or deriv one_of none_of plus opt exact word_rule token words marks name quoted digits sign exponent point stars shapes rest rules derivs first keep scan_from scan tail sequences begins width sequence ill_from ill_formed cut_at cuts_from cuts unrecognized I.ends_line behind I.pass span_of between opening skipped I.lexemes I.tokens verdict checked error answered O.outcome_by O.outcome_with O.outcome F.parse_field_id F.stopping O.parsed_by U.list_value U.map_value U.container_value U.field_value U.parse_value U.parse_annotations U.parse_default U.parse_field U.parse_members U.parse_parameters U.parse_throws U.parse_function U.parse_enum_member U.parse_const U.parse_enum U.parse_structure U.parse_service U.parse_definition U.parse_document S.kind S.bytes S.place S.span S.bind S.test S.peek S.when S.fail S.refuse S.next S.want S.start S.here S.taken S.fate S.by S.pass S.skip S.skip_separator S.skip_comments S.skip_comments_discard S.skip_trivia S.closed S.loop S.many Y.complex_type Y.map_type Y.container_type Y.type_by Y.field_type Val.values_end Val.put Val.map_property Val.list_value Val.map_value Val.container_value Val.value_by Val.field_value D.parse_type D.parse_value D.one_separator D.parse_annotation D.annotations_end D.parse_annotations D.decimal D.is_id D.parse_field_id D.parse_required D.parse_default D.members_end D.parse_members D.parse_return_type D.parse_oneway D.parse_initializer D.parse_enum_member D.parse_include D.parse_namespace D.parse_const D.parse_typedef D.parse_enum D.parse_extends D.over D.document_end A.leaf A.inner A.single A.both A.each A.perhaps A.name_tree A.id_tree A.type_tree A.value_kind A.literal_tree A.value_tree A.element_trees A.property_trees A.annotation_tree A.annotations_tree A.required_flag A.field_tree A.member_tree A.oneway_flag A.throws_flag A.throws_trees A.function_tree A.structure_kind A.definition_tree R.no_parent R.row R.node_row R.size R.sizes R.rows R.rows_of R.comment_row R.owned R.comment_rows R.comment_rows_of R.forest R.node_rows R.notes
edges_hold = (((refl, refl), ((refl, refl), (refl, ((refl, refl), tt)))), (refl, (refl, (refl, (refl, (refl, ((refl, refl), tt)))))))
