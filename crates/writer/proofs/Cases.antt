-- Readings and printings by computation, tables and output lent full of sevens.
--     fits, printed_so, short, zeroed   document 01's last edge: 38 bytes, room 37 gives 27
--     the rest                      the programs that document 01's "Agreement" does not accept, each with the smallest text on which it is wrong
use mathlib.Core.Path.{◌≡◌, refl}
use Rattle.token.specs.Code.{code, is, among}
use Rattle.token.specs.Regex.{bytes, ranges, within, nullable, is_nothing, then, or, deriv}
use Rattle.token.specs.Patterns.{
  one_of,
  none_of,
  plus,
  opt,
  exact,
  word_rule,
  token,
  words,
  marks,
  name,
  quoted,
  digits,
  sign,
  exponent,
  point,
  stars,
  shapes,
  rest,
  rules,
}
use Rattle.token.specs.Scan.{derivs, first, keep, scan_from, scan}
use Rattle.utf8.specs.Utf8.{tail, sequences, begins, width, sequence, ill_from, ill_formed}
use Rattle.lexer.specs.Outcome.{accepted, refused}
use Rattle.lexer.specs.Cuts.{cut_at, cuts_from, cuts, unrecognized}
use Rattle.lexer.specs.Location.{pair, ends_line, behind, pass, span_of, between, opening}
use Rattle.lexer.specs.Tokens.{skipped, lexemes, tokens}
use Rattle.lexer.specs.Check.{verdict, checked}
use Rattle.ast.specs.Tree as A
use Rattle.ast.specs.Records as R
use Rattle.parser.specs.Steps as S
use Rattle.parser.specs.Types as Y
use Rattle.parser.specs.Values as Val
use Rattle.parser.specs.Definitions as D
use Rattle.parser.specs.Read as Re
use Rattle.parser.specs.Read.{Reading, parsed, error, answered, outcome_by, outcome}
use mathlib.Core.List.{[], ◌∷◌}
use Prim.Native.Nat.{ℕ}
use Prim.Native.String.{String}
use lib.ListN.{replicate}
use Rattle.writer.specs.Print as Pr
use Rattle.writer.specs.Write as W
use Rattle.writer.specs.Write.{Printing}

-- a reading and a printing of a text at an indent, with tables of so many numbers, and an output of so many bytes
unfoldable pub both : String → ℕ → ℕ → ℕ → ℕ → Reading × Printing
unfolding code is among bytes ranges within nullable is_nothing then or deriv one_of none_of plus opt exact word_rule token words marks name quoted digits sign exponent point stars shapes rest rules derivs first keep scan_from scan tail sequences begins width sequence ill_from ill_formed cut_at cuts_from cuts unrecognized pair ends_line behind pass span_of between opening skipped lexemes tokens verdict checked parsed error answered outcome_by outcome S.kind S.bytes S.place S.span S.bind S.test S.peek S.when S.fail S.refuse S.next S.want S.start S.here S.taken S.fate S.by S.pass S.skip S.skip_separator S.skip_comments S.skip_comments_discard S.skip_trivia S.closed S.loop S.many Y.complex_type Y.map_type Y.container_type Y.type_by Y.field_type Val.values_end Val.put Val.map_property Val.list_value Val.map_value Val.container_value Val.value_by Val.field_value D.parse_type D.parse_value D.one_separator D.parse_annotation D.annotations_end D.parse_annotations D.decimal D.is_id D.parse_field_id D.parse_required D.parse_default D.parse_field D.members_end D.parse_members D.parse_parameters D.parse_throws D.parse_return_type D.parse_oneway D.parse_function D.parse_initializer D.parse_enum_member D.parse_include D.parse_namespace D.parse_const D.parse_typedef D.parse_enum D.parse_structure D.parse_extends D.parse_service D.parse_definition D.over D.document_end D.parse_document A.leaf A.inner A.single A.both A.each A.perhaps A.name_tree A.id_tree A.type_tree A.value_kind A.literal_tree A.value_tree A.element_trees A.property_trees A.annotation_tree A.annotations_tree A.required_flag A.field_tree A.member_tree A.oneway_flag A.throws_flag A.throws_trees A.function_tree A.structure_kind A.definition_tree R.comment_width R.node_width R.no_parent R.row R.node_row R.size R.sizes R.rows R.rows_of R.comment_row R.owned R.comment_rows R.comment_rows_of R.forest R.node_rows R.notes R.room R.concat R.filled R.cleared Re.fitted Re.answer Re.left Re.rows_by Re.reading Pr.own Pr.keyword Pr.bytes_of Pr.write_type Pr.write_value Pr.write_elements Pr.more_elements Pr.write_properties Pr.more_properties Pr.write_each Pr.commas Pr.nothing Pr.write_annotation Pr.write_annotations Pr.write_comment Pr.write_comments Pr.write_id Pr.write_required Pr.write_default Pr.write_field Pr.write_param Pr.write_initializer Pr.write_member Pr.write_throws Pr.write_oneway Pr.write_function Pr.write_body Pr.structure_keyword Pr.write_extends Pr.write_definition Pr.pieces Pr.printed W.outcome_at W.fitted_out W.answer W.written W.print_of W.printing
both t indent n c b = (Re.reading (bytes t) (replicate n 7) (replicate c 7), W.printing (bytes t) indent (replicate n 7) (replicate c 7) (replicate b 7))

unfoldable pub reads : String → ℕ → ℕ → Reading
unfolding both
reads t n c = (both t 0 n c 0).0

unfoldable pub prints : String → ℕ → ℕ → ℕ → ℕ → Printing
unfolding both
prints t indent n c b = (both t indent n c b).1

-- ---- document 01's last edge

abbrev pub edge : String
edge = "struct A{1:required i32 a=5;}"

pub fits : (prints edge 2 90 90 38).says ≡ accepted (7 ∷ 0 ∷ 38 ∷ [])
unfolding prints
fits = refl

pub printed_so : (prints edge 2 90 90 38).output ≡ bytes "struct A {\n  1: required i32 a = 5,\n}\n"
unfolding prints
printed_so = refl

pub short : (prints edge 2 90 90 37).says ≡ refused 27 0 0
unfolding prints
short = refl

pub zeroed : (prints edge 2 90 90 37).output ≡ replicate 37 0
unfolding prints
zeroed = refl

-- ---- programs that are not accepted

-- a printer that hands the text back: one blank prints nothing
pub handed_back : (prints " " 0 0 0 1).says ≡ accepted (0 ∷ 0 ∷ 0 ∷ [])
unfolding prints
handed_back = refl

-- a reader that stops after one definition
pub stopped : (reads "enum A{}enum A{}" 40 0).says ≡ accepted (4 ∷ 0 ∷ [])
unfolding reads
stopped = refl

-- a reader that finds every file empty; counts made up
pub not_empty : (reads "enum A{}" 20 0).says ≡ accepted (2 ∷ 0 ∷ [])
unfolding reads
not_empty = refl

-- tables never written: the records, and 0 past them
pub tables_written : (reads "enum A{}" 22 1).nodes ≡ 6 ∷ 4294967295 ∷ 0 ∷ 0 ∷ 1 ∷ 1 ∷ 8 ∷ 1 ∷ 9 ∷ 2 ∷ 16 ∷ 0 ∷ 0 ∷ 5 ∷ 1 ∷ 6 ∷ 6 ∷ 1 ∷ 7 ∷ 2 ∷ 0 ∷ 0 ∷ []
unfolding reads
tables_written = refl

-- or 0 alone, where the text is refused
pub tables_zeroed : (reads ";" 1 1).nodes ≡ 0 ∷ []
unfolding reads
tables_zeroed = refl

-- 24 said unread: without room this text is refused where it ends, and the empty text is accepted; with room for one record of two 24 is right
pub read_before_24 : (reads ";" 0 0).says ≡ refused 3 0 1
unfolding reads
read_before_24 = refl

pub room_24 : (reads "enum A{}" 19 0).says ≡ refused 24 0 0
unfolding reads
room_24 = refl

-- 27 said unread, likewise
pub read_before_27 : (prints ";" 0 0 0 0).says ≡ refused 3 0 1
unfolding prints
read_before_27 = refl

-- refusal of all
pub taken : (reads "" 0 0).says ≡ accepted (0 ∷ 0 ∷ [])
unfolding reads
taken = refl
