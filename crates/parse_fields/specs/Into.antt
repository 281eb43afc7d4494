-- What the readers of names, annotations and fields do to the state and to both tables: their part of parser/specs/Definitions, with records
-- written as they are read. Contracts of this crate and of those above it cite it, and proofs/MeantFields shows that it means the definitions;
-- nothing else has to believe it.
use Rattle.std.specs.Prelude.{Bool, true, false, cond, ◌||◌, List, ℕ, eqb, ltb, leb}
use Rattle.token.specs.Kind as T
use Rattle.lexer.specs.Error as E
use Rattle.ast.specs.Kind as K
use Rattle.parser.specs.Definitions.{nesting}
use Rattle.steps.specs.declared.state.State.{State}
use Rattle.steps.specs.Packed.{unpacked_loc}
use Rattle.steps.specs.Into.{code_of, M, after, ◌⨟◌, sum, opened, leaf_in, node_in, advanced, advance_in, refused, start_at, take_in, expect_in, is_separator, skip_in, skip_comments_in, own_in, loop_in, closes_at, is_id_at, done}
use Rattle.parse_values.specs.Into.{type_in, value_in}

-- ---- tokens and names

unfoldable pub token_in : List ℕ → ℕ → ℕ → ℕ → ℕ → ℕ → M
token_in text w e k b p = expect_in text w e ⨟ leaf_in k b p

unfoldable pub name_in : List ℕ → ℕ → ℕ → ℕ → M
name_in text e b p = token_in text T.Identifier e K.Name b p

-- ---- annotations

unfoldable pub one_separator_in : List ℕ → M
one_separator_in text st t u = cond (is_separator (code_of st)) (done (advanced text st) t u) (done st t u)

-- a name, `=`, a string
unfoldable pub assignment_in : List ℕ → ℕ → ℕ → M
assignment_in text b p = name_in text E.UnexpectedToken b p ⨟ (expect_in text T.Equals E.UnexpectedToken ⨟ token_in text T.StringLiteral E.UnexpectedToken K.String b p)

unfoldable pub annotation_in : List ℕ → ℕ → ℕ → M
annotation_in text b p st t u =
    after (name_in text E.UnexpectedToken b st.next (opened st) t u)
    (expect_in text T.Equals E.UnexpectedToken ⨟ (token_in text T.StringLiteral E.UnexpectedToken K.String b st.next ⨟ (node_in st.next K.Annotation 0 st.loc.start b p ⨟ one_separator_in text)))

unfoldable pub annotation_list_in : List ℕ → ℕ → ℕ → M
annotation_list_in text b p = loop_in text (closes_at T.RightParen) (skip_in text false) (take_in text) (annotation_in text b p)

-- behind the bracket that is ahead
unfoldable pub bracketed_in : List ℕ → ℕ → ℕ → M
bracketed_in text b p = advance_in text ⨟ annotation_list_in text b p

unfoldable pub annotations_in : List ℕ → ℕ → ℕ → M
annotations_in text b p st t u =
    cond (eqb (code_of st) T.LeftParen)
    (after (annotation_list_in text b st.next (advanced text (opened st)) t u) (node_in st.next K.Annotations 0 st.last.start b p))
    (done st t u)

-- ---- fields

-- behind an integer, which was ahead of `before`
unfoldable pub id_in : List ℕ → State → ℕ → ℕ → M
id_in text before b p st t u =
    cond (is_id_at text (unpacked_loc st.last)) ((leaf_in K.FieldId b p ⨟ expect_in text T.Colon E.UnexpectedToken) st t u) (refused E.InvalidFieldId before t u)

unfoldable pub field_id_in : List ℕ → ℕ → ℕ → M
field_id_in text b p st t u = cond (eqb (code_of st) T.IntegerLiteral) (id_in text st b p (advanced text st) t u) (done st t u)

unfoldable pub required_of : ℕ → ℕ
required_of k = cond (eqb k T.Required) K.Required (cond (eqb k T.Optional) K.Optional 0)

unfoldable pub skip_required : List ℕ → State → State
skip_required text st = cond (eqb (required_of (code_of st)) 0) st (advanced text st)

unfoldable pub skip_required_in : List ℕ → M
skip_required_in text st t u = done (skip_required text st) t u

unfoldable pub is_early_name : ℕ → Bool
is_early_name k = eqb k T.Namespace || (eqb k T.Include || (eqb k T.Enum || eqb k T.Struct))

unfoldable pub is_field_name : ℕ → Bool
is_field_name k =
    cond (ltb k T.Service) (is_early_name k)
    (cond (leb k T.Optional) true (cond (ltb k T.Bool) false (cond (leb k T.Identifier) true (eqb k T.Oneway))))

unfoldable pub field_name_in : List ℕ → ℕ → ℕ → M
field_name_in text b p st t u = cond (is_field_name (code_of st)) (leaf_in K.Name b p (advanced text st) t u) (refused E.InvalidFieldName st t u)

unfoldable pub default_in : List ℕ → ℕ → ℕ → M
default_in text b p st t u = cond (eqb (code_of st) T.Equals) (value_in text nesting b p (advanced text st) t u) (done st t u)

unfoldable pub field_head_in : List ℕ → ℕ → ℕ → M
field_head_in text b p st t u = after (type_in text nesting b p (skip_required text st) t u) (field_name_in text b p)

unfoldable pub field_tail_in : List ℕ → ℕ → ℕ → M
field_tail_in text b p = default_in text b p ⨟ annotations_in text b p

unfoldable pub field_in : List ℕ → ℕ → ℕ → ℕ → M
field_in text f b p st t u =
    after (own_in st.next (opened st) t u)
    (field_id_in text b st.next
    ⨟ λ st₁ t u. after (field_head_in text b st.next st₁ t u)
    (field_tail_in text b st.next ⨟ node_in st.next K.Field (sum (required_of (code_of st₁)) f) (start_at st) b p))

unfoldable pub skip_member_in : List ℕ → M
skip_member_in text = skip_in text true ⨟ skip_comments_in text false

-- members from one bracket to another
unfoldable pub members_in : List ℕ → ℕ → ℕ → M → M
members_in text o k member = expect_in text o E.UnexpectedToken ⨟ loop_in text (closes_at k) (skip_member_in text) (take_in text) member

unfoldable pub fields_in : List ℕ → ℕ → ℕ → ℕ → ℕ → ℕ → M
fields_in text o k f b p = members_in text o k (field_in text f b p)
