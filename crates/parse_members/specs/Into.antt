-- What the readers of functions and enum members do to the state and to both tables: their part of parser/specs/Definitions, with records
-- written as they are read. Contracts of this crate and of those above it cite it, and proofs/MeantFunctions shows that it means the definitions;
-- nothing else has to believe it.
use Rattle.std.specs.Prelude.{true, cond, List, ℕ, eqb}
use Rattle.token.specs.Kind as T
use Rattle.lexer.specs.Error as E
use Rattle.ast.specs.Kind as K
use Rattle.steps.specs.declared.state.State.{State}
use Rattle.steps.specs.Into.{code_of, M, after, ◌⨟◌, sum, opened, leaf_in, node_in, advanced, skip_comments_in, own_in, done}
use Rattle.parse_values.specs.Into.{type_in}
use Rattle.parser.specs.Definitions.{nesting}
use Rattle.parse_fields.specs.Into.{token_in, name_in, annotations_in, members_in, fields_in}

-- ---- functions

unfoldable pub throws_in : List ℕ → ℕ → ℕ → M
throws_in text b p st t u = cond (eqb (code_of st) T.Throws) (fields_in text T.LeftParen T.RightParen K.Thrown b p (advanced text st) t u) (done st t u)

unfoldable pub return_type_in : List ℕ → ℕ → ℕ → M
return_type_in text b p st t u = cond (eqb (code_of st) T.Void) (leaf_in K.KeywordType b p (advanced text st) t u) (type_in text nesting b p st t u)

unfoldable pub flag_if : ℕ → ℕ → ℕ → ℕ
flag_if k w f = cond (eqb k w) f 0

unfoldable pub skip_oneway : List ℕ → State → State
skip_oneway text st = cond (eqb (code_of st) T.Oneway) (advanced text st) st

unfoldable pub function_head_in : List ℕ → ℕ → ℕ → M
function_head_in text b p st t u = after (return_type_in text b p (skip_oneway text st) t u) (name_in text E.UnexpectedToken b p)

unfoldable pub function_tail_in : List ℕ → ℕ → ℕ → M
function_tail_in text b p = throws_in text b p ⨟ (skip_comments_in text true ⨟ annotations_in text b p)

unfoldable pub function_in : List ℕ → ℕ → ℕ → M
function_in text b p st t u =
    after (own_in st.next (opened st) t u)
    (function_head_in text b st.next
    ⨟ λ st₁ t u. after (fields_in text T.LeftParen T.RightParen 0 b st.next st₁ t u)
    (λ st₂ t u. after (function_tail_in text b st.next st₂ t u)
    (node_in st.next K.Function (sum (flag_if (code_of st) T.Oneway K.Oneway) (flag_if (code_of st₂) T.Throws K.Throws)) st₁.last.start b p)))

unfoldable pub functions_in : List ℕ → ℕ → ℕ → M
functions_in text b p = members_in text T.LeftBrace T.RightBrace (function_in text b p)

-- ---- enum members

unfoldable pub initializer_in : List ℕ → ℕ → ℕ → M
initializer_in text b p st t u =
    cond (eqb (code_of st) T.Equals)
    (let st₁ = advanced text st in
    cond (eqb (code_of st₁) T.HexLiteral) (token_in text T.HexLiteral E.InvalidValueDeclaration K.Hex b p st₁ t u) (token_in text T.IntegerLiteral E.InvalidValueDeclaration K.Integer b p st₁ t u))
    (done st t u)

unfoldable pub member_in : List ℕ → ℕ → ℕ → M
member_in text b p st t u =
    after (own_in st.next (opened st) t u)
    (name_in text E.InvalidEnumMemberName b st.next
    ⨟ λ st₁ t u. after (initializer_in text b st.next st₁ t u)
    (annotations_in text b st.next ⨟ node_in st.next K.EnumMember 0 st₁.last.start b p))

unfoldable pub enum_members_in : List ℕ → ℕ → ℕ → M
enum_members_in text b p = members_in text T.LeftBrace T.RightBrace (member_in text b p)
