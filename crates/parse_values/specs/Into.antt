-- What the readers of types and values do to the state and to both tables: parser/specs/Types and Values, with records written as they are read. Contracts of
-- this crate and of those above it cite it, and proofs/MeantTypes and MeantValues show that it means the definitions; nothing else has to believe it.
use Rattle.std.specs.Prelude.{Bool, true, false, cond, ◌||◌, List, ℕ, zero, suc, eqb, ltb, leb}
use Rattle.token.specs.Kind as T
use Rattle.lexer.specs.Error as E
use Rattle.ast.specs.Kind as K
use Rattle.steps.specs.declared.state.State.{State}
use Rattle.steps.specs.Into.{code_of, M, after, ◌⨟◌, opened, leaf_in, node_in, refused, start_at, take_in, expect_in, skip_in, loop_in, closes_at}

-- ---- types

unfoldable pub leaf_type : ℕ → ℕ
leaf_type k = cond (ltb k T.Bool) 0 (cond (leb k T.Binary) K.KeywordType (cond (eqb k T.Identifier) K.NamedType 0))

unfoldable pub container_type : ℕ → ℕ
container_type k = cond (eqb k T.Map) K.Map (cond (eqb k T.List) K.List (cond (eqb k T.Set) K.Set 0))

unfoldable pub contained_in : List ℕ → ℕ → M → M
contained_in text k inner st t u = cond (eqb k K.Map) ((inner ⨟ (expect_in text T.Comma E.UnexpectedToken ⨟ inner)) st t u) (inner st t u)

-- the contained type in angle brackets
unfoldable pub angles_in : List ℕ → ℕ → M → M
angles_in text k inner = expect_in text T.LeftAngle E.UnexpectedToken ⨟ (contained_in text k inner ⨟ expect_in text T.RightAngle E.UnexpectedToken)

-- behind a container's keyword
unfoldable pub complex_in : List ℕ → ℕ → (ℕ → M) → ℕ → ℕ → M
complex_in text k inner b p st t u =
    after (expect_in text T.LeftAngle E.UnexpectedToken (opened st) t u)
    (contained_in text k (inner st.next) ⨟ (expect_in text T.RightAngle E.UnexpectedToken ⨟ node_in st.next k 0 st.last.start b p))

unfoldable pub type_by : List ℕ → (State → ℕ → M) → ℕ → ℕ → M
type_by text inside b p st t u =
    after (take_in text st t u)
    (λ st₁ t u. cond (eqb (leaf_type (code_of st)) 0) (cond (eqb (container_type (code_of st)) 0) (refused E.UnsupportedType st t u) (inside st (container_type (code_of st)) st₁ t u))
    (leaf_in (leaf_type (code_of st)) b p st₁ t u))

-- with so many containers left
unfoldable pub type_in : List ℕ → ℕ → ℕ → ℕ → M
type_in text zero b p = type_by text (λ st k. λ st₁ t u. refused E.TooDeep st t u) b p
type_in text (suc d) b p = type_by text (λ st k. complex_in text k (λ q. type_in text d b q) b p) b p

-- ---- values

unfoldable pub leaf_value : ℕ → ℕ
leaf_value k =
    cond (eqb k T.Identifier) K.NameValue
    (cond (eqb k T.StringLiteral) K.String
    (cond (eqb k T.DoubleLiteral) K.Double
    (cond (eqb k T.HexLiteral) K.Hex (cond (eqb k T.IntegerLiteral) K.Integer (cond (eqb k T.BooleanLiteral) K.Boolean 0)))))

unfoldable pub skip_both_in : List ℕ → M
skip_both_in text = skip_in text true ⨟ skip_in text false

unfoldable pub elements_in : List ℕ → M → M
elements_in text value = loop_in text (closes_at T.RightBracket) (skip_both_in text) (take_in text) value

unfoldable pub list_in : List ℕ → (ℕ → M) → ℕ → ℕ → M
list_in text value b p st t u = after (elements_in text (value st.next) (opened st) t u) (node_in st.next K.ListValue 0 st.last.start b p)

unfoldable pub property_in : List ℕ → (ℕ → M) → ℕ → ℕ → M
property_in text value b p st t u =
    after (value st.next (opened st) t u)
    (expect_in text T.Colon E.UnexpectedToken ⨟ (value st.next ⨟ node_in st.next K.Property 0 (start_at st) b p))

unfoldable pub pair_in : List ℕ → M → M
pair_in text value = value ⨟ (expect_in text T.Colon E.UnexpectedToken ⨟ value)

unfoldable pub properties_in : List ℕ → M → M
properties_in text property = loop_in text (closes_at T.RightBrace) (skip_both_in text) (take_in text) property

unfoldable pub map_in : List ℕ → (ℕ → M) → ℕ → ℕ → M
map_in text value b p st t u =
    after (properties_in text (property_in text value b st.next) (opened st) t u) (node_in st.next K.MapValue 0 st.last.start b p)

unfoldable pub is_opener : ℕ → Bool
is_opener k = eqb k T.LeftBrace || eqb k T.LeftBracket

unfoldable pub value_by : List ℕ → (State → M) → ℕ → ℕ → M
value_by text inside b p st t u =
    after (take_in text st t u)
    (λ st₁ t u. cond (eqb (leaf_value (code_of st)) 0) (cond (is_opener (code_of st)) (inside st st₁ t u) (refused E.InvalidValueDeclaration st t u))
    (leaf_in (leaf_value (code_of st)) b p st₁ t u))

unfoldable pub value_in : List ℕ → ℕ → ℕ → ℕ → M
value_in text zero b p = value_by text (λ st. λ st₁ t u. refused E.TooDeep st t u) b p
value_in text (suc d) b p =
    value_by text (λ st. λ st₁ t u. cond (eqb (code_of st) T.LeftBracket) (list_in text (λ q. value_in text d b q) b p st₁ t u) (map_in text (λ q. value_in text d b q) b p st₁ t u)) b p
