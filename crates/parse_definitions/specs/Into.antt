-- What each reader of a definition, the keyword ahead, does to the state and to both tables: parser/specs/Definitions, with records written as they are read.
-- `b` is the number of the first record in the node table that is lent. Contracts of this crate and of the reader cite it, and proofs/MeantDefinitions shows that it means
-- the definitions; nothing else has to believe it.
use Rattle.std.specs.Prelude.{true, cond, List, ℕ, eqb}
use Rattle.token.specs.Kind as T
use Rattle.lexer.specs.Error as E
use Rattle.ast.specs.Kind as K
use Rattle.ast.specs.Records.{no_parent}
use Rattle.steps.specs.declared.state.State.{State}
use Rattle.steps.specs.Into.{code_of, M, after, ◌⨟◌, opened, node_in, advanced, advance_in, refused, expect_in, skip_comments_in, own_in, done}
use Rattle.parse_values.specs.Into.{type_in, value_in}
use Rattle.parser.specs.Definitions.{nesting}
use Rattle.parse_fields.specs.Into.{token_in, name_in, annotations_in, fields_in}
use Rattle.parse_members.specs.Into.{functions_in, enum_members_in}

unfoldable pub begin_in : List ℕ → M
begin_in text st t u = after (own_in st.next (opened st) t u) (advance_in text)

-- behind the keyword `inside` reads the children; then the definition's own record
unfoldable pub own_record_in : ℕ → State → ℕ → M
own_record_in b st k = node_in st.next k 0 st.loc.start b no_parent

unfoldable pub define_in : List ℕ → ℕ → ℕ → (ℕ → M) → M
define_in text b k inside st t u = after (begin_in text st t u) (inside st.next ⨟ own_record_in b st k)

unfoldable pub included_in : List ℕ → ℕ → ℕ → M
included_in text b p = token_in text T.StringLiteral E.MissingIncludeIdentifier K.Name b p

unfoldable pub include_in : List ℕ → ℕ → ℕ → M
include_in text b k = define_in text b k (included_in text b)

unfoldable pub scope_in : List ℕ → ℕ → ℕ → M
scope_in text b p st t u = cond (eqb (code_of st) T.Star) (token_in text T.Star E.MissingNamespaceScope K.Name b p st t u) (name_in text E.MissingNamespaceScope b p st t u)

unfoldable pub scoped_name_in : List ℕ → ℕ → ℕ → M
scoped_name_in text b p = scope_in text b p ⨟ name_in text E.MissingNamespaceIdentifier b p

unfoldable pub namespace_in : List ℕ → ℕ → M
namespace_in text b = define_in text b K.Namespace (scoped_name_in text b)

unfoldable pub typed_name_in : List ℕ → ℕ → ℕ → ℕ → M
typed_name_in text e b p = type_in text nesting b p ⨟ name_in text e b p

unfoldable pub constant_in : List ℕ → ℕ → ℕ → M
constant_in text b p = typed_name_in text E.MissingConstIdentifier b p ⨟ (expect_in text T.Equals E.UnexpectedToken ⨟ value_in text nesting b p)

unfoldable pub const_in : List ℕ → ℕ → M
const_in text b = define_in text b K.Const (constant_in text b) ⨟ skip_comments_in text true

unfoldable pub typedef_in : List ℕ → ℕ → M
typedef_in text b = define_in text b K.Typedef (typed_name_in text E.MissingTypedefIdentifier b)

unfoldable pub enum_body_in : List ℕ → ℕ → ℕ → M
enum_body_in text b p = name_in text E.MissingEnumIdentifier b p ⨟ (enum_members_in text b p ⨟ annotations_in text b p)

unfoldable pub enum_in : List ℕ → ℕ → M
enum_in text b = define_in text b K.Enum (enum_body_in text b)

unfoldable pub structure_body_in : List ℕ → ℕ → ℕ → M
structure_body_in text b p = name_in text E.MissingStructIdentifier b p ⨟ (fields_in text T.LeftBrace T.RightBrace 0 b p ⨟ annotations_in text b p)

unfoldable pub structure_in : List ℕ → ℕ → ℕ → M
structure_in text b k = define_in text b k (structure_body_in text b)

unfoldable pub extends_in : List ℕ → ℕ → ℕ → M
extends_in text b p st t u = cond (eqb (code_of st) T.Extends) (name_in text E.MissingServiceExtends b p (advanced text st) t u) (done st t u)

unfoldable pub service_head_in : List ℕ → ℕ → ℕ → M
service_head_in text b p = name_in text E.MissingServiceIdentifier b p ⨟ extends_in text b p

unfoldable pub service_body_in : List ℕ → ℕ → ℕ → M
service_body_in text b p = service_head_in text b p ⨟ (functions_in text b p ⨟ annotations_in text b p)

unfoldable pub service_in : List ℕ → ℕ → M
service_in text b = define_in text b K.Service (service_body_in text b)

-- by the token's number
unfoldable pub definition_by : List ℕ → ℕ → ℕ → M
definition_by text b k st t u =
    cond (eqb k T.Namespace) (namespace_in text b st t u)
    (cond (eqb k T.CppInclude) (include_in text b K.CppInclude st t u)
    (cond (eqb k T.Include) (include_in text b K.Include st t u)
    (cond (eqb k T.Typedef) (typedef_in text b st t u)
    (cond (eqb k T.Const) (const_in text b st t u)
    (cond (eqb k T.Enum) (enum_in text b st t u)
    (cond (eqb k T.Struct) (structure_in text b K.Struct st t u)
    (cond (eqb k T.Union) (structure_in text b K.Union st t u)
    (cond (eqb k T.Exception) (structure_in text b K.Exception st t u)
    (cond (eqb k T.Service) (service_in text b st t u)
    (refused E.UnexpectedToken st t u))))))))))

unfoldable pub definition_in : List ℕ → ℕ → M
definition_in text b st = definition_by text b (code_of st) st
