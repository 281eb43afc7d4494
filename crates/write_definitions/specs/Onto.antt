-- What each function that writes a function, an enum member or a definition does to where the printer stands and to the output. Contracts of this crate and of
-- the printer cite it, and printer/proofs/Meant shows what it means; nothing else has to believe it.
use Rattle.std.specs.Prelude.{Option, None, Some, true, false, cond, List, ℕ, zero, suc, ◌+◌, eqb, ltb}
use Rattle.parser.specs.Definitions.{nesting}
use Rattle.ast.specs.Column as C
use Rattle.ast.specs.Kind as K
use Rattle.ast.specs.KindNumber.{number_of}
use Rattle.ast.specs.declared.kind.Kind.{Kind}
use Rattle.ast.specs.Records.{node_width}
use Rattle.cursor.specs.Onto.{reached, W, then, ◌⨟◌, number_at, kind_at, pass_node, say_out, token_out, spaces_out, comments_out}
use Rattle.write_fields.specs.Onto.{value_out, annotations_out, assigned_out, typed_name_out, field_out, params_out}

-- the number of a kind; of none 0
unfoldable pub number : Option Kind → ℕ
number None = 0
number (Some k) = number_of k

-- ---- functions and enum members

unfoldable pub throws_out : List ℕ → List ℕ → ℕ → List ℕ → ℕ → ℕ → W
throws_out text nodes count comments total f p o =
    cond (ltb f K.Throws) (reached p o) ((say_out " throws (" ⨟ (params_out text nodes count comments total true ⨟ say_out ")")) p o)

unfoldable pub oneway_out : ℕ → W
oneway_out f p o = cond (eqb f K.Oneway) (say_out "oneway " p o) (cond (eqb f (K.Oneway + K.Throws)) (say_out "oneway " p o) (reached p o))

-- behind the name of a function
unfoldable pub function_tail_out : List ℕ → List ℕ → ℕ → List ℕ → ℕ → ℕ → ℕ → W
function_tail_out text nodes count comments total owner f =
    say_out "("
    ⨟ (params_out text nodes count comments total false
    ⨟ (say_out ")" ⨟ (throws_out text nodes count comments total f ⨟ (annotations_out text nodes count owner ⨟ say_out "\n"))))

unfoldable pub function_out : List ℕ → List ℕ → ℕ → List ℕ → ℕ → ℕ → W
function_out text nodes count comments total indent p o =
    then (comments_out text comments total p.node indent p o)
    (spaces_out indent
    ⨟ (pass_node
    ⨟ (oneway_out (number_at node_width nodes p.node C.Flags)
    ⨟ (typed_name_out text nodes count ⨟ function_tail_out text nodes count comments total p.node (number_at node_width nodes p.node C.Flags)))))

unfoldable pub member_out : List ℕ → List ℕ → ℕ → List ℕ → ℕ → ℕ → W
member_out text nodes count comments total indent p o =
    then (comments_out text comments total p.node indent p o)
    (spaces_out indent
    ⨟ (pass_node
    ⨟ (token_out text nodes
    ⨟ (assigned_out nodes count p.node (token_out text nodes) ⨟ (annotations_out text nodes count p.node ⨟ say_out ",\n")))))

-- ---- definitions

-- a member, by its kind: function, field, enum member
unfoldable pub one_out : List ℕ → List ℕ → ℕ → List ℕ → ℕ → ℕ → ℕ → W
one_out text nodes count comments total indent k p o =
    cond (eqb k K.Function) (function_out text nodes count comments total indent p o)
    (cond (eqb k K.Field) (field_out text nodes count comments total indent p o) (member_out text nodes count comments total indent p o))

unfoldable pub members_from : List ℕ → List ℕ → ℕ → List ℕ → ℕ → ℕ → ℕ → ℕ → W
members_from text nodes count comments total indent k zero p o = reached p o
members_from text nodes count comments total indent k (suc n) p o =
    cond (eqb (kind_at nodes count p.node) k)
    ((one_out text nodes count comments total indent k ⨟ members_from text nodes count comments total indent k n) p o)
    (reached p o)

unfoldable pub body_out : List ℕ → List ℕ → ℕ → List ℕ → ℕ → ℕ → ℕ → W
body_out text nodes count comments total indent k = say_out " {\n" ⨟ (members_from text nodes count comments total indent k count ⨟ say_out "}")

unfoldable pub extends_out : List ℕ → List ℕ → ℕ → W
extends_out text nodes count p o = cond (eqb (kind_at nodes count p.node) K.Name) ((say_out " extends " ⨟ token_out text nodes) p o) (reached p o)

unfoldable pub keyword_out : ℕ → W
keyword_out k p o =
    cond (eqb k K.Include) (say_out "include " p o)
    (cond (eqb k K.CppInclude) (say_out "cpp_include " p o)
    (cond (eqb k K.Namespace) (say_out "namespace " p o)
    (cond (eqb k K.Const) (say_out "const " p o)
    (cond (eqb k K.Typedef) (say_out "typedef " p o)
    (cond (eqb k K.Enum) (say_out "enum " p o)
    (cond (eqb k K.Struct) (say_out "struct " p o)
    (cond (eqb k K.Union) (say_out "union " p o)
    (cond (eqb k K.Exception) (say_out "exception " p o) (say_out "service " p o)))))))))

-- a definition of one line, behind its keyword
unfoldable pub namespace_out : List ℕ → List ℕ → W
namespace_out text nodes = token_out text nodes ⨟ (say_out " " ⨟ (token_out text nodes ⨟ say_out "\n"))

unfoldable pub const_out : List ℕ → List ℕ → ℕ → W
const_out text nodes count = typed_name_out text nodes count ⨟ (say_out " = " ⨟ (value_out text nodes count nesting ⨟ say_out "\n"))

unfoldable pub line_out : List ℕ → List ℕ → ℕ → ℕ → W
line_out text nodes count k p o =
    cond (ltb k K.Namespace) ((token_out text nodes ⨟ say_out "\n") p o)
    (cond (eqb k K.Namespace) (namespace_out text nodes p o)
    (cond (eqb k K.Const) (const_out text nodes count p o)
    ((typed_name_out text nodes count ⨟ say_out "\n") p o)))

-- a definition with a body, between its keyword and its annotations
unfoldable pub block_out : List ℕ → List ℕ → ℕ → List ℕ → ℕ → ℕ → ℕ → W
block_out text nodes count comments total indent k p o =
    then (token_out text nodes p o)
    (λ p o. cond (eqb k K.Enum) (body_out text nodes count comments total indent K.EnumMember p o)
    (cond (eqb k K.Service) ((extends_out text nodes count ⨟ body_out text nodes count comments total indent K.Function) p o)
    (body_out text nodes count comments total indent K.Field p o)))

unfoldable pub definition_out : List ℕ → List ℕ → ℕ → List ℕ → ℕ → ℕ → W
definition_out text nodes count comments total indent p o =
    let k = kind_at nodes count p.node in
    then (comments_out text comments total p.node 0 p o)
    (pass_node
    ⨟ (keyword_out k
    ⨟ λ q o. cond (ltb k K.Enum) (line_out text nodes count k q o)
    ((block_out text nodes count comments total indent k ⨟ (annotations_out text nodes count p.node ⨟ say_out "\n")) q o)))

unfoldable pub document_from : List ℕ → List ℕ → ℕ → List ℕ → ℕ → ℕ → ℕ → W
document_from text nodes count comments total indent zero p o = reached p o
document_from text nodes count comments total indent (suc n) p o =
    cond (ltb p.node count) ((definition_out text nodes count comments total indent ⨟ document_from text nodes count comments total indent n) p o) (reached p o)

unfoldable pub document_out : List ℕ → List ℕ → ℕ → List ℕ → ℕ → ℕ → W
document_out text nodes count comments total indent = document_from text nodes count comments total indent count
