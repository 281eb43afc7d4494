-- What each function that writes a type, a value, annotations, a field or parameters does to where the printer stands and to the output. Contracts of this crate
-- and write_definitions/specs/Onto cite it, and printer/proofs/Meant shows what it means; nothing else has to believe it.
use Rattle.std.specs.Prelude.{◌≡◌, Bool, true, false, cond, List, ℕ, zero, suc, eqb, ltb}
use Prim.Native.String.{String}
use Rattle.token.specs.Regex.{bytes as ascii}
use Rattle.parser.specs.Definitions.{nesting}
use Rattle.ast.specs.Column as C
use Rattle.ast.specs.Kind as K
use Rattle.ast.specs.Records.{node_width}
use Rattle.cursor.specs.declared.Cursor.{Cursor}
use Rattle.cursor.specs.Onto.{reached, W, then, ◌⨟◌, number_at, kind_at, parent_at, pass_node, stay, put_out, say_out, token_out, spaces_out, comments_out, pass_comments, pass_below}

-- ---- types and values

unfoldable pub container_out : List ℕ → W → W
container_out word inner = pass_node ⨟ (put_out word ⨟ (inner ⨟ say_out ">"))

unfoldable pub map_type_out : W → W
map_type_out inner = pass_node ⨟ (say_out "map<" ⨟ (inner ⨟ (say_out ", " ⨟ (inner ⨟ say_out ">"))))

unfoldable pub type_out : List ℕ → List ℕ → ℕ → ℕ → W
type_out text nodes count zero p o = token_out text nodes p o
type_out text nodes count (suc d) p o =
    let k = kind_at nodes count p.node in
    cond (eqb k K.List) (container_out (ascii "list<") (type_out text nodes count d) p o)
    (cond (eqb k K.Set) (container_out (ascii "set<") (type_out text nodes count d) p o)
    (cond (eqb k K.Map) (map_type_out (type_out text nodes count d) p o)
    (token_out text nodes p o)))

-- `, ` before each but the first
unfoldable pub comma_out : Bool → W
comma_out true = stay
comma_out false = say_out ", "

-- m is what so many turns make: each is the test b, and if it says yes the comma, the step k and the turns left
pub record Listed (b : Cursor → Bool) (k : W) (m : Bool → ℕ → W) : Type 0 where
  pub none : (first : Bool) (p : Cursor) (o : List ℕ) → m first 0 p o ≡ reached p o
  pub more : (first : Bool) (n : ℕ) (p : Cursor) (o : List ℕ) → m first (suc n) p o ≡ cond (b p) (then (comma_out first p o) (k ⨟ m false n)) (reached p o)

-- the children of a node, each written so
unfoldable pub each_out : List ℕ → ℕ → ℕ → W → Bool → ℕ → W
each_out nodes count owner write first zero p o = reached p o
each_out nodes count owner write first (suc n) p o =
    cond (eqb (parent_at node_width nodes count p.node) owner) ((comma_out first ⨟ (write ⨟ each_out nodes count owner write false n)) p o) (reached p o)

unfoldable pub property_out : W → W
property_out value = pass_node ⨟ (value ⨟ (say_out ": " ⨟ value))

-- a bracket, the children, a bracket
unfoldable pub brackets_out : List ℕ → ℕ → String → String → W → W
brackets_out nodes count a b write p o = (pass_node ⨟ (say_out a ⨟ (each_out nodes count p.node write true count ⨟ say_out b))) p o

unfoldable pub value_out : List ℕ → List ℕ → ℕ → ℕ → W
value_out text nodes count zero p o = token_out text nodes p o
value_out text nodes count (suc d) p o =
    let k = kind_at nodes count p.node in
    cond (eqb k K.ListValue) (brackets_out nodes count "[" "]" (value_out text nodes count d) p o)
    (cond (eqb k K.MapValue) (brackets_out nodes count "{" "}" (property_out (value_out text nodes count d)) p o)
    (token_out text nodes p o))

-- ---- annotations

unfoldable pub annotation_out : List ℕ → List ℕ → W
annotation_out text nodes = pass_node ⨟ (token_out text nodes ⨟ (say_out " = " ⨟ token_out text nodes))

-- is the next node the owner's, and of this kind?
unfoldable pub annotations_out : List ℕ → List ℕ → ℕ → ℕ → W
annotations_out text nodes count owner p o =
    cond (eqb (parent_at node_width nodes count p.node) owner)
    (cond (eqb (kind_at nodes count p.node) K.Annotations)
    (brackets_out nodes count " (" ")" (annotation_out text nodes) p o)
    (reached p o))
    (reached p o)

-- ---- fields

unfoldable pub id_out : List ℕ → List ℕ → ℕ → W
id_out text nodes count p o = cond (eqb (kind_at nodes count p.node) K.FieldId) ((token_out text nodes ⨟ say_out ": ") p o) (reached p o)

unfoldable pub required_out : ℕ → W
required_out f p o = cond (eqb f K.Required) (say_out "required " p o) (cond (eqb f K.Optional) (say_out "optional " p o) (reached p o))

-- ` = ` and what follows it, if the next node is the owner's and no annotations
unfoldable pub has_value : List ℕ → ℕ → ℕ → ℕ → Bool
has_value nodes count owner n = cond (eqb (parent_at node_width nodes count n) owner) (cond (eqb (kind_at nodes count n) K.Annotations) false true) false

unfoldable pub assigned_out : List ℕ → ℕ → ℕ → W → W
assigned_out nodes count owner value p o = cond (has_value nodes count owner p.node) ((say_out " = " ⨟ value) p o) (reached p o)

unfoldable pub typed_name_out : List ℕ → List ℕ → ℕ → W
typed_name_out text nodes count = type_out text nodes count nesting ⨟ (say_out " " ⨟ token_out text nodes)

-- id, requiredness, type, name, default
unfoldable pub field_head_out : List ℕ → List ℕ → ℕ → ℕ → ℕ → W
field_head_out text nodes count owner f =
    id_out text nodes count ⨟ (required_out f ⨟ (typed_name_out text nodes count ⨟ assigned_out nodes count owner (value_out text nodes count nesting)))

unfoldable pub field_out : List ℕ → List ℕ → ℕ → List ℕ → ℕ → ℕ → W
field_out text nodes count comments total indent p o =
    then (comments_out text comments total p.node indent p o)
    (spaces_out indent
    ⨟ (pass_node ⨟ (field_head_out text nodes count p.node (number_at node_width nodes p.node C.Flags) ⨟ (annotations_out text nodes count p.node ⨟ say_out ",\n"))))

unfoldable pub param_out : List ℕ → List ℕ → ℕ → List ℕ → ℕ → W
param_out text nodes count comments total p o =
    then (pass_comments comments total p.node p o)
    (pass_node ⨟ (field_head_out text nodes count p.node 0 ⨟ pass_below nodes count p.node))

-- a field that is thrown, or one that is not
unfoldable pub is_of : Bool → ℕ → Bool
is_of thrown f = cond (ltb f K.Thrown) (cond thrown false true) thrown

unfoldable pub params_from : List ℕ → List ℕ → ℕ → List ℕ → ℕ → Bool → Bool → ℕ → W
params_from text nodes count comments total thrown first zero p o = reached p o
params_from text nodes count comments total thrown first (suc n) p o =
    cond (eqb (kind_at nodes count p.node) K.Field)
    (cond (is_of thrown (number_at node_width nodes p.node C.Flags))
    ((comma_out first ⨟ (param_out text nodes count comments total ⨟ params_from text nodes count comments total thrown false n)) p o)
    (reached p o))
    (reached p o)

unfoldable pub params_out : List ℕ → List ℕ → ℕ → List ℕ → ℕ → Bool → W
params_out text nodes count comments total thrown = params_from text nodes count comments total thrown true count
