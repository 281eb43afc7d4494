-- What each function of this crate is, as its first call and what follows it, strings as bytes; its tests are those of the code.
--     ..-is                     a function of the output, one law each; the loops' are in Rounds
use mathlib.Core.Path.{◌≡◌, refl, sym, ap}
use mathlib.Core.Bool.{true, false, cond}
use mathlib.Core.List.{List, [], ◌∷◌}
use Prim.Native.Nat.{ℕ}
use lib.Dec.{eqb, ltb}
use Rattle.token.specs.Regex.{bytes as ascii}
use Rattle.ast.specs.Column as Col
use Rattle.ast.specs.Records.{node_width}
use Rattle.cursor.specs.declared.Cursor.{Cursor}
use Rattle.cursor.specs.Onto.{W, ◌⨟◌, comments_out, reached, kind_at, number_at, pass_node, put_out, say_out, spaces_out, then, token_out}
use Rattle.write_fields.specs.Onto.{annotations_out, assigned_out, params_out, typed_name_out, value_out}
use Rattle.write_definitions.specs.Onto.{block_out, body_out, const_out, definition_out, extends_out, function_out, function_tail_out, keyword_out, line_out, member_out, members_from, namespace_out, oneway_out, throws_out}

-- ---- functions and enum members

pub throws_is : (text nodes : List ℕ) (count : ℕ) (comments : List ℕ) (total f : ℕ) (p : Cursor) (o : List ℕ) →
    throws_out text nodes count comments total f p o ≡
    cond (ltb f 8) (reached p o)
    (then (put_out (32 ∷ 116 ∷ 104 ∷ 114 ∷ 111 ∷ 119 ∷ 115 ∷ 32 ∷ 40 ∷ []) p o) (params_out text nodes count comments total true ⨟ put_out (41 ∷ [])))
unfolding throws_out say_out ascii
throws_is text nodes count comments total f p o = refl

pub oneway_is : (f : ℕ) (p : Cursor) (o : List ℕ) → oneway_out f p o ≡
    cond (eqb f 4) (put_out (111 ∷ 110 ∷ 101 ∷ 119 ∷ 97 ∷ 121 ∷ 32 ∷ []) p o)
    (cond (eqb f 12) (put_out (111 ∷ 110 ∷ 101 ∷ 119 ∷ 97 ∷ 121 ∷ 32 ∷ []) p o)
    (reached p o))
unfolding oneway_out say_out ascii
oneway_is f p o = refl

pub function_tail_is : (text nodes : List ℕ) (count : ℕ) (comments : List ℕ) (total owner f : ℕ) (p : Cursor) (o : List ℕ) →
    function_tail_out text nodes count comments total owner f p o ≡
    then (put_out (40 ∷ []) p o)
    (params_out text nodes count comments total false
    ⨟ (put_out (41 ∷ []) ⨟ (throws_out text nodes count comments total f ⨟ (annotations_out text nodes count owner ⨟ put_out (10 ∷ [])))))
unfolding function_tail_out say_out ascii
function_tail_is text nodes count comments total owner f p o = refl

-- f: the flags of the node ahead
pub function_is : (text nodes : List ℕ) (count : ℕ) (comments : List ℕ) (total indent : ℕ) (p : Cursor) (o : List ℕ) {f : ℕ} →
    f ≡ number_at node_width nodes p.node Col.Flags → function_out text nodes count comments total indent p o ≡
    then (comments_out text comments total p.node indent p o)
    (spaces_out indent
    ⨟ (pass_node ⨟ (oneway_out f ⨟ (typed_name_out text nodes count ⨟ function_tail_out text nodes count comments total p.node f))))
unfolding function_out
function_is text nodes count comments total indent p o h =
    ap
    (λ (x : ℕ). then (comments_out text comments total p.node indent p o)
    (spaces_out indent
    ⨟ (pass_node ⨟ (oneway_out x ⨟ (typed_name_out text nodes count ⨟ function_tail_out text nodes count comments total p.node x)))))
    (sym h)

pub member_is : (text nodes : List ℕ) (count : ℕ) (comments : List ℕ) (total indent : ℕ) (p : Cursor) (o : List ℕ) →
    member_out text nodes count comments total indent p o ≡
    then (comments_out text comments total p.node indent p o)
    (spaces_out indent
    ⨟ (pass_node
    ⨟ (token_out text nodes
    ⨟ (assigned_out nodes count p.node (token_out text nodes) ⨟ (annotations_out text nodes count p.node ⨟ put_out (44 ∷ 10 ∷ []))))))
unfolding member_out say_out ascii
member_is text nodes count comments total indent p o = refl

-- ---- definitions

pub body_is : (text nodes : List ℕ) (count : ℕ) (comments : List ℕ) (total indent k : ℕ) (p : Cursor) (o : List ℕ) →
    body_out text nodes count comments total indent k p o ≡
    then (put_out (32 ∷ 123 ∷ 10 ∷ []) p o) (members_from text nodes count comments total indent k count ⨟ put_out (125 ∷ []))
unfolding body_out say_out ascii
body_is text nodes count comments total indent k p o = refl

pub extends_is : (text nodes : List ℕ) (count : ℕ) (p : Cursor) (o : List ℕ) → extends_out text nodes count p o ≡
    cond (eqb (kind_at nodes count p.node) 16)
    (then (put_out (32 ∷ 101 ∷ 120 ∷ 116 ∷ 101 ∷ 110 ∷ 100 ∷ 115 ∷ 32 ∷ []) p o) (token_out text nodes))
    (reached p o)
unfolding extends_out say_out ascii
extends_is text nodes count p o = refl

pub namespace_is : (text nodes : List ℕ) (p : Cursor) (o : List ℕ) → namespace_out text nodes p o ≡
    then (token_out text nodes p o) (put_out (32 ∷ []) ⨟ (token_out text nodes ⨟ put_out (10 ∷ [])))
unfolding namespace_out say_out ascii
namespace_is text nodes p o = refl

pub const_is : (text nodes : List ℕ) (count : ℕ) (p : Cursor) (o : List ℕ) → const_out text nodes count p o ≡
    then (typed_name_out text nodes count p o) (put_out (32 ∷ 61 ∷ 32 ∷ []) ⨟ (value_out text nodes count 32 ⨟ put_out (10 ∷ [])))
unfolding const_out say_out ascii
const_is text nodes count p o = refl

pub block_is : (text nodes : List ℕ) (count : ℕ) (comments : List ℕ) (total indent k : ℕ) (p : Cursor) (o : List ℕ) →
    block_out text nodes count comments total indent k p o ≡
    then (token_out text nodes p o)
    (λ p o. cond (eqb k 6) (body_out text nodes count comments total indent 13 p o)
    (cond (eqb k 10) (then (extends_out text nodes count p o) (body_out text nodes count comments total indent 11))
    (body_out text nodes count comments total indent 12 p o)))
unfolding block_out
block_is text nodes count comments total indent k p o = refl

-- by the kind of the node ahead
abbrev pub definition_by : List ℕ → List ℕ → ℕ → List ℕ → ℕ → ℕ → ℕ → W
definition_by text nodes count comments total indent k p o =
    then (comments_out text comments total p.node 0 p o)
    (pass_node
    ⨟ (keyword_out k
    ⨟ λ q o. cond (ltb k 6) (line_out text nodes count k q o)
    (then (block_out text nodes count comments total indent k q o) (annotations_out text nodes count p.node ⨟ put_out (10 ∷ [])))))

pub definition_is : (text nodes : List ℕ) (count : ℕ) (comments : List ℕ) (total indent : ℕ) (p : Cursor) (o : List ℕ) {k : ℕ} →
    k ≡ kind_at nodes count p.node → definition_out text nodes count comments total indent p o ≡
    definition_by text nodes count comments total indent k p o
unfolding definition_out say_out ascii
definition_is text nodes count comments total indent p o h = ap (λ (x : ℕ). definition_by text nodes count comments total indent x p o) (sym h)
