-- What each function of this crate is, as its first call and what follows it, strings as bytes; its tests are those of the code.
--     ..-is                     a function of the output, one law each; the loops' are in Rounds
--     no_value, value_unless    has_value
--     both_is                   two tests, as one
use mathlib.Core.Path.{◌≡◌, refl, sym, ap, ◌∙◌}
use mathlib.Core.Bool.{Bool, true, false, not, beq, cond}
use mathlib.Core.List.{List, [], ◌∷◌}
use Prim.Native.Nat.{ℕ, zero, suc, ◌-◌}
use native.Mathlib.Omega.{arith}
use lib.Dec.{eqb, ltb, leb}
use borrow.Author.Tests.{eq-eqb, ne_eqb, lt-leb, le-leb, ltb-true, ltb-false}
use Rattle.token.specs.Regex.{bytes as ascii}
use Rattle.ast.specs.Column as Col
use Rattle.ast.specs.Records.{node_width}
use Rattle.cursor.specs.declared.Cursor.{Cursor}
use Rattle.cursor.specs.Onto.{Reached, W, ◌⨟◌, comments_out, reached, kind_at, number_at, parent_at, pass_below, pass_comments, pass_node, put_out, say_out, spaces_out, stay, then, token_out}
use Rattle.write_fields.specs.Onto.{annotation_out, annotations_out, assigned_out, brackets_out, comma_out, container_out, each_out, field_head_out, field_out, has_value, id_out, is_of, map_type_out, param_out, property_out, required_out, typed_name_out, type_out, value_out}

either : (b : Bool) (x : Reached) → cond b x x ≡ x
either true x = refl
either false x = refl

-- a claim of no depth and of one more, by the test of the code
by_depth : (F : Bool → ℕ → Reached) (d : ℕ) → F false d ≡ F (eqb (suc d) 0) (suc d - 1)
by_depth F d = ap (λ (z : Bool). F z d) (sym (ne_eqb (suc d) 0 (λ e. omega arith))) ∙ ap (F (eqb (suc d) 0)) (omega arith)

-- ---- types

pub container_is : (word : List ℕ) (inner : W) (p : Cursor) (o : List ℕ) → container_out word inner p o ≡
    then (pass_node p o) (put_out word ⨟ (inner ⨟ put_out (62 ∷ [])))
unfolding container_out say_out ascii
container_is word inner p o = refl

pub map_type_is : (inner : W) (p : Cursor) (o : List ℕ) → map_type_out inner p o ≡
    then (pass_node p o) (put_out (109 ∷ 97 ∷ 112 ∷ 60 ∷ []) ⨟ (inner ⨟ (put_out (44 ∷ 32 ∷ []) ⨟ (inner ⨟ put_out (62 ∷ [])))))
unfolding map_type_out say_out ascii
map_type_is inner p o = refl

-- by whether no container is left, and by the kind
abbrev pub type_by : List ℕ → List ℕ → ℕ → Bool → ℕ → ℕ → W
type_by text nodes count none k d p o =
    cond none (token_out text nodes p o)
    (cond (eqb k 20) (container_out (108 ∷ 105 ∷ 115 ∷ 116 ∷ 60 ∷ []) (type_out text nodes count d) p o)
    (cond (eqb k 21) (container_out (115 ∷ 101 ∷ 116 ∷ 60 ∷ []) (type_out text nodes count d) p o)
    (cond (eqb k 22) (map_type_out (type_out text nodes count d) p o)
    (token_out text nodes p o))))

type_at : (text nodes : List ℕ) (count d : ℕ) (p : Cursor) (o : List ℕ) → type_out text nodes count d p o ≡
    type_by text nodes count (eqb d 0) (kind_at nodes count p.node) (d - 1) p o
unfolding type_out ascii
type_at text nodes count zero p o = refl
type_at text nodes count (suc d) p o = by_depth (λ z n. type_by text nodes count z (kind_at nodes count p.node) n p o) d

pub type_is : (text nodes : List ℕ) (count d : ℕ) (p : Cursor) (o : List ℕ) {k : ℕ} → k ≡ kind_at nodes count p.node →
    type_out text nodes count d p o ≡ type_by text nodes count (eqb d 0) k (d - 1) p o
type_is text nodes count d p o h = type_at text nodes count d p o ∙ ap (λ (x : ℕ). type_by text nodes count (eqb d 0) x (d - 1) p o) (sym h)

-- a type that is no container is one token
pub type_token : (text nodes : List ℕ) (count d : ℕ) (p : Cursor) (o : List ℕ) → let k = kind_at nodes count p.node in
    eqb k 20 ≡ false → eqb k 21 ≡ false → eqb k 22 ≡ false → type_out text nodes count d p o ≡ token_out text nodes p o
type_token text nodes count d p o f g h = type_is text nodes count d p o refl ∙ rw (f, g, h) (either (eqb d 0) (token_out text nodes p o))

-- ---- values

pub comma_is : (first : Bool) (p : Cursor) (o : List ℕ) → comma_out first p o ≡ cond first (reached p o) (put_out (44 ∷ 32 ∷ []) p o)
unfolding comma_out stay say_out ascii
comma_is true p o = refl
comma_is false p o = refl

pub property_is : (value : W) (p : Cursor) (o : List ℕ) → property_out value p o ≡
    then (pass_node p o) (value ⨟ (put_out (58 ∷ 32 ∷ []) ⨟ value))
unfolding property_out say_out ascii
property_is value p o = refl

pub list_is : (nodes : List ℕ) (count : ℕ) (write : W) (p : Cursor) (o : List ℕ) → brackets_out nodes count "[" "]" write p o ≡
    then (pass_node p o) (put_out (91 ∷ []) ⨟ (each_out nodes count p.node write true count ⨟ put_out (93 ∷ [])))
unfolding brackets_out say_out ascii
list_is nodes count write p o = refl

pub map_is : (nodes : List ℕ) (count : ℕ) (write : W) (p : Cursor) (o : List ℕ) → brackets_out nodes count "{" "}" write p o ≡
    then (pass_node p o) (put_out (123 ∷ []) ⨟ (each_out nodes count p.node write true count ⨟ put_out (125 ∷ [])))
unfolding brackets_out say_out ascii
map_is nodes count write p o = refl

-- by whether no container is left, and by the kind
abbrev pub value_by : List ℕ → List ℕ → ℕ → Bool → ℕ → ℕ → W
value_by text nodes count none k d p o =
    cond none (token_out text nodes p o)
    (cond (eqb k 29) (brackets_out nodes count "[" "]" (value_out text nodes count d) p o)
    (cond (eqb k 30) (brackets_out nodes count "{" "}" (property_out (value_out text nodes count d)) p o)
    (token_out text nodes p o)))

value_at_law : (text nodes : List ℕ) (count d : ℕ) (p : Cursor) (o : List ℕ) → value_out text nodes count d p o ≡
    value_by text nodes count (eqb d 0) (kind_at nodes count p.node) (d - 1) p o
unfolding value_out
value_at_law text nodes count zero p o = refl
value_at_law text nodes count (suc d) p o = by_depth (λ z n. value_by text nodes count z (kind_at nodes count p.node) n p o) d

pub value_is : (text nodes : List ℕ) (count d : ℕ) (p : Cursor) (o : List ℕ) {k : ℕ} → k ≡ kind_at nodes count p.node →
    value_out text nodes count d p o ≡ value_by text nodes count (eqb d 0) k (d - 1) p o
value_is text nodes count d p o h = value_at_law text nodes count d p o ∙ ap (λ (x : ℕ). value_by text nodes count (eqb d 0) x (d - 1) p o) (sym h)

-- a value that is no container is one token
pub value_token : (text nodes : List ℕ) (count d : ℕ) (p : Cursor) (o : List ℕ) → let k = kind_at nodes count p.node in
    eqb k 29 ≡ false → eqb k 30 ≡ false → value_out text nodes count d p o ≡ token_out text nodes p o
value_token text nodes count d p o f g = value_is text nodes count d p o refl ∙ rw (f, g) (either (eqb d 0) (token_out text nodes p o))

-- ---- annotations

pub annotation_is : (text nodes : List ℕ) (p : Cursor) (o : List ℕ) → annotation_out text nodes p o ≡
    then (pass_node p o) (token_out text nodes ⨟ (put_out (32 ∷ 61 ∷ 32 ∷ []) ⨟ token_out text nodes))
unfolding annotation_out say_out ascii
annotation_is text nodes p o = refl

pub block_is : (text nodes : List ℕ) (count : ℕ) (p : Cursor) (o : List ℕ) → brackets_out nodes count " (" ")" (annotation_out text nodes) p o ≡
    then (pass_node p o) (put_out (32 ∷ 40 ∷ []) ⨟ (each_out nodes count p.node (annotation_out text nodes) true count ⨟ put_out (41 ∷ [])))
unfolding brackets_out say_out ascii
block_is text nodes count p o = refl

pub annotations_is : (text nodes : List ℕ) (count owner : ℕ) (p : Cursor) (o : List ℕ) → annotations_out text nodes count owner p o ≡
    cond (eqb (parent_at node_width nodes count p.node) owner)
    (cond (eqb (kind_at nodes count p.node) 14) (brackets_out nodes count " (" ")" (annotation_out text nodes) p o) (reached p o))
    (reached p o)
unfolding annotations_out
annotations_is text nodes count owner p o = refl

-- an owner with nothing ahead
module _ (nodes : List ℕ) (count owner : ℕ) (p : Cursor) (o : List ℕ) {x : ℕ} (e : x ≡ parent_at node_width nodes count p.node) (h : x ≡ owner → ⊥) where
  pub annotations_none : (text : List ℕ) → annotations_out text nodes count owner p o ≡ reached p o
  unfolding annotations_out
  annotations_none text = rw (sym e, ne_eqb x owner h)

  pub assigned_none : (value : W) → assigned_out nodes count owner value p o ≡ reached p o
  unfolding assigned_out has_value
  assigned_none value = rw (sym e, ne_eqb x owner h)

-- ---- fields

pub id_is : (text nodes : List ℕ) (count : ℕ) (p : Cursor) (o : List ℕ) → id_out text nodes count p o ≡
    cond (eqb (kind_at nodes count p.node) 17) (then (token_out text nodes p o) (put_out (58 ∷ 32 ∷ []))) (reached p o)
unfolding id_out say_out ascii
id_is text nodes count p o = refl

pub required_is : (f : ℕ) (p : Cursor) (o : List ℕ) → required_out f p o ≡
    cond (eqb f 1) (put_out (114 ∷ 101 ∷ 113 ∷ 117 ∷ 105 ∷ 114 ∷ 101 ∷ 100 ∷ 32 ∷ []) p o)
    (cond (eqb f 2) (put_out (111 ∷ 112 ∷ 116 ∷ 105 ∷ 111 ∷ 110 ∷ 97 ∷ 108 ∷ 32 ∷ []) p o)
    (reached p o))
unfolding required_out say_out ascii
required_is f p o = refl

pub no_value : (nodes : List ℕ) (count owner n : ℕ) {x : ℕ} → x ≡ parent_at node_width nodes count n → (x ≡ owner → ⊥) → eqb x owner ≡ has_value nodes count owner n
unfolding has_value
no_value nodes count owner n {x} e h = ne_eqb x owner h ∙ sym (rw (sym e, ne_eqb x owner h))

pub value_unless : (nodes : List ℕ) (count owner n : ℕ) {x : ℕ} {b : Bool} → x ≡ parent_at node_width nodes count n → x ≡ owner → b ≡ eqb (kind_at nodes count n) 14 →
    not b ≡ has_value nodes count owner n
unfolding has_value
value_unless nodes count owner n {x} {b} e h k = ap not k ∙ negation (eqb (kind_at nodes count n) 14) ∙ sym (rw (sym e, eq-eqb x owner h))
  where
    negation : (b : Bool) → not b ≡ cond b false true
    negation true = refl
    negation false = refl

pub assigned_is : (nodes : List ℕ) (count owner : ℕ) (value : W) (p : Cursor) (o : List ℕ) → assigned_out nodes count owner value p o ≡
    cond (has_value nodes count owner p.node) (then (put_out (32 ∷ 61 ∷ 32 ∷ []) p o) value) (reached p o)
unfolding assigned_out say_out ascii
assigned_is nodes count owner value p o = refl

pub typed_name_is : (text nodes : List ℕ) (count : ℕ) (p : Cursor) (o : List ℕ) → typed_name_out text nodes count p o ≡
    then (type_out text nodes count 32 p o) (put_out (32 ∷ []) ⨟ token_out text nodes)
unfolding typed_name_out say_out ascii
typed_name_is text nodes count p o = refl

pub field_head_is : (text nodes : List ℕ) (count owner f : ℕ) (p : Cursor) (o : List ℕ) → field_head_out text nodes count owner f p o ≡
    then (id_out text nodes count p o)
    (required_out f ⨟ (typed_name_out text nodes count ⨟ assigned_out nodes count owner (value_out text nodes count 32)))
unfolding field_head_out
field_head_is text nodes count owner f p o = refl

-- f: the flags of the node ahead
pub field_is : (text nodes : List ℕ) (count : ℕ) (comments : List ℕ) (total indent : ℕ) (p : Cursor) (o : List ℕ) {f : ℕ} →
    f ≡ number_at node_width nodes p.node Col.Flags → field_out text nodes count comments total indent p o ≡
    then (comments_out text comments total p.node indent p o)
    (spaces_out indent
    ⨟ (pass_node ⨟ (field_head_out text nodes count p.node f ⨟ (annotations_out text nodes count p.node ⨟ put_out (44 ∷ 10 ∷ [])))))
unfolding field_out say_out ascii
field_is text nodes count comments total indent p o h =
    ap
    (λ (x : ℕ). then (comments_out text comments total p.node indent p o)
    (spaces_out indent
    ⨟ (pass_node ⨟ (field_head_out text nodes count p.node x ⨟ (annotations_out text nodes count p.node ⨟ put_out (44 ∷ 10 ∷ []))))))
    (sym h)

pub param_is : (text nodes : List ℕ) (count : ℕ) (comments : List ℕ) (total : ℕ) (p : Cursor) (o : List ℕ) →
    param_out text nodes count comments total p o ≡
    then (pass_comments comments total p.node p o)
    (pass_node ⨟ (field_head_out text nodes count p.node 0 ⨟ pass_below nodes count p.node))
unfolding param_out
param_is text nodes count comments total p o = refl

pub is_of_is : (thrown : Bool) (f : ℕ) → beq thrown (leb 16 f) ≡ is_of thrown f
unfolding is_of
is_of_is thrown f = go thrown (ltb f 16) refl
  where
    go : (t b : Bool) → ltb f 16 ≡ b → beq t (leb 16 f) ≡ cond b (cond t false true) t
    go true true h = rw (lt-leb 16 f (ltb-true f 16 h))
    go true false h = rw (le-leb 16 f (ltb-false f 16 h))
    go false true h = rw (lt-leb 16 f (ltb-true f 16 h))
    go false false h = rw (le-leb 16 f (ltb-false f 16 h))

pub both_is : (a b : Bool) (X R : Reached) → cond a (cond b X R) R ≡ cond (cond a b false) X R
both_is true b X R = refl
both_is false b X R = refl
