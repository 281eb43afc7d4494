-- Well-formed definitions, made again of their shapes, are the same without places.
--     rebuilt        for every list of them
--     rebuild_back   after the drop of what parameters drop
use mathlib.Core.Path.{◌≡◌, refl, sym, ap, ◌∙◌}
use mathlib.Core.Bool.{Bool, true, false, cond, not}
use mathlib.Core.List.{List, [], ◌∷◌}
use Rattle.std.specs.Prelude.{Option, Some, None}
use Prim.Native.Nat.{ℕ, ◌+◌, ◌<◌}
use borrow.Author.Tests.{not-true}
use lib.Dec.{T, eqb}
use native.Mathlib.Omega.{arith}
use lib.ListN.{length}
use lib.Seq.{take_all}
use Rattle.token.specs.Regex.{bytes as ascii}
use Rattle.token.specs.Patterns.{token, words, marks, shapes, word_rule, rest}
use Rattle.token.specs.Code.{code, is}
use Rattle.token.specs.Words.{same}
use Rattle.token.specs.declared.Token.{Token}
use Rattle.token.specs.declared.Token.TheVariants as T
use Rattle.lexer.specs.Tokens.{Lexeme, lexeme}
use Rattle.ast.specs.Lists.{maps, opt, All, anil, acons}
use Rattle.ast.specs.Drop.{drop_field, drop_function, drop_params}
use Rattle.ast.specs.Ast.{
  FieldType,
  CommonType,
  ListType,
  SetType,
  MapType,
  FieldInitialValue,
  ConstValue,
  ConstList,
  ConstMap,
  Elements,
  Properties,
  Annotation,
  Annotations,
  absent,
  annotations,
  Required,
  default,
  required,
  optional,
  Field,
  field,
  EnumMember,
  member,
  Function,
  function,
  Struct,
  Union,
  Exception,
  Definition,
}
use Rattle.ast.specs.Tree.{
  Tree,
  Forest,
  bare,
  leaf,
  inner,
  single,
  both,
  each,
  perhaps,
  name_tree,
  id_tree,
  type_tree,
  value_kind,
  literal_tree,
  value_tree,
  element_trees,
  property_trees,
  annotation_tree,
  annotations_tree,
  required_flag,
  field_tree,
  member_tree,
  oneway_flag,
  throws_flag,
  throws_trees,
  function_tree,
  structure_kind,
  definition_tree,
}
use Rattle.ast.specs.Records.{forest}
use Rattle.ast.specs.Move.{move_l, moves, move_type, move_value, move_elements, move_properties, move_annotation, move_annotations, move_field, move_member, move_function, move_definition, move}
use Rattle.ast.proofs.Maps.{length_maps}
use Rattle.ast.proofs.Forget.{nowhere, bare_l, bares, forget_type, forget_value, forget_elements, forget_properties, forget_annotation, forget_annotations, forget_field, forget_member, forget_function, forget_definition, forget}
use Rattle.parser.specs.Steps.{kind, bytes}
use Rattle.parser.proofs.Wf as W
use Rattle.parser.proofs.Wf.{most, Tok}
use Rattle.parser.proofs.KindLaws.{one_kind}
use Rattle.writer.proofs.Toks.{Good}
use Rattle.demand.specs.Agree.{Shape, shape, no_shape, bytes_count, note_bytes, shape_of, shapes_of}
use Rattle.token.proofs.Keyword.{only, none_has, keyword_bytes, hit_first}
use Rattle.demand.proofs.Rebuild.{
  kind_by,
  spelled,
  leaf_of,
  head,
  tail,
  holds,
  select,
  first,
  anything,
  a_name,
  a_function,
  a_member,
  a_field,
  a_thrown,
  an_id,
  an_annotations,
  no_annotations,
  type_of,
  type_first,
  type_second,
  value_of,
  elements_of,
  properties_of,
  key_of,
  entry_of,
  value_first,
  value_second,
  annotation_of,
  annotations_of,
  annotations_first,
  annotations_in,
  required_of,
  field_with,
  field_from,
  field_of,
  member_of,
  oneway_by,
  throws_by,
  function_with,
  function_of,
  structure_of,
  named_by,
  typed_by,
  definition_of,
  rebuild,
}

-- ---- lexemes

module _ {ks : List Token} where
  spelled_back : {t : Lexeme} → Tok Good ks t → spelled (bytes t) ≡ bare_l t
  unfolding spelled move_l bytes kind kind_by
  spelled_back {t = lexeme k w l} g = rw g.good.scanned

  notes_back : {c : List Lexeme} → All (Tok Good ks) c → maps spelled (maps note_bytes c) ≡ bares c
  unfolding maps note_bytes moves bytes
  notes_back anil = refl
  notes_back (acons {x = lexeme k w l} g gs) = cc (spelled_back g, notes_back gs)

  name_back : {t : Lexeme} → Tok Good ks t → leaf_of (shape_of (name_tree t)) ≡ bare_l t
  unfolding leaf_of shape_of name_tree leaf bytes_count bytes
  name_back {t = lexeme k w l} g = spelled_back g

  id_back : {t : Lexeme} → Tok Good ks t → leaf_of (shape_of (id_tree t)) ≡ bare_l t
  unfolding leaf_of shape_of id_tree leaf bytes_count bytes
  id_back {t = lexeme k w l} g = spelled_back g

-- the keyword of a container
word_back : (j : Token) (v : List ℕ) → T (only (code j) v words) → T (none_has (code j) rest) → {t : Lexeme} → Tok Good (j ∷ []) t → spelled v ≡ bare_l t
unfolding bytes kind
word_back j v o n {t = lexeme k w l} g =
    let e : code k ≡ code j = ap code (one_kind k j g.kinds) in
    ap spelled (sym (keyword_bytes v w k (rw e o) (rw e n) (rw (take_all (length w) w (omega arith)) at (hit_first w k (length w) g.good.scanned)))) ∙ spelled_back g

list_back : {t : Lexeme} → Tok Good (T.List ∷ []) t → spelled (ascii "list") ≡ bare_l t
unfolding only none_has words rest marks shapes word_rule token ascii code same
list_back g = word_back T.List (ascii "list") tt tt g

set_back : {t : Lexeme} → Tok Good (T.Set ∷ []) t → spelled (ascii "set") ≡ bare_l t
unfolding only none_has words rest marks shapes word_rule token ascii code same
set_back g = word_back T.Set (ascii "set") tt tt g

map_back : {t : Lexeme} → Tok Good (T.Map ∷ []) t → spelled (ascii "map") ≡ bare_l t
unfolding only none_has words rest marks shapes word_rule token ascii code same
map_back g = word_back T.Map (ascii "map") tt tt g

-- ---- types

common_back : {ks : List Token} {t : Lexeme} → Tok Good ks t → type_of (shape_of (type_tree (CommonType t))) ≡ CommonType (bare_l t)
unfolding type_of shape_of type_tree leaf bytes_count bytes
common_back {t = lexeme k w l} g = go (is k T.Identifier) (spelled_back g)
  where
    go : (b : Bool) → spelled w ≡ bare_l (lexeme k w l) → type_of (shape_of (leaf (cond b 19 18) (lexeme k w l))) ≡ CommonType (bare_l (lexeme k w l))
    go true e = ap CommonType e
    go false e = ap CommonType e

type_back : {d : ℕ} {t : FieldType} → W.WfType Good d t → type_of (shape_of (type_tree t)) ≡ forget_type t
unfolding type_of type_first type_second shape_of shapes_of type_tree move_type inner single both
type_back (W.wcommon g) = common_back g
type_back (W.wlist g h) = cc (list_back g, type_back h)
type_back (W.wset g h) = cc (set_back g, type_back h)
type_back (W.wmap g h i) = cc (map_back g, type_back h, type_back i)

return_back : {t : FieldType} → W.WfReturn Good t → type_of (shape_of (type_tree t)) ≡ forget_type t
unfolding move_type
return_back (W.wvoid g) = common_back g
return_back (W.wtype h) = type_back h

-- ---- values

-- what holds of 23 to 28 holds of the kind of a literal
literal_kind : (P : ℕ → Type 0) → P 23 → P 24 → P 25 → P 26 → P 27 → P 28 → (t : Token) → P (value_kind t)
unfolding value_kind
literal_kind P a b c d e f t = go (is t T.StringLiteral) (is t T.IntegerLiteral) (is t T.DoubleLiteral) (is t T.BooleanLiteral) (is t T.HexLiteral)
  where
    go : (p q r s u : Bool) → P (cond p 23 (cond q 24 (cond r 25 (cond s 26 (cond u 27 28)))))
    go true q r s u = a
    go false true r s u = b
    go false false true s u = c
    go false false false true u = d
    go false false false false true = e
    go false false false false false = f

literal_back : {ks : List Token} {t : Lexeme} → Tok Good ks t → leaf_of (shape_of (literal_tree t)) ≡ bare_l t
unfolding leaf_of shape_of literal_tree leaf bytes_count bytes
literal_back {t = lexeme k w l} g = literal_kind (λ (n : ℕ). spelled (cond (bytes_count n) w []) ≡ bare_l (lexeme k w l)) e e e e e e k
  where
    e : spelled w ≡ bare_l (lexeme k w l)
    e = spelled_back g

const_back : {ks : List Token} {t : Lexeme} → Tok Good ks t → value_of (shape_of (literal_tree t)) ≡ ConstValue (bare_l t)
unfolding value_of shape_of literal_tree leaf bytes_count bytes
const_back {t = lexeme k w l} g = literal_kind (λ (n : ℕ). value_of (shape n 0 (cond (bytes_count n) w []) [] no_shape) ≡ ConstValue (bare_l (lexeme k w l))) e e e e e e k
  where
    e : ConstValue (spelled w) ≡ ConstValue (bare_l (lexeme k w l))
    e = ap ConstValue (spelled_back g)

mutual
  unfolding value_of elements_of properties_of key_of entry_of value_first value_second shape_of shapes_of value_tree element_trees property_trees move_value move_elements move_properties inner both single

  value_back : {d : ℕ} {v : FieldInitialValue} → W.WfValue Good d v → value_of (shape_of (value_tree v)) ≡ forget_value v
  value_back (W.wleaf g) = const_back g
  value_back (W.wseq h) = ap (ConstList nowhere) (elements_back h)
  value_back (W.wdict h) = ap (ConstMap nowhere) (properties_back h)

  elements_back : {d n : ℕ} {vs : Elements} → W.WfElements Good d n vs → elements_of (shapes_of (element_trees vs)) ≡ forget_elements vs
  elements_back W.wnil = refl
  elements_back (W.wcons g h) = cc (value_back g, elements_back h)

  properties_back : {d n : ℕ} {ps : Properties} → W.WfProperties Good d n ps → properties_of (shapes_of (property_trees ps)) ≡ forget_properties ps
  properties_back W.wpnil = refl
  properties_back (W.wpcons g h i) = cc (value_back g, value_back h, properties_back i)

-- ---- the parts of a node that a test selects

any_shape : (s : Shape) → holds anything s ≡ true
unfolding holds anything
any_shape (shape k f w c ts) = refl

module _ {A B : Type 0} (p : ℕ → ℕ → Bool) (f : Shape → B) (t : A → Tree) where
  passed_each : ((x : A) → holds p (shape_of (t x)) ≡ false) → (xs : List A) (r : Forest) → select p f (shapes_of (each t xs r)) ≡ select p f (shapes_of r)
  unfolding select shapes_of each
  passed_each h [] r = refl
  passed_each h (x ∷ xs) r = rw (h x) (passed_each h xs r)

  passed_perhaps : ((x : A) → holds p (shape_of (t x)) ≡ false) → (o : Option A) (r : Forest) → select p f (shapes_of (perhaps t o r)) ≡ select p f (shapes_of r)
  unfolding select shapes_of perhaps
  passed_perhaps h None r = refl
  passed_perhaps h (Some x) r = rw (h x)

module _ {A B : Type 0} (p : ℕ → ℕ → Bool) (f : Shape → B) (t : A → Tree) (g : A → B) (held : (x : A) → holds p (shape_of (t x)) ≡ true) where
  taken_each : {W : A → Type 0} → ((x : A) → W x → f (shape_of (t x)) ≡ g x) → {xs : List A} → All W xs → (r : Forest) → select p f (shapes_of r) ≡ []
      → select p f (shapes_of (each t xs r)) ≡ maps g xs
  unfolding select shapes_of each maps
  taken_each back anil r e = e
  taken_each back (acons {x = x} w ws) r e = rw (held x) (cc (back x w, taken_each back ws r e))

  taken_perhaps : (o : Option A) → opt (λ (x : A). f (shape_of (t x))) o ≡ opt g o → (r : Forest) → select p f (shapes_of r) ≡ []
      → first (select p f (shapes_of (perhaps t o r))) ≡ opt g o
  unfolding select shapes_of perhaps opt first
  taken_perhaps None b r e = rw e
  taken_perhaps (Some x) b r e = rw (held x) b

-- ---- annotations

annotation_back : {a : Annotation} → W.WfAnnotation Good a → annotation_of (shape_of (annotation_tree a)) ≡ forget_annotation a
unfolding annotation_of head tail shape_of shapes_of annotation_tree move_annotation inner both single
annotation_back (W.wannotation g h) = cc (name_back g, literal_back h)

annotations_back : {a : Annotations} → W.WfAnnotations Good a → annotations_in (shapes_of (annotations_tree a bare)) ≡ forget_annotations a
unfolding annotations_in annotations_first select holds an_annotations annotations_of shape_of shapes_of annotations_tree move_annotations inner
annotations_back W.wabsent = refl
annotations_back (W.wannotations g h) =
    ap (annotations nowhere)
    (taken_each anything annotation_of annotation_tree forget_annotation (λ x. any_shape (shape_of (annotation_tree x))) (λ x. annotation_back) g bare refl)

-- no other test selects annotations
none_in : {B : Type 0} (f : Shape → B) (p : ℕ → ℕ → Bool) → p 14 0 ≡ false → (a : Annotations) → select p f (shapes_of (annotations_tree a bare)) ≡ []
unfolding select holds shape_of shapes_of annotations_tree inner
none_in f p e absent = refl
none_in f p e (annotations l xs) = rw e

-- ---- what a test says of each part

module _ (p : ℕ → ℕ → Bool) where
  name_test : (t : Lexeme) → holds p (shape_of (name_tree t)) ≡ p 16 0
  unfolding holds shape_of name_tree leaf
  name_test (lexeme k w l) = refl

  member_test : (x : EnumMember) → holds p (shape_of (member_tree x)) ≡ p 13 0
  unfolding holds shape_of member_tree
  member_test (member l c n v a) = refl

  field_test : (b : Bool) (f : ℕ) → p 12 (0 + f) ≡ b → p 12 (1 + f) ≡ b → p 12 (2 + f) ≡ b → (x : Field) → holds p (shape_of (field_tree f x)) ≡ b
  unfolding holds shape_of field_tree required_flag
  field_test b f d e g (field l c i default t n v a) = d
  field_test b f d e g (field l c i required t n v a) = e
  field_test b f d e g (field l c i optional t n v a) = g

  function_test : (b : Bool) → ((f : ℕ) → p 11 f ≡ b) → (x : Function) → holds p (shape_of (function_tree x)) ≡ b
  unfolding holds shape_of function_tree
  function_test b h (function l c o t n ps th a) = h (oneway_flag o + throws_flag th)

-- the two tests of a value
literal_here : (t : Lexeme) → holds no_annotations (shape_of (literal_tree t)) ≡ true
unfolding holds shape_of literal_tree leaf no_annotations
literal_here (lexeme k w l) = literal_kind (λ (n : ℕ). not (eqb n 14) ≡ true) refl refl refl refl refl refl k

value_here : (v : FieldInitialValue) → holds no_annotations (shape_of (value_tree v)) ≡ true
unfolding holds shape_of value_tree inner no_annotations
value_here (ConstValue t) = literal_here t
value_here (ConstList l vs) = refl
value_here (ConstMap l ps) = refl

not_both : (s : Shape) → holds no_annotations s ≡ true → holds an_annotations s ≡ false
unfolding holds no_annotations an_annotations
not_both (shape k f w c ts) = not-true (eqb k 14)

-- the annotations behind other parts
module _ {A : Type 0} (t : A → Tree) (other : (x : A) → holds an_annotations (shape_of (t x)) ≡ false) where
  behind_each : (xs : List A) (r : Forest) → annotations_in (shapes_of (each t xs r)) ≡ annotations_in (shapes_of r)
  unfolding annotations_in
  behind_each xs r = ap annotations_first (passed_each an_annotations annotations_of t other xs r)

  behind_perhaps : (o : Option A) (r : Forest) → annotations_in (shapes_of (perhaps t o r)) ≡ annotations_in (shapes_of r)
  unfolding annotations_in
  behind_perhaps o r = ap annotations_first (passed_perhaps an_annotations annotations_of t other o r)

-- ---- fields

-- the flag of requiredness is read with a further flag f
abbrev Reads : ℕ → Type 0
Reads f = (r : Required) → required_of (required_flag r + f) ≡ r

plain_flag : Reads 0
unfolding required_of required_flag
plain_flag default = refl
plain_flag required = refl
plain_flag optional = refl

thrown_flag : Reads 16
unfolding required_of required_flag
thrown_flag default = refl
thrown_flag required = refl
thrown_flag optional = refl

default_back : {v : Option FieldInitialValue} → W.WfDefault Good v → (a : Annotations)
    → first (select no_annotations value_of (shapes_of (perhaps value_tree v (annotations_tree a bare)))) ≡ opt forget_value v
unfolding opt no_annotations
default_back {v = v} d a =
    taken_perhaps no_annotations value_of value_tree forget_value value_here v (go d) (annotations_tree a bare) (none_in value_of no_annotations refl a)
  where
    go : {v : Option FieldInitialValue} → W.WfDefault Good v → opt (λ (x : FieldInitialValue). value_of (shape_of (value_tree x))) v ≡ opt forget_value v
    go W.wnone = refl
    go (W.wsome h) = ap Some (value_back h)

-- an id is told from a type
id_here : (t : Lexeme) → holds an_id (shape_of (id_tree t)) ≡ true
unfolding holds shape_of id_tree leaf an_id
id_here (lexeme k w l) = refl

type_no_id : (t : FieldType) → holds an_id (shape_of (type_tree t)) ≡ false
unfolding holds shape_of type_tree inner leaf an_id
type_no_id (CommonType (lexeme k w l)) = go (is k T.Identifier)
  where
    go : (b : Bool) → eqb (cond b 19 18) 17 ≡ false
    go true = refl
    go false = refl
type_no_id (ListType l k t) = refl
type_no_id (SetType l k t) = refl
type_no_id (MapType l k t u) = refl

field_annotations : (v : Option FieldInitialValue) {a : Annotations} → W.WfAnnotations Good a → annotations_in (shapes_of (perhaps value_tree v (annotations_tree a bare))) ≡ forget_annotations a
field_annotations v {a} g = behind_perhaps value_tree (λ x. not_both (shape_of (value_tree x)) (value_here x)) v (annotations_tree a bare) ∙ annotations_back g

field_back : (f : ℕ) → Reads f → {x : Field} → W.WfField Good x → field_of (shape_of (field_tree f x)) ≡ forget_field x
unfolding field_of field_from field_with head tail shape_of shapes_of field_tree perhaps opt move_field
field_back f q (W.wfield {q = r} {t = y} {v = v} {a = a} c W.wnoid t n d g) =
    rw (type_no_id y) (cc (notes_back c, type_back t, name_back n, q r, default_back d a, field_annotations v g))
field_back f q (W.wfield {q = r} {v = v} {a = a} c (W.wid {t = x} i j) t n d g) =
    rw (id_here x) (cc (notes_back c, id_back i, type_back t, name_back n, q r, default_back d a, field_annotations v g))

-- ---- members

-- a lexeme that may be there, with the tree t
option_back : {ks : List Token} (t : Lexeme → Tree) → ((x : Lexeme) → Tok Good ks x → leaf_of (shape_of (t x)) ≡ bare_l x) → {o : Option Lexeme} → W.WfOption Good ks o
    → opt (λ (x : Lexeme). leaf_of (shape_of (t x))) o ≡ opt bare_l o
unfolding opt
option_back t h W.wnothing = refl
option_back t h (W.wjust {t = x} g) = ap Some (h x g)

member_back : {x : EnumMember} → W.WfMember Good x → member_of (shape_of (member_tree x)) ≡ forget_member x
unfolding member_of head tail shape_of shapes_of member_tree move_member no_annotations
member_back (W.wmember {v = v} {a = a} c n o g) =
    let h : annotations_in (shapes_of (perhaps literal_tree v (annotations_tree a bare))) ≡ forget_annotations a
    = behind_perhaps literal_tree (λ x. not_both (shape_of (literal_tree x)) (literal_here x)) v (annotations_tree a bare) ∙ annotations_back g in
    let i : first (select no_annotations leaf_of (shapes_of (perhaps literal_tree v (annotations_tree a bare)))) ≡ opt bare_l v
    = taken_perhaps no_annotations leaf_of literal_tree bare_l literal_here v (option_back literal_tree (λ x. literal_back) o) (annotations_tree a bare) (none_in leaf_of no_annotations refl a) in
    cc (notes_back c, name_back n)

-- ---- functions

plain_field : (x : Field) → holds a_field (shape_of (field_tree 0 x)) ≡ true
unfolding a_field
plain_field = field_test a_field true 0 refl refl refl

thrown_not_plain : (x : Field) → holds a_field (shape_of (field_tree 16 x)) ≡ false
unfolding a_field
thrown_not_plain = field_test a_field false 16 refl refl refl

thrown_field : (x : Field) → holds a_thrown (shape_of (field_tree 16 x)) ≡ true
unfolding a_thrown
thrown_field = field_test a_thrown true 16 refl refl refl

plain_not_thrown : (x : Field) → holds a_thrown (shape_of (field_tree 0 x)) ≡ false
unfolding a_thrown
plain_not_thrown = field_test a_thrown false 0 refl refl refl

field_other : (f : ℕ) (x : Field) → holds an_annotations (shape_of (field_tree f x)) ≡ false
unfolding an_annotations
field_other f = field_test an_annotations false f refl refl refl

fields_back : {fs : List Field} → All (W.WfField Good) fs → (r : Forest) → select a_field field_of (shapes_of r) ≡ []
    → select a_field field_of (shapes_of (each (field_tree 0) fs r)) ≡ maps forget_field fs
fields_back h r e = taken_each a_field field_of (field_tree 0) forget_field plain_field (λ x. field_back 0 plain_flag) h r e

-- what stands behind the parameters
module _ (a : Annotations) where
  no_parameters : (th : Option (List Field)) → select a_field field_of (shapes_of (throws_trees th (annotations_tree a bare))) ≡ []
  unfolding throws_trees a_field
  no_parameters None = none_in field_of a_field refl a
  no_parameters (Some fs) = passed_each a_field field_of (field_tree 16) thrown_not_plain fs (annotations_tree a bare) ∙ none_in field_of a_field refl a

  behind_throws : (th : Option (List Field)) → annotations_in (shapes_of (throws_trees th (annotations_tree a bare))) ≡ annotations_in (shapes_of (annotations_tree a bare))
  unfolding throws_trees
  behind_throws None = refl
  behind_throws (Some fs) = behind_each (field_tree 16) (field_other 16) fs (annotations_tree a bare)

  thrown_back : (ps : List Field) {fs : List Field} → All (W.WfField Good) fs
      → select a_thrown field_of (shapes_of (each (field_tree 0) ps (each (field_tree 16) fs (annotations_tree a bare)))) ≡ maps forget_field fs
  unfolding a_thrown
  thrown_back ps {fs = fs} g =
      passed_each a_thrown field_of (field_tree 0) plain_not_thrown ps (each (field_tree 16) fs (annotations_tree a bare))
      ∙ taken_each a_thrown field_of (field_tree 16) forget_field thrown_field (λ x. field_back 16 thrown_flag) g (annotations_tree a bare) (none_in field_of a_thrown refl a)

  throws_back : (o : Bool) {th : Option (List Field)} → W.WfThrows Good th → (ps : List Field)
      → throws_by (oneway_flag o + throws_flag th) (select a_thrown field_of (shapes_of (each (field_tree 0) ps (throws_trees th (annotations_tree a bare))))) ≡ opt (maps forget_field) th
  unfolding throws_by oneway_flag throws_flag throws_trees opt
  throws_back true W.wquiet ps = refl
  throws_back false W.wquiet ps = refl
  throws_back true (W.wthrows g h) ps = ap Some (thrown_back ps g)
  throws_back false (W.wthrows g h) ps = ap Some (thrown_back ps g)

oneway_back : (o : Bool) (th : Option (List Field)) → oneway_by (oneway_flag o + throws_flag th) ≡ o
unfolding oneway_by oneway_flag throws_flag
oneway_back true None = refl
oneway_back true (Some th) = refl
oneway_back false None = refl
oneway_back false (Some th) = refl

function_back : {x : Function} → W.WfFunction Good x → function_of (shape_of (function_tree x)) ≡ forget_function x
unfolding function_of function_with head tail shape_of shapes_of function_tree move_function
function_back (W.wfunction {o = o} {ps = ps} {th = th} {a = a} c t n p h g i) =
    let e : annotations_in (shapes_of (each (field_tree 0) ps (throws_trees th (annotations_tree a bare)))) ≡ forget_annotations a
    = behind_each (field_tree 0) (field_other 0) ps (throws_trees th (annotations_tree a bare)) ∙ behind_throws a th ∙ annotations_back i in
    cc
    (notes_back c, return_back t, name_back n, oneway_back o th, fields_back p (throws_trees th (annotations_tree a bare)) (no_parameters a th), throws_back a o g ps)

-- ---- definitions

member_other : (x : EnumMember) → holds an_annotations (shape_of (member_tree x)) ≡ false
unfolding an_annotations
member_other = member_test an_annotations

function_other : (x : Function) → holds an_annotations (shape_of (function_tree x)) ≡ false
unfolding an_annotations
function_other = function_test an_annotations false (λ f. refl)

name_other : (t : Lexeme) → holds an_annotations (shape_of (name_tree t)) ≡ false
unfolding an_annotations
name_other = name_test an_annotations

members_back : {xs : List EnumMember} → All (W.WfMember Good) xs → (a : Annotations)
    → select a_member member_of (shapes_of (each member_tree xs (annotations_tree a bare))) ≡ maps forget_member xs
unfolding a_member
members_back h a =
    taken_each a_member member_of member_tree forget_member (member_test a_member) (λ x. member_back) h (annotations_tree a bare) (none_in member_of a_member refl a)

structure_back : {fs : List Field} → All (W.WfField Good) fs → (a : Annotations)
    → select a_field field_of (shapes_of (each (field_tree 0) fs (annotations_tree a bare))) ≡ maps forget_field fs
unfolding a_field
structure_back h a = fields_back h (annotations_tree a bare) (none_in field_of a_field refl a)

fields_past : (fs : List Field) (a : Annotations) → W.WfAnnotations Good a → annotations_in (shapes_of (each (field_tree 0) fs (annotations_tree a bare))) ≡ forget_annotations a
fields_past fs a g = behind_each (field_tree 0) (field_other 0) fs (annotations_tree a bare) ∙ annotations_back g

-- of a service: behind its name
module _ (x : Option Lexeme) (fs : List Function) (a : Annotations) where
  functions_back : All (W.WfFunction Good) fs
      → select a_function function_of (shapes_of (perhaps name_tree x (each function_tree fs (annotations_tree a bare)))) ≡ maps forget_function fs
  unfolding a_function
  functions_back h =
      passed_perhaps a_function function_of name_tree (name_test a_function) x (each function_tree fs (annotations_tree a bare))
      ∙ taken_each a_function function_of function_tree forget_function (function_test a_function true (λ f. refl)) (λ x. function_back) h (annotations_tree a bare) (none_in function_of a_function refl a)

  extends_back : W.WfOption Good (T.Identifier ∷ []) x
      → first (select a_name leaf_of (shapes_of (perhaps name_tree x (each function_tree fs (annotations_tree a bare))))) ≡ opt bare_l x
  unfolding a_name
  extends_back h =
      taken_perhaps a_name leaf_of name_tree bare_l (name_test a_name) x (option_back name_tree (λ x. name_back) h) (each function_tree fs (annotations_tree a bare))
      (passed_each a_name leaf_of function_tree (function_test a_name false (λ f. refl)) fs (annotations_tree a bare) ∙ none_in leaf_of a_name refl a)

  service_back : W.WfAnnotations Good a → annotations_in (shapes_of (perhaps name_tree x (each function_tree fs (annotations_tree a bare)))) ≡ forget_annotations a
  service_back g =
      behind_perhaps name_tree name_other x (each function_tree fs (annotations_tree a bare)) ∙ behind_each function_tree function_other fs (annotations_tree a bare) ∙ annotations_back g

definition_back : {d : Definition} → W.WfDefinition Good d → definition_of (shape_of (definition_tree d)) ≡ forget_definition d
unfolding definition_of typed_by named_by structure_of head tail shape_of shapes_of definition_tree structure_kind move_definition both single
definition_back (W.winclude c n) = cc (notes_back c, name_back n)
definition_back (W.wcpp c n) = cc (notes_back c, name_back n)
definition_back (W.wnamespace c s n) = cc (notes_back c, name_back s, name_back n)
definition_back (W.wconst c t n v) = cc (notes_back c, type_back t, name_back n, value_back v)
definition_back (W.wtypedef c t n) = cc (notes_back c, type_back t, name_back n)
definition_back (W.wenum {xs = xs} {a = a} c n ms h g) =
    cc (notes_back c, name_back n, members_back ms a, behind_each member_tree member_other xs (annotations_tree a bare) ∙ annotations_back g)
definition_back (W.wstructure {s = Struct} {fs = fs} {a = a} c n h i g) = cc (notes_back c, name_back n, structure_back h a, fields_past fs a g)
definition_back (W.wstructure {s = Union} {fs = fs} {a = a} c n h i g) = cc (notes_back c, name_back n, structure_back h a, fields_past fs a g)
definition_back (W.wstructure {s = Exception} {fs = fs} {a = a} c n h i g) = cc (notes_back c, name_back n, structure_back h a, fields_past fs a g)
definition_back (W.wservice {x = x} {fs = fs} {a = a} c n o h i g) =
    cc (notes_back c, name_back n, extends_back x fs a o, functions_back x fs a h, service_back x fs a g)

pub rebuilt : {ds : List Definition} → All (W.WfDefinition Good) ds → rebuild (shapes_of (forest ds)) ≡ forget ds
unfolding rebuild forest move select shapes_of
rebuilt h =
    taken_each anything definition_of definition_tree forget_definition (λ x. any_shape (shape_of (definition_tree x))) (λ x. definition_back) h bare refl

-- ---- what is left of well-formed definitions by the drop is well formed

all_maps : {A : Type 0} {W : A → Type 0} (f : A → A) → ((x : A) → W x → W (f x)) → {xs : List A} → All W xs → All W (maps f xs)
unfolding maps
all_maps f h anil = anil
all_maps f h (acons {x = x} w ws) = acons (h x w) (all_maps f h ws)

few_maps : {A : Type 0} (f : A → A) (xs : List A) → length xs < most → length (maps f xs) < most
few_maps f xs h = rw length_maps h

field_left : (x : Field) → W.WfField Good x → W.WfField Good (drop_field x)
unfolding drop_field
field_left x (W.wfield c i t n v a) = W.wfield anil i t n v W.wabsent

throws_left : {th : Option (List Field)} → W.WfThrows Good th → W.WfThrows Good (opt (maps drop_field) th)
unfolding opt
throws_left W.wquiet = W.wquiet
throws_left (W.wthrows {fs = fs} g h) = W.wthrows (all_maps drop_field field_left g) (few_maps drop_field fs h)

function_left : (x : Function) → W.WfFunction Good x → W.WfFunction Good (drop_function x)
unfolding drop_function
function_left x (W.wfunction {ps = ps} c t n p h g a) =
    W.wfunction c t n (all_maps drop_field field_left p) (few_maps drop_field ps h) (throws_left g) a

definition_left : (d : Definition) → W.WfDefinition Good d → W.WfDefinition Good (drop_params d)
unfolding drop_params
definition_left d (W.winclude c n) = W.winclude c n
definition_left d (W.wcpp c n) = W.wcpp c n
definition_left d (W.wnamespace c s n) = W.wnamespace c s n
definition_left d (W.wconst c t n v) = W.wconst c t n v
definition_left d (W.wtypedef c t n) = W.wtypedef c t n
definition_left d (W.wenum c n xs h a) = W.wenum c n xs h a
definition_left d (W.wstructure c n fs h a) = W.wstructure c n fs h a
definition_left d (W.wservice {fs = fs} c n x g h a) = W.wservice c n x (all_maps drop_function function_left g) (few_maps drop_function fs h) a

pub rebuild_back : {ds : List Definition} → All (W.WfDefinition Good) ds → rebuild (shapes_of (forest (maps drop_params ds))) ≡ forget (maps drop_params ds)
rebuild_back h = rebuilt (all_maps drop_params definition_left h)
