-- The names of a tree that was read: each where its parent allows its kind. Types, values and ids have none.
--     definition_fits   for each definition
use mathlib.Core.Path.{◌≡◌, refl}
use mathlib.Core.Bool.{Bool, true, false, cond}
use mathlib.Core.List.{List, [], ◌∷◌}
use Rattle.std.specs.Prelude.{Option, Some, None}
use Prim.Native.Nat.{ℕ, ◌<◌}
use native.Mathlib.Omega.{arith}
use Rattle.token.specs.Code.{is}
use Rattle.token.specs.declared.Token.{Token}
use Rattle.token.specs.declared.Token.TheVariants as T
use Rattle.lexer.specs.declared.location.LOC.{LOC}
use Rattle.lexer.specs.Tokens.{Lexeme, lexeme}
use Rattle.ast.specs.Kind as K
use Rattle.ast.specs.Lists.{All, anil, acons}
use Rattle.ast.specs.Ast.{
  FieldType,
  CommonType,
  ListType,
  SetType,
  MapType,
  FieldInitialValue,
  ConstValue,
  ConstList,
  ConstMap,
  Elements,
  nil,
  cons,
  Properties,
  pnil,
  pcons,
  Annotation,
  Annotations,
  Field,
  EnumMember,
  Function,
  Structure,
  Struct,
  Union,
  Exception,
  Definition,
}
use Rattle.ast.specs.Tree.{
  Tree,
  node,
  Forest,
  bare,
  grown,
  leaf,
  inner,
  single,
  both,
  each,
  perhaps,
  name_tree,
  id_tree,
  type_tree,
  value_kind,
  literal_tree,
  value_tree,
  element_trees,
  property_trees,
  annotation_tree,
  annotations_tree,
  field_tree,
  member_tree,
  throws_trees,
  function_tree,
  structure_kind,
  definition_tree,
}
use Rattle.parser.specs.Steps.{place}
use Rattle.parser.proofs.Each.{
  EachOption,
  enone,
  esome,
  Kinded,
  EachAnnotation,
  eannotation,
  EachAnnotations,
  eabsent,
  eannotations,
  EachField,
  efield,
  EachMember,
  emember,
  EachFunction,
  efunction,
  EachDefinition,
  einclude,
  ecpp,
  enamespace,
  econst,
  etypedef,
  eenum,
  estructure,
  eservice,
}
use Rattle.ranges.specs.Ranges.{name_kinds}

-- not a name
other : (k : ℕ) → k < K.Name → {X : Type 0} → k ≡ K.Name → X
other k h e = absurd (omega arith)

other_than : (k : ℕ) → K.Name < k → {X : Type 0} → k ≡ K.Name → X
other_than k h e = absurd (omega arith)

module _ (Holds : Lexeme → Type 0) where
  -- a range that is the place of a token of one of these kinds
  pub data Ranged (ks : List Token) : LOC → Type 0 where
    ranged : {t : Lexeme} → Kinded Holds ks t → Ranged ks (place t)

  -- a tree standing where a name may be of the kinds ks; the children of a node of the kind k, the first of them or not
  mutual
    pub data Fits : List Token → Tree → Type 0 where
      fits : {ks : List Token} {k f : ℕ} {l : LOC} {w : List ℕ} {c : List Lexeme} {ts : Forest} →
          (k ≡ K.Name → Ranged ks l) → FitsUnder k true ts → Fits ks (node k f l w c ts)

    pub data FitsUnder : ℕ → Bool → Forest → Type 0 where
      under_none : {k : ℕ} {b : Bool} → FitsUnder k b bare
      under_one : {k : ℕ} {b : Bool} {t : Tree} {ts : Forest} → Fits (name_kinds k b) t → FitsUnder k false ts → FitsUnder k b (grown t ts)

  -- a tree that may stand anywhere; a forest, at the start or not
  abbrev pub Fitting : Tree → Type 0
  Fitting t = (ks : List Token) → Fits ks t

  abbrev pub FittingUnder : ℕ → Forest → Type 0
  FittingUnder k f = (b : Bool) → FitsUnder k b f

  none_fits : {k : ℕ} → FittingUnder k bare
  none_fits b = under_none

  one_fits : {k : ℕ} {t : Tree} {ts : Forest} → Fitting t → FittingUnder k ts → FittingUnder k (grown t ts)
  one_fits h r b = under_one (h _) (r false)

  each_fits : {A : Type 0} {k : ℕ} (f : A → Tree) {xs : List A} {ts : Forest} → All (λ x. Fitting (f x)) xs → FittingUnder k ts → FittingUnder k (each f xs ts)
  unfolding each
  each_fits f anil r = r
  each_fits f (acons h hs) r = one_fits h (each_fits f hs r)

  perhaps_fits : {A : Type 0} {k : ℕ} (f : A → Tree) (x : Option A) {ts : Forest} → ((x : A) → Fitting (f x)) → FittingUnder k ts → FittingUnder k (perhaps f x ts)
  unfolding perhaps
  perhaps_fits f None h r = r
  perhaps_fits f (Some x) h r = one_fits (h x) r

  -- ---- leaves

  leaf_fits : (k : ℕ) (t : Lexeme) → ((ks : List Token) → k ≡ K.Name → Ranged ks (place t)) → Fitting (leaf k t)
  unfolding leaf place
  leaf_fits k (lexeme t w l) h ks = fits (h ks) under_none

  name_fits : {ks : List Token} (t : Lexeme) → Kinded Holds ks t → Fits ks (name_tree t)
  unfolding name_tree leaf place
  name_fits (lexeme k w l) h = fits (λ e. ranged h) under_none

  id_fits : (t : Lexeme) → Fitting (id_tree t)
  unfolding id_tree
  id_fits t = leaf_fits K.FieldId t (λ ks. other_than K.FieldId (omega arith))

  -- ---- types

  type_fits : (t : FieldType) → Fitting (type_tree t)
  unfolding type_tree inner single both
  type_fits (CommonType (lexeme k w l)) ks = go (is k T.Identifier)
    where
      go : (b : Bool) → Fits ks (leaf (cond b 19 18) (lexeme k w l))
      go true = leaf_fits 19 (lexeme k w l) (λ ks. other_than 19 (omega arith)) ks
      go false = leaf_fits 18 (lexeme k w l) (λ ks. other_than 18 (omega arith)) ks
  type_fits (ListType l k t) ks = fits (other_than 20 (omega arith)) (one_fits (type_fits t) none_fits true)
  type_fits (SetType l k t) ks = fits (other_than 21 (omega arith)) (one_fits (type_fits t) none_fits true)
  type_fits (MapType l k a b) ks = fits (other_than 22 (omega arith)) (one_fits (type_fits a) (one_fits (type_fits b) none_fits) true)

  -- ---- values

  value_kind_law : (t : Token) → 16 < value_kind t
  unfolding value_kind
  value_kind_law t = go (is t T.StringLiteral) (is t T.IntegerLiteral) (is t T.DoubleLiteral) (is t T.BooleanLiteral) (is t T.HexLiteral)
    where
      go : (a b c d e : Bool) → 16 < cond a 23 (cond b 24 (cond c 25 (cond d 26 (cond e 27 28))))
      go true b c d e = omega arith
      go false true c d e = omega arith
      go false false true d e = omega arith
      go false false false true e = omega arith
      go false false false false true = omega arith
      go false false false false false = omega arith

  literal_fits : (t : Lexeme) → Fitting (literal_tree t)
  unfolding literal_tree
  literal_fits (lexeme k w l) ks = leaf_fits (value_kind k) (lexeme k w l) (λ ks. other_than (value_kind k) (value_kind_law k)) ks

  mutual
    unfolding value_tree inner single both

    value_fits : (v : FieldInitialValue) → Fitting (value_tree v)
    value_fits (ConstValue t) = literal_fits t
    value_fits (ConstList l vs) = λ ks. fits (other_than 29 (omega arith)) (elements_fit vs true)
    value_fits (ConstMap l ps) = λ ks. fits (other_than 30 (omega arith)) (properties_fit ps true)

    elements_fit : (vs : Elements) → FittingUnder 29 (element_trees vs)
    elements_fit nil = none_fits
    elements_fit (cons v vs) = one_fits (value_fits v) (elements_fit vs)

    properties_fit : (ps : Properties) → FittingUnder 30 (property_trees ps)
    properties_fit pnil = none_fits
    properties_fit (pcons l k v ps) =
        one_fits (λ ks. fits (other_than 31 (omega arith)) (one_fits (value_fits k) (one_fits (value_fits v) none_fits) true)) (properties_fit ps)

  -- ---- annotations

  annotation_fits : {x : Annotation} → EachAnnotation Holds x → Fitting (annotation_tree x)
  unfolding annotation_tree inner both single name_kinds
  annotation_fits (eannotation {n = n} {v = v} h g) ks = fits (other K.Annotation (omega arith)) (under_one (name_fits n h) (one_fits (literal_fits v) none_fits false))

  annotation_all : {xs : List Annotation} → All (EachAnnotation Holds) xs → All (λ x. Fitting (annotation_tree x)) xs
  annotation_all anil = anil
  annotation_all (acons h hs) = acons (annotation_fits h) (annotation_all hs)

  annotations_fit : {a : Annotations} → EachAnnotations Holds a → {k : ℕ} {r : Forest} → FittingUnder k r → FittingUnder k (annotations_tree a r)
  unfolding annotations_tree inner
  annotations_fit eabsent g = g
  annotations_fit (eannotations hs) g = one_fits (λ ks. fits (other K.Annotations (omega arith)) (each_fits annotation_tree (annotation_all hs) none_fits true)) g

  -- ---- fields, whatever their further flag

  field_fits : (f : ℕ) {x : Field} → EachField Holds x → Fitting (field_tree f x)
  unfolding field_tree name_kinds
  field_fits f (efield {i = i} {t = t} {n = n} {v = v} hc hi ht hn hv ha) ks =
      fits (other K.Field (omega arith))
      (perhaps_fits id_tree i id_fits
      (one_fits (type_fits t) (λ b. under_one (name_fits n hn) (perhaps_fits value_tree v value_fits (annotations_fit ha none_fits) false))) true)

  field_all : (f : ℕ) {xs : List Field} → All (EachField Holds) xs → All (λ x. Fitting (field_tree f x)) xs
  field_all f anil = anil
  field_all f (acons h hs) = acons (field_fits f h) (field_all f hs)

  -- ---- functions

  throws_fit : {th : Option (List Field)} → EachOption (All (EachField Holds)) th → {k : ℕ} {r : Forest} → FittingUnder k r → FittingUnder k (throws_trees th r)
  unfolding throws_trees
  throws_fit enone g = g
  throws_fit (esome hs) g = each_fits (field_tree K.Thrown) (field_all K.Thrown hs) g

  function_fits : {x : Function} → EachFunction Holds x → Fitting (function_tree x)
  unfolding function_tree name_kinds
  function_fits (efunction {t = t} {n = n} hc ht hn hp hth ha) ks =
      fits (other K.Function (omega arith))
      (one_fits (type_fits t) (λ b. under_one (name_fits n hn) (each_fits (field_tree 0) (field_all 0 hp) (throws_fit hth (annotations_fit ha none_fits)) false)) true)

  function_all : {xs : List Function} → All (EachFunction Holds) xs → All (λ x. Fitting (function_tree x)) xs
  function_all anil = anil
  function_all (acons h hs) = acons (function_fits h) (function_all hs)

  -- ---- enum members

  member_fits : {x : EnumMember} → EachMember Holds x → Fitting (member_tree x)
  unfolding member_tree name_kinds
  member_fits (emember {n = n} {v = v} hc hn hv ha) ks =
      fits (other K.EnumMember (omega arith)) (under_one (name_fits n hn) (perhaps_fits literal_tree v literal_fits (annotations_fit ha none_fits) false))

  member_all : {xs : List EnumMember} → All (EachMember Holds) xs → All (λ x. Fitting (member_tree x)) xs
  member_all anil = anil
  member_all (acons h hs) = acons (member_fits h) (member_all hs)

  -- ---- definitions

  structure_names : (k : Structure) (b : Bool) → name_kinds (structure_kind k) b ≡ T.Identifier ∷ []
  unfolding name_kinds structure_kind
  structure_names Struct b = refl
  structure_names Union b = refl
  structure_names Exception b = refl

  extends_fit : {x : Option Lexeme} → EachOption (Kinded Holds (T.Identifier ∷ [])) x → {r : Forest} → FittingUnder K.Service r → FittingUnder K.Service (perhaps name_tree x r)
  unfolding perhaps name_kinds
  extends_fit enone g = g
  extends_fit (esome {x = t} h) g = λ b. under_one (name_fits t h) (g false)

  -- what stands below a definition
  pub data Below : Tree → Type 0 where
    below : {k f : ℕ} {l : LOC} {w : List ℕ} {c : List Lexeme} {ts : Forest} → FitsUnder k true ts → Below (node k f l w c ts)

  pub definition_fits : {d : Definition} → EachDefinition Holds d → Below (definition_tree d)
  unfolding definition_tree both single name_kinds
  definition_fits (einclude {n = n} hc hn) = below (under_one (name_fits n hn) (none_fits false))
  definition_fits (ecpp {n = n} hc hn) = below (under_one (name_fits n hn) (none_fits false))
  definition_fits (enamespace {s = s} {n = n} hc hs hn) = below (under_one (name_fits s hs) (under_one (name_fits n hn) (none_fits false)))
  definition_fits (econst {t = t} {n = n} {v = v} hc ht hn hv) =
      below (under_one (type_fits t _) (under_one (name_fits n hn) (one_fits (value_fits v) none_fits false)))
  definition_fits (etypedef {t = t} {n = n} hc ht hn) = below (under_one (type_fits t _) (under_one (name_fits n hn) (none_fits false)))
  definition_fits (eenum {n = n} hc hn hs ha) = below (under_one (name_fits n hn) (each_fits member_tree (member_all hs) (annotations_fit ha none_fits) false))
  definition_fits (estructure {s = s} {n = n} hc hn hs ha) =
      let h : Kinded Holds (name_kinds (structure_kind s) true) n = rw structure_names hn in
      below (under_one (name_fits n h) (each_fits (field_tree 0) (field_all 0 hs) (annotations_fit ha none_fits) false))
  definition_fits (eservice {n = n} hc hn hx hs ha) =
      below (under_one (name_fits n hn) (extends_fit hx (each_fits function_tree (function_all hs) (annotations_fit ha none_fits)) false))
