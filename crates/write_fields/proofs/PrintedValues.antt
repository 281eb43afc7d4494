-- On the records of a value, or of annotations, the printer writes them.
--     value_printed         a value's pieces are printed, its records passed
--     annotations_printed   so for the annotations of a node, if it has them
use mathlib.Core.Path.{◌≡◌, refl, sym}
use mathlib.Core.Bool.{Bool, true, false, cond}
use mathlib.Core.List.{List, [], ◌∷◌, ◌++◌}
use Prim.Native.Nat.{ℕ, zero, suc, ◌+◌, ◌≤◌, ◌<◌}
use Prim.Native.String.{String}
use native.Mathlib.Omega.{arith}
use lib.Dec.{eqb}
use borrow.Author.Tests.{eq-eqb}
use Rattle.token.specs.Regex.{bytes as ascii}
use Rattle.token.specs.Code.{is}
use Rattle.token.specs.declared.Token.TheVariants as Tok
use Rattle.lexer.specs.declared.location.LOC.{LOC}
use Rattle.lexer.specs.Tokens.{lexeme}
use Rattle.ast.specs.Lists.{All, acons}
use Rattle.ast.specs.Ast.{
  FieldInitialValue,
  ConstValue,
  ConstList,
  ConstMap,
  Elements,
  nil,
  cons,
  Properties,
  pnil,
  pcons,
  Annotation,
  annotation,
  Annotations,
  absent,
  annotations,
}
use Rattle.ast.specs.Tree.{
  Tree,
  node,
  Forest,
  bare,
  grown,
  leaf,
  inner,
  single,
  both,
  each,
  name_tree,
  value_kind,
  literal_tree,
  value_tree,
  element_trees,
  property_trees,
  annotation_tree,
  annotations_tree,
}
use Rattle.ast.specs.Records.{node_width, size, sizes}
use Rattle.parser.specs.Steps.{place}
use Rattle.parser.proofs.Each.{
  EachValue,
  eleaf,
  eseq,
  edict,
  EachElements,
  econs,
  EachProperties,
  epcons,
  EachAnnotation,
  eannotation,
  EachAnnotations,
  eabsent,
  eannotations,
}
use Rattle.writer.specs.Print.{
  Piece,
  mark,
  space,
  bytes_of,
  write_value,
  write_elements,
  more_elements,
  write_properties,
  more_properties,
  write_each,
  commas,
  write_annotation,
  write_annotations,
}
use Rattle.cursor.specs.declared.Cursor.{Cursor}
use Rattle.cursor.specs.Onto.{Reached, W, ◌⨟◌, parent_at, pass_node, say_out}
use Rattle.write_fields.specs.Onto.{each_out, property_out, brackets_out, value_out, annotation_out, annotations_out}
use Rattle.write_fields.proofs.Ahead.{Rows, under, unders, owned_before, noted, noteds, Got, got, on, Job, At, kind_is, parent_is, moved, passes, puts, puts2, puts3, prints_token}
use Rattle.write_fields.proofs.Follow.{After, after_later, after_forest, unders_long, not_parent}
use Rattle.write_fields.proofs.PrintedLeaves.{Good, separated, comma_printed, literal_printed}

-- a literal is no list and no map
not_nested : (a b c d e : Bool) (A B D : Reached) →
    cond (eqb (cond a 23 (cond b 24 (cond c 25 (cond d 26 (cond e 27 28))))) 29) A
    (cond (eqb (cond a 23 (cond b 24 (cond c 25 (cond d 26 (cond e 27 28))))) 30) B D) ≡ D
not_nested true b c d e A B D = refl
not_nested false true c d e A B D = refl
not_nested false false true d e A B D = refl
not_nested false false false true e A B D = refl
not_nested false false false false true A B D = refl
not_nested false false false false false A B D = refl

module _ (j : Job) where
  -- ---- the children of a node

  -- the pieces u of a child of node n are written, with the pieces s left
  abbrev Prints : W → ℕ → Tree → List Piece → List Piece → Type 0
  Prints write n t u s =
      (m : ℕ) (R C : Rows) (p : Cursor) (o : List ℕ) → n < m → After m R → At j u m (under t n m R) (noted t m C) p o →
      Got (At j s (m + size t) R C) (write p o)

  -- these children have these pieces, before r
  data Shown (write : W) (n : ℕ) (r : List Piece) : Bool → Forest → List Piece → Type 0 where
    none : {b : Bool} → Shown write n r b bare r
    some : {b : Bool} {t : Tree} {ts : Forest} {u s : List Piece} →
        Prints write n t u s → Shown write n r false ts s → Shown write n r b (grown t ts) (separated b u)

  -- the next record is a child
  pub child_is : (t : Tree) (q n : ℕ) (r : List Piece) (R C : Rows) (p : Cursor) (o : List ℕ) → At j r n (under t q n R) C p o →
      eqb (parent_at node_width j.nodes j.count p.node) q ≡ true
  unfolding under
  child_is (node k f l w c ts) q n r R C p o a = eq-eqb _ q (parent_is j k q f l _ a)

  pub size_some : (t : Tree) → 0 < size t
  unfolding size
  size_some (node k f l w c ts) = omega arith

  -- all of them, in at least as many turns as they have records
  module _ (write : W) (n : ℕ) (few : n < 4294967295) (r : List Piece) (R C : Rows) (after : After n R) where
    each_printed : (k : ℕ) (b : Bool) (ts : Forest) (u : List Piece) (m : ℕ) (p : Cursor) (o : List ℕ) → Shown write n r b ts u → sizes ts ≤ k → n < m →
        At j u m (unders ts n m R) (noteds ts m C) p o → Got (At j r (m + sizes ts) R C) (each_out j.nodes j.count n write b k p o)
    unfolding each_out unders noteds sizes
    each_printed zero b bare u m p o none h g a = got (moved j (m + 0) (omega arith) a)
    each_printed (suc k) b bare u m p o none h g a = rw (not_parent j n few after a) (got (moved j (m + 0) (omega arith) a))
    each_printed zero b (grown t ts) u m p o (some x xs) h g a = absurd (omega (arith, h, size_some t))
    each_printed (suc k) b (grown t ts) u m p o (some {u = v} {s = s} x xs) h g a =
        let e : m + size t + sizes ts ≡ m + (size t + sizes ts) = omega arith in
        rw (child_is t n m _ _ _ p o a)
        (on (comma_printed j b m v _ _ p o a) λ p o a.
        on (x m _ _ p o g (after_forest ts n m (m + size t) R g after) a) λ p o a.
        rw (sym e) (each_printed k false ts s (m + size t) p o xs (omega (arith, h, size_some t)) (omega (arith, g)) a))

  -- a bracket, the children, a bracket
  brackets_printed : (write : W) (x y : String) (i q n : ℕ) (l : LOC) (ts : Forest) (v u s r : List Piece) (R C : Rows) (p : Cursor) (o : List ℕ) →
      bytes_of v ≡ ascii x ++ bytes_of u → bytes_of s ≡ ascii y ++ bytes_of r → Shown write n s true ts u → After n R →
      At j v n (under (inner i l ts) q n R) (noted (inner i l ts) n C) p o →
      Got (At j r (n + size (inner i l ts)) R C) (brackets_out j.nodes j.count x y write p o)
  unfolding brackets_out say_out inner under noted owned_before size
  brackets_printed write x y i q n l ts v u s r R C p o e f g h a = go p.node a.node
    where
      few : n < 4294967295
      few = omega (arith, a.nodes_ahead.counts, j.few)

      k : sizes ts ≤ j.count
      k = omega (arith, a.nodes_ahead.counts, unders_long ts n (suc n) R)

      go : (w : ℕ) → w ≡ n →
          Got (At j r (n + size (inner i l ts)) R C)
          ((pass_node ⨟ (say_out x ⨟ (each_out j.nodes j.count w write true j.count ⨟ say_out y))) p o)
      go w t =
          let m : suc n + sizes ts ≡ n + suc (sizes ts) = omega arith in
          rw t
          (on (passes j i q 0 l _ a) λ p o a. on (puts j (ascii x) v e a) λ p o a.
          on (each_printed write n few s R C h j.count true ts u (suc n) p o g k (omega arith) a) λ p o a.
          rw (sym m) (puts j (ascii y) s f a))

  -- ---- values

  module _ (d : ℕ) (inside : (v : FieldInitialValue) (q n : ℕ) (r : List Piece) (R C : Rows) (p : Cursor) (o : List ℕ) →
      EachValue (Good j.text) d v → After n R → At j (write_value v r) n (under (value_tree v) q n R) (noted (value_tree v) n C) p o →
      Got (At j r (n + size (value_tree v)) R C) (value_out j.text j.nodes j.count d p o)) where
    more_shown : (n : ℕ) (r : List Piece) (vs : Elements) → EachElements (Good j.text) d vs →
        Shown (value_out j.text j.nodes j.count d) n r false (element_trees vs) (more_elements vs r)
    unfolding element_trees more_elements separated
    more_shown n r nil g = none
    more_shown n r (cons v vs) (econs g gs) =
        some {u = write_value v (more_elements vs r)} (λ m R C p o h e a. inside v n m _ R C p o g e a) (more_shown n r vs gs)

    elements_shown : (n : ℕ) (r : List Piece) (vs : Elements) → EachElements (Good j.text) d vs →
        Shown (value_out j.text j.nodes j.count d) n r true (element_trees vs) (write_elements vs r)
    unfolding element_trees write_elements separated
    elements_shown n r nil g = none
    elements_shown n r (cons v vs) (econs g gs) =
        some {u = write_value v (more_elements vs r)} (λ m R C p o h e a. inside v n m _ R C p o g e a) (more_shown n r vs gs)

    property_printed : (n : ℕ) (l : LOC) (k v : FieldInitialValue) (r : List Piece) → EachValue (Good j.text) d k → EachValue (Good j.text) d v →
        Prints (property_out (value_out j.text j.nodes j.count d)) n (inner 31 l (both (value_tree k) (value_tree v)))
        (write_value k (mark Tok.Colon 58 ∷ space ∷ write_value v r)) r
    unfolding property_out inner both single under unders noted noteds owned_before size sizes say_out ascii bytes_of
    property_printed n l k v r g h m R C p o b e a =
        let w : suc m + size (value_tree k) + size (value_tree v) ≡ m + suc (size (value_tree k) + (size (value_tree v) + 0)) = omega arith in
        on (passes j 31 n 0 l _ a) λ p o a.
        on (inside k m (suc m) _ _ _ p o g (after_forest (single (value_tree v)) m (suc m) (suc m + size (value_tree k)) R (omega arith) e) a) λ p o a.
        on (puts2 j _ (λ r. refl) a) λ p o a.
        rw (sym w) (inside v m (suc m + size (value_tree k)) r R C p o h (after_later m (suc m + size (value_tree k)) (omega arith) e) a)

    more_properties_shown : (n : ℕ) (r : List Piece) (ps : Properties) → EachProperties (Good j.text) d ps →
        Shown (property_out (value_out j.text j.nodes j.count d)) n r false (property_trees ps) (more_properties ps r)
    unfolding property_trees more_properties separated
    more_properties_shown n r pnil g = none
    more_properties_shown n r (pcons l k v ps) (epcons g h gs) =
        some {u = write_value k (mark Tok.Colon 58 ∷ space ∷ write_value v (more_properties ps r))} (property_printed n l k v (more_properties ps r) g h)
        (more_properties_shown n r ps gs)

    properties_shown : (n : ℕ) (r : List Piece) (ps : Properties) → EachProperties (Good j.text) d ps →
        Shown (property_out (value_out j.text j.nodes j.count d)) n r true (property_trees ps) (write_properties ps r)
    unfolding property_trees write_properties separated
    properties_shown n r pnil g = none
    properties_shown n r (pcons l k v ps) (epcons g h gs) =
        some {u = write_value k (mark Tok.Colon 58 ∷ space ∷ write_value v (more_properties ps r))} (property_printed n l k v (more_properties ps r) g h)
        (more_properties_shown n r ps gs)

  pub value_printed : (d : ℕ) (v : FieldInitialValue) (q n : ℕ) (r : List Piece) (R C : Rows) (p : Cursor) (o : List ℕ) →
      EachValue (Good j.text) d v → After n R → At j (write_value v r) n (under (value_tree v) q n R) (noted (value_tree v) n C) p o →
      Got (At j r (n + size (value_tree v)) R C) (value_out j.text j.nodes j.count d p o)
  unfolding value_out value_tree literal_tree leaf inner value_kind write_value under ascii bytes_of
  value_printed zero (ConstValue x) q n r R C p o (eleaf g) b a = literal_printed j x q n r R C p o g a
  value_printed zero (ConstList l vs) q n r R C p o e b a = elim e [ ]
  value_printed zero (ConstMap l ps) q n r R C p o e b a = elim e [ ]
  value_printed (suc d) (ConstValue (lexeme t w l)) q n r R C p o (eleaf g) b a =
      rw (
        kind_is j (value_kind t) q 0 l _ a,
        not_nested (is t Tok.StringLiteral) (is t Tok.IntegerLiteral) (is t Tok.DoubleLiteral) (is t Tok.BooleanLiteral) (is t Tok.HexLiteral),
      )
      (literal_printed j (lexeme t w l) q n r R C p o g a)
  value_printed (suc d) (ConstList l vs) q n r R C p o (eseq g) b a =
      rw (kind_is j 29 q 0 l _ a)
      (brackets_printed _ "[" "]" 29 q n l (element_trees vs) _ (write_elements vs (mark Tok.RightBracket 93 ∷ r)) (mark Tok.RightBracket 93 ∷ r) r
      R C p o refl refl (elements_shown d (λ v q n r R C p o g b a. value_printed d v q n r R C p o g b a) n _ vs g) b a)
  value_printed (suc d) (ConstMap l ps) q n r R C p o (edict g) b a =
      rw (kind_is j 30 q 0 l _ a)
      (brackets_printed _ "{" "}" 30 q n l (property_trees ps) _ (write_properties ps (mark Tok.RightBrace 125 ∷ r)) (mark Tok.RightBrace 125 ∷ r) r
      R C p o refl refl (properties_shown d (λ v q n r R C p o g b a. value_printed d v q n r R C p o g b a) n _ ps g) b a)

  -- ---- annotations

  annotation_printed : (n : ℕ) (x : Annotation) (r : List Piece) → EachAnnotation (Good j.text) x →
      Prints (annotation_out j.text j.nodes) n (annotation_tree x) (write_annotation x r) r
  unfolding annotation_out annotation_tree name_tree leaf inner both single under unders noted noteds owned_before size sizes say_out ascii bytes_of write_annotation place
  annotation_printed n (annotation l (lexeme t w k) v) r (eannotation g h) m R C p o b e a =
      let i : suc (suc m) + size (literal_tree v) ≡ m + suc (1 + (size (literal_tree v) + 0)) = omega arith in
      let f : suc m + 1 ≡ suc (suc m) = omega arith in
      on (passes j 15 n 0 l _ a) λ p o a. on (prints_token j (lexeme t w k) 16 m 0 _ g.holds.stands a) λ p o a.
      on (puts3 j _ (λ r. refl) a) λ p o a. rw (sym i) (literal_printed j v m (suc (suc m)) r R C p o h (rw f at a))

  annotations_shown : (n : ℕ) (r : List Piece) (b : Bool) (xs : List Annotation) → All (EachAnnotation (Good j.text)) xs →
      Shown (annotation_out j.text j.nodes) n r b (each annotation_tree xs bare)
      (cond b (write_each commas write_annotation xs r) (commas xs (write_each commas write_annotation xs r)))
  unfolding each write_each commas separated
  annotations_shown n r true [] g = none
  annotations_shown n r false [] g = none
  annotations_shown n r true (x ∷ xs) (acons g gs) = some (annotation_printed n x _ g) (annotations_shown n r false xs gs)
  annotations_shown n r false (x ∷ xs) (acons g gs) = some (annotation_printed n x _ g) (annotations_shown n r false xs gs)

  pub annotations_printed : (x : Annotations) (q n : ℕ) (r : List Piece) (R C : Rows) (p : Cursor) (o : List ℕ) →
      EachAnnotations (Good j.text) x → q < 4294967295 → q < n → After q R →
      At j (write_annotations x r) n (unders (annotations_tree x bare) q n R) (noteds (annotations_tree x bare) n C) p o →
      Got (At j r (n + sizes (annotations_tree x bare)) R C) (annotations_out j.text j.nodes j.count q p o)
  unfolding annotations_out annotations_tree write_annotations unders noteds sizes inner under ascii bytes_of
  annotations_printed absent q n r R C p o eabsent few h b a = rw (not_parent j q few b a) (got (moved j (n + 0) (omega arith) a))
  annotations_printed (annotations l xs) q n r R C p o (eannotations g) few h b a =
      let e : n + size (inner 14 l (each annotation_tree xs bare)) ≡ n + (size (inner 14 l (each annotation_tree xs bare)) + 0) = omega arith in
      rw (eq-eqb _ q (parent_is j 14 q 0 l _ a), kind_is j 14 q 0 l _ a, sym e)
      (brackets_printed _ " (" ")" 14 q n l (each annotation_tree xs bare) _ (write_each commas write_annotation xs (mark Tok.RightParen 41 ∷ r))
      (mark Tok.RightParen 41 ∷ r) r R C p o refl refl (annotations_shown n _ true xs g) (after_later q n (omega (arith, h)) b) a)
