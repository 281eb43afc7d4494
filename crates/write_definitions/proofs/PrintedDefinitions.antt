-- On the records of definitions, the printer writes them.
--     body_printed         ` {`, the members, `}`, and its annotations behind it
--     definition_printed   a definition
--     document_printed     all of them
use mathlib.Core.Path.{◌≡◌, refl, sym, ◌∙◌}
use mathlib.Core.Bool.{true, false, cond}
use mathlib.Core.List.{List, [], ◌∷◌}
use Rattle.std.specs.Prelude.{Option, Some, None}
use Prim.Native.Nat.{ℕ, zero, suc, ◌+◌, ◌≤◌, ◌<◌}
use native.Mathlib.Omega.{arith}
use lib.Dec.{eqb, ltb}
use lib.ListN.{replicate}
use borrow.Author.Tests.{lt-ltb, le-ltb, eq-eqb, ne_eqb}
use Rattle.token.specs.Regex.{bytes as ascii}
use Rattle.token.specs.declared.Token.TheVariants as Tok
use Rattle.lexer.specs.declared.location.LOC.{LOC}
use Rattle.lexer.specs.Tokens.{Lexeme, lexeme}
use Rattle.ast.specs.Lists.{All, acons}
use Rattle.ast.specs.Ast.{
  Annotations,
  absent,
  annotations,
  Field,
  field,
  EnumMember,
  member,
  Function,
  function,
  Struct,
  Union,
  Exception,
  Definition,
  Include,
  CppInclude,
  Namespace,
  Const,
  Typedef,
  Enum,
  structure,
  Service,
}
use Rattle.ast.specs.Tree.{
  Tree,
  node,
  Forest,
  bare,
  grown,
  leaf,
  inner,
  single,
  both,
  each,
  perhaps,
  name_tree,
  type_tree,
  value_tree,
  annotations_tree,
  field_tree,
  member_tree,
  function_tree,
  structure_kind,
  definition_tree,
}
use Rattle.ast.specs.Records.{no_parent, node_row, size, sizes}
use Rattle.parser.proofs.Each.{
  EachOption,
  esome,
  Kinded,
  EachAnnotations,
  EachField,
  EachMember,
  EachFunction,
  EachDefinition,
  einclude,
  ecpp,
  enamespace,
  econst,
  etypedef,
  eenum,
  estructure,
  eservice,
}
use Rattle.writer.specs.Print.{
  Piece,
  mark,
  bytes_of,
  own,
  keyword,
  space,
  line,
  write_type,
  write_value,
  write_each,
  nothing,
  write_comments,
  write_field,
  write_member,
  write_function,
  write_body,
  structure_keyword,
  write_extends,
  write_definition,
}
use Rattle.cursor.specs.declared.Cursor.{Cursor}
use Rattle.cursor.specs.Onto.{Reached, W, then, ◌⨟◌, kind_at, pass_node, say_out, comments_out}
use Rattle.write_fields.specs.Onto.{annotations_out}
use Rattle.write_definitions.specs.Onto.{one_out, members_from, body_out, extends_out, keyword_out, namespace_out, const_out, line_out, block_out, definition_out, document_from, document_out}
use Rattle.write_fields.proofs.Ahead.{Rows, under, unders, noted, noteds, Got, got, on, Job, At, kind_is, passes, puts1, puts2, puts3}
use Rattle.write_fields.proofs.Follow.{Head, none_left, first, Begins, begins, weaker, After, Not, Late, late_forest, late_later, after_forest, after_definition, not_kind, under_long, unders_long, no_note}
use Rattle.write_fields.proofs.PrintedLeaves.{Good, name_printed}
use Rattle.write_fields.proofs.PrintedComments.{comments_printed}
use Rattle.write_fields.proofs.PrintedValues.{value_printed, annotations_printed, size_some}
use Rattle.write_fields.proofs.PrintedFields.{past, past_perhaps, past_later, typed_name_printed, field_printed}
use Rattle.write_definitions.proofs.PrintedFunctions.{each_sizes, function_printed, member_printed}

-- what follows a definition: nothing, or a definition
abbrev pub Next : Rows → Type 0
Next = Head (λ k q f. (k < 11) × (q ≡ 4294967295))

next_not : (i : ℕ) {R : Rows} → 10 < i → Next R → Not i R
next_not i h n = weaker (λ k q f e. ne_eqb k i (λ z. omega (arith, z, e.0, h))) n

next_after : (m : ℕ) {R : Rows} → Next R → After m R
unfolding no_parent
next_after m none_left = none_left
next_after m (first k q f l _ e) = rw e.1 (after_definition m k f l _)

-- a step, then two behind it
on_on : {G H : Cursor → List ℕ → Type 0} (k m : W) {i : Reached} → Got G i → ((p : Cursor) (o : List ℕ) → G p o → Got H (then (k p o) m)) → Got H (then (then i k) m)
unfolding then
on_on k m (got {p = p} {o = o} g) h = h p o g

-- a row of this kind
abbrev OfKind : ℕ → Rows → Type 0
OfKind i = Begins (λ k q f. k ≡ i)

module _ (j : Job) where
  kind_of_law : {r : List Piece} {n : ℕ} {R C : Rows} {p : Cursor} {o : List ℕ} (i : ℕ) → OfKind i R → At j r n R C p o → eqb (kind_at j.nodes j.count p.node) i ≡ true
  kind_of_law i (begins k q f l _ e) a = rw (kind_is j k q f l _ a) (eq-eqb k i e)

  -- what follows a body
  abbrev close_out : ℕ → W
  close_out owner = annotations_out j.text j.nodes j.count owner ⨟ say_out "\n"

  -- ---- members

  module _ {A : Type 0} (ind i : ℕ) (f : A → Tree) (write : A → List Piece → List Piece) (G : A → Type 0) (N : Rows → Type 0)
      (some-kind : 0 < i) (not-annotations : (l : LOC) (q e : ℕ) (R : Rows) → Not i (node_row 14 q 0 l e ∷ R))
      (step : (x : A) (q n : ℕ) (r : List Piece) (R C : Rows) (p : Cursor) (o : List ℕ) → G x → After n R → N R → Late (n + size (f x)) C →
      At j (write x r) n (under (f x) q n R) (noted (f x) n C) p o →
      Got (At j r (n + size (f x)) R C) (one_out j.text j.nodes j.count j.comments j.total ind i p o))
      (of-kind : (x : A) (q n : ℕ) (R : Rows) → OfKind i (under (f x) q n R)) where
    behind : (x : Annotations) (q n : ℕ) (R : Rows) → Not i R → Not i (unders (annotations_tree x bare) q n R)
    unfolding annotations_tree inner unders under
    behind absent q n R h = h
    behind (annotations l xs) q n R h = not-annotations l q _ _

    members_from_law : (k : ℕ) (xs : List A) (x : Annotations) (q n : ℕ) (r : List Piece) (R C : Rows) (p : Cursor) (o : List ℕ) →
        sizes (each f xs bare) ≤ k → All G xs → q < n → After q R → Not i R → ((ys : List A) (m : ℕ) → N (unders (each f ys (annotations_tree x bare)) q m R)) →
        Late (n + sizes (each f xs (annotations_tree x bare))) C →
        At j (write_each nothing write xs r) n (unders (each f xs (annotations_tree x bare)) q n R) (noteds (each f xs (annotations_tree x bare)) n C) p o →
        let m = n + sizes (each f xs bare) in
        Got (At j r m (unders (annotations_tree x bare) q m R) (noteds (annotations_tree x bare) m C))
        (members_from j.text j.nodes j.count j.comments j.total ind i k p o)
    unfolding members_from write_each nothing each unders noteds sizes
    members_from_law zero [] x q n r R C p o h gs l after stop ok late a = let e : n + 0 ≡ n = omega arith in rw e (got a)
    members_from_law (suc k) [] x q n r R C p o h gs l after stop ok late a =
        let e : n + 0 ≡ n = omega arith in
        rw (e, not_kind j i some-kind (behind x q n R stop) a) (got a)
    members_from_law zero (y ∷ ys) x q n r R C p o h gs l after stop ok late a = absurd (omega (arith, h, size_some j (f y)))
    members_from_law (suc k) (y ∷ ys) x q n r R C p o h (acons g gs) l after stop ok late a =
        let us = each f ys (annotations_tree x bare) in
        let d = size (f y) in
        let e : n + d + sizes (each f ys bare) ≡ n + (d + sizes (each f ys bare)) = omega arith in
        let late' : Late (n + d + sizes us) C = late_later (n + d + sizes us) (n + (d + sizes us)) (omega arith) late in
        rw (kind_of_law i (of-kind y q n _) a)
        (on (step y q n _ _ _ p o g (after_forest us q n (n + d) R l after) (ok ys (n + d)) (late_forest us (n + d) C late') a) λ p o a.
        rw (sym e) (members_from_law k ys x q (n + d) r R C p o (omega (arith, h, size_some j (f y))) gs (omega (arith, l)) after stop ok late' a))

    body_printed : (xs : List A) (x : Annotations) (q n : ℕ) (r : List Piece) (R C : Rows) (p : Cursor) (o : List ℕ) →
        All G xs → EachAnnotations (Good j.text) x → q < 4294967295 → q < n → After q R → Not i R →
        ((ys : List A) (m : ℕ) → N (unders (each f ys (annotations_tree x bare)) q m R)) → Late (n + sizes (each f xs (annotations_tree x bare))) C →
        At j (write_body write xs x r) n (unders (each f xs (annotations_tree x bare)) q n R) (noteds (each f xs (annotations_tree x bare)) n C) p o →
        Got (At j r (n + sizes (each f xs (annotations_tree x bare))) R C) (then (body_out j.text j.nodes j.count j.comments j.total ind i p o) (close_out q))
    unfolding body_out write_body say_out ascii bytes_of
    body_printed xs x q n r R C p o gs gx few l after stop ok late a =
        let es = each_sizes f xs (annotations_tree x bare) in
        let m = n + sizes (each f xs bare) in
        let e : m + sizes (annotations_tree x bare) ≡ n + sizes (each f xs (annotations_tree x bare)) = omega (arith, es) in
        on_on _ _ (puts3 j _ (λ r. refl) a) λ p o a.
        on_on _ _ (members_from_law j.count xs x q n _ R C p o (omega (arith, a.nodes_ahead.counts, unders_long (each f xs (annotations_tree x bare)) q n R, es)) gs l after stop ok late a) λ p o a.
        on (puts1 j _ (λ r. refl) a) λ p o a.
        on (annotations_printed j x q m _ R C p o gx few (omega (arith, l)) after a) λ p o a.
        rw (sym e) (puts1 j _ (λ r. refl) a)

  -- fields, enum members, functions

  field_kind : (x : Field) (q n : ℕ) (R : Rows) → OfKind 12 (under (field_tree 0 x) q n R)
  unfolding field_tree under
  field_kind (field l c i y t m v x) q n R = begins 12 q _ l _ refl

  member_kind : (x : EnumMember) (q n : ℕ) (R : Rows) → OfKind 13 (under (member_tree x) q n R)
  unfolding member_tree under
  member_kind (member l c m v x) q n R = begins 13 q 0 l _ refl

  function_kind : (x : Function) (q n : ℕ) (R : Rows) → OfKind 11 (under (function_tree x) q n R)
  unfolding function_tree under
  function_kind (function l c w t m ps th x) q n R = begins 11 q _ l _ refl

  -- the first row behind a name or a function is neither a name nor a field
  functions_not : (i : ℕ) (fs : List Function) (x : Annotations) (q n : ℕ) (R : Rows) → eqb 11 i ≡ false → eqb 14 i ≡ false → Not i R →
      Not i (unders (each function_tree fs (annotations_tree x bare)) q n R)
  unfolding each function_tree annotations_tree inner unders under
  functions_not i [] absent q n R e f h = h
  functions_not i [] (annotations l xs) q n R e f h = first 14 q 0 l _ f
  functions_not i (function l c w t m ps th y ∷ fs) x q n R e f h = first 11 q _ l _ e

  module _ (ind : ℕ) (x : Annotations) (q n : ℕ) (r : List Piece) (R C : Rows) (p : Cursor) (o : List ℕ) (gx : EachAnnotations (Good j.text) x) (few : q < 4294967295) (l : q < n) (next : Next R) where
    fields_printed : (xs : List Field) → All (EachField (Good j.text)) xs → Late (n + sizes (each (field_tree 0) xs (annotations_tree x bare))) C →
        At j (write_body (write_field (replicate ind 32)) xs x r) n (unders (each (field_tree 0) xs (annotations_tree x bare)) q n R)
        (noteds (each (field_tree 0) xs (annotations_tree x bare)) n C) p o →
        Got (At j r (n + sizes (each (field_tree 0) xs (annotations_tree x bare))) R C) (then (body_out j.text j.nodes j.count j.comments j.total ind 12 p o) (close_out q))
    unfolding one_out
    fields_printed xs gs late a =
        body_printed ind 12 (field_tree 0) (write_field (replicate ind 32)) (EachField (Good j.text)) (λ R. Unit {0}) (omega arith) (λ l q e R. first 14 q 0 l e refl)
        (λ x q n r R C p o g b u late a. field_printed j ind x q n r R C p o g b late a) field_kind xs x q n r R C p o gs gx few l (next_after q next)
        (next_not 12 (omega arith) next) (λ ys m. tt) late a

    enum_members_printed : (xs : List EnumMember) → All (EachMember (Good j.text)) xs → Late (n + sizes (each member_tree xs (annotations_tree x bare))) C →
        At j (write_body (write_member (replicate ind 32)) xs x r) n (unders (each member_tree xs (annotations_tree x bare)) q n R)
        (noteds (each member_tree xs (annotations_tree x bare)) n C) p o →
        Got (At j r (n + sizes (each member_tree xs (annotations_tree x bare))) R C) (then (body_out j.text j.nodes j.count j.comments j.total ind 13 p o) (close_out q))
    unfolding one_out
    enum_members_printed xs gs late a =
        body_printed ind 13 member_tree (write_member (replicate ind 32)) (EachMember (Good j.text)) (λ R. Unit {0}) (omega arith) (λ l q e R. first 14 q 0 l e refl)
        (λ x q n r R C p o g b u late a. member_printed j ind x q n r R C p o g b late a) member_kind xs x q n r R C p o gs gx few l (next_after q next)
        (next_not 13 (omega arith) next) (λ ys m. tt) late a

    functions_printed : (xs : List Function) → All (EachFunction (Good j.text)) xs → Late (n + sizes (each function_tree xs (annotations_tree x bare))) C →
        At j (write_body (write_function (replicate ind 32)) xs x r) n (unders (each function_tree xs (annotations_tree x bare)) q n R)
        (noteds (each function_tree xs (annotations_tree x bare)) n C) p o →
        Got (At j r (n + sizes (each function_tree xs (annotations_tree x bare))) R C) (then (body_out j.text j.nodes j.count j.comments j.total ind 11 p o) (close_out q))
    unfolding one_out
    functions_printed xs gs late a =
        body_printed ind 11 function_tree (write_function (replicate ind 32)) (EachFunction (Good j.text)) (Not 12) (omega arith) (λ l q e R. first 14 q 0 l e refl)
        (λ x q n r R C p o g b u late a. function_printed j ind x q n r R C p o g b u late a) function_kind xs x q n r R C p o gs gx few l (next_after q next)
        (next_not 11 (omega arith) next) (λ ys m. functions_not 12 ys x q m R refl refl (next_not 12 (omega arith) next)) late a

  extends_printed : (y : Option Lexeme) (ts : Forest) (q n : ℕ) (r : List Piece) (R C : Rows) (p : Cursor) (o : List ℕ) → EachOption (Kinded (Good j.text) (Tok.Identifier ∷ [])) y →
      ((m : ℕ) → Not 16 (unders ts q m R)) → At j (write_extends y r) n (unders (perhaps name_tree y ts) q n R) (noteds (perhaps name_tree y ts) n C) p o →
      let k = past name_tree y n in Got (At j r k (unders ts q k R) (noteds ts k C)) (extends_out j.text j.nodes j.count p o)
  unfolding extends_out write_extends perhaps past keyword unders under noteds name_tree leaf say_out ascii bytes_of
  extends_printed None ts q n r R C p o g h a = rw (not_kind j 16 (omega arith) (h n) a) (got a)
  extends_printed (Some (lexeme t w l)) ts q n r R C p o (esome g) h a =
      rw (kind_is j 16 q 0 l _ a) (on (puts3 j _ (λ r. refl) a) λ p o a. name_printed j (lexeme t w l) q n r _ _ p o g.holds a)

  -- ---- a definition

  -- comments, keyword, and what is written behind it
  start : {H : Cursor → List ℕ → Type 0} (m : W) (k q n : ℕ) (l : LOC) (c : List Lexeme) (ts : Forest) (u v : List Piece) (R C : Rows) (p : Cursor) (o : List ℕ) →
      All (Good j.text) c → Late (n + suc (sizes ts)) C →
      ((R C : Rows) (p : Cursor) (o : List ℕ) → At j u (suc n) R C p o → Got (At j v (suc n) R C) (keyword_out k p o)) →
      At j (write_comments [] c u) n (under (node k 0 l [] c ts) q n R) (noted (node k 0 l [] c ts) n C) p o →
      ((p : Cursor) (o : List ℕ) → At j v (suc n) (unders ts n (suc n) R) (noteds ts (suc n) C) p o → Got H (m p o)) →
      Got H (then (comments_out j.text j.comments j.total n 0 p o) (pass_node ⨟ (keyword_out k ⨟ m)))
  unfolding under noted
  start m k q n l c ts u v R C p o gc late word a rest =
      on (comments_printed j 0 n n c u _ _ p o (omega (arith, a.nodes_ahead.counts, j.few)) gc
      (late_forest ts (suc n) C (late_later (suc n + sizes ts) (n + suc (sizes ts)) (omega arith) late)) a) λ p o a.
      on (passes j k q 0 l _ a) λ p o a. on (word _ _ p o a) λ p o a. rest p o a

  -- the number of its kind
  unfoldable kind_of : Definition → ℕ
  kind_of (Include l c m) = 1
  kind_of (CppInclude l c m) = 2
  kind_of (Namespace l c s m) = 3
  kind_of (Const l c t m v) = 4
  kind_of (Typedef l c t m) = 5
  kind_of (Enum l c m xs x) = 6
  kind_of (structure s l c m xs x) = structure_kind s
  kind_of (Service l c m y xs x) = 10

  module _ (ind : ℕ) where
    definition_by_law : (k owner : ℕ) (d : Definition) (q n : ℕ) (r : List Piece) (R C : Rows) (p : Cursor) (o : List ℕ) → k ≡ kind_of d → owner ≡ n →
        EachDefinition (Good j.text) d → Next R → Late (n + size (definition_tree d)) C → n < 4294967295 →
        At j (write_definition (replicate ind 32) d r) n (under (definition_tree d) q n R) (noted (definition_tree d) n C) p o →
        Got (At j r (n + size (definition_tree d)) R C)
        (then (comments_out j.text j.comments j.total owner 0 p o)
        (pass_node
        ⨟ (keyword_out k ⨟ λ q o. cond (ltb k 6) (line_out j.text j.nodes j.count k q o)
        (then (block_out j.text j.nodes j.count j.comments j.total ind k q o) (close_out owner)))))
    unfolding kind_of structure_kind definition_tree write_definition structure_keyword keyword keyword_out line_out block_out namespace_out const_out size sizes single both unders noteds say_out ascii bytes_of
    definition_by_law k owner (Include l c m) q n r R C p o ek eo (einclude gc gm) next late few a =
        let e : suc n + size (name_tree m) ≡ n + suc (size (name_tree m) + 0) = omega arith in
        rw (ek, eo)
        (start _ 1 q n l c (single (name_tree m)) _ (own m ∷ line ∷ r) R C p o gc late (λ R C p o a. puts2 j _ (λ r. refl) a) a λ p o a.
        on (name_printed j m n (suc n) _ _ _ p o gm.holds a) λ p o a. rw (sym e) (puts1 j _ (λ r. refl) a))
    definition_by_law k owner (CppInclude l c m) q n r R C p o ek eo (ecpp gc gm) next late few a =
        let e : suc n + size (name_tree m) ≡ n + suc (size (name_tree m) + 0) = omega arith in
        rw (ek, eo)
        (start _ 2 q n l c (single (name_tree m)) _ (own m ∷ line ∷ r) R C p o gc late (λ R C p o a. puts2 j _ (λ r. refl) a) a λ p o a.
        on (name_printed j m n (suc n) _ _ _ p o gm.holds a) λ p o a. rw (sym e) (puts1 j _ (λ r. refl) a))
    definition_by_law k owner (Namespace l c s m) q n r R C p o ek eo (enamespace gc gs gm) next late few a =
        let e : suc n + size (name_tree s) + size (name_tree m) ≡ n + suc (size (name_tree s) + (size (name_tree m) + 0)) = omega arith in
        rw (ek, eo)
        (start _ 3 q n l c (both (name_tree s) (name_tree m)) _ (own s ∷ space ∷ own m ∷ line ∷ r) R C p o gc late (λ R C p o a. puts2 j _ (λ r. refl) a) a λ p o a.
        on (name_printed j s n (suc n) _ _ _ p o gs.holds a) λ p o a. on (puts1 j _ (λ r. refl) a) λ p o a.
        on (name_printed j m n (suc n + size (name_tree s)) _ _ _ p o gm.holds a) λ p o a. rw (sym e) (puts1 j _ (λ r. refl) a))
    definition_by_law k owner (Const l c t m v) q n r R C p o ek eo (econst gc gt gm gv) next late few a =
        let i = suc n + size (type_tree t) + size (name_tree m) in
        let e : i + size (value_tree v) ≡ n + suc (size (type_tree t) + (size (name_tree m) + (size (value_tree v) + 0))) = omega arith in
        rw (ek, eo)
        (start _ 4 q n l c (grown (type_tree t) (both (name_tree m) (value_tree v))) _
        (write_type t (space ∷ own m ∷ space ∷ mark Tok.Equals 61 ∷ space ∷ write_value v (line ∷ r))) R C p o gc late (λ R C p o a. puts2 j _ (λ r. refl) a) a λ p o a.
        on (typed_name_printed j t m (single (value_tree v)) n (suc n) _ R C p o gt gm.holds a) λ p o a. on (puts3 j _ (λ r. refl) a) λ p o a.
        on (value_printed j 32 v n i _ R C p o gv (next_after i next) a) λ p o a. rw (sym e) (puts1 j _ (λ r. refl) a))
    definition_by_law k owner (Typedef l c t m) q n r R C p o ek eo (etypedef gc gt gm) next late few a =
        let e : suc n + size (type_tree t) + size (name_tree m) ≡ n + suc (size (type_tree t) + (size (name_tree m) + 0)) = omega arith in
        rw (ek, eo)
        (start _ 5 q n l c (both (type_tree t) (name_tree m)) _ (write_type t (space ∷ own m ∷ line ∷ r)) R C p o gc late (λ R C p o a. puts2 j _ (λ r. refl) a) a λ p o a.
        on (typed_name_printed j t m bare n (suc n) _ R C p o gt gm.holds a) λ p o a. rw (sym e) (puts1 j _ (λ r. refl) a))
    definition_by_law k owner (Enum l c m xs x) q n r R C p o ek eo (eenum gc gm gs gx) next late few a =
        let us = each member_tree xs (annotations_tree x bare) in
        let i = suc n + size (name_tree m) in
        let e : i + sizes us ≡ n + suc (size (name_tree m) + sizes us) = omega arith in
        rw (ek, eo)
        (start _ 6 q n l c (grown (name_tree m) us) _ (own m ∷ write_body (write_member (replicate ind 32)) xs x r) R C p o gc late (λ R C p o a. puts2 j _ (λ r. refl) a) a λ p o a.
        on_on _ _ (name_printed j m n (suc n) _ _ _ p o gm.holds a) λ p o a.
        rw (sym e) (enum_members_printed ind x n i r R C p o gx few (omega arith) next xs gs (late_later (i + sizes us) (n + suc (size (name_tree m) + sizes us)) (omega arith) late) a))
    definition_by_law k owner (structure Struct l c m xs x) q n r R C p o ek eo (estructure gc gm gs gx) next late few a =
        let us = each (field_tree 0) xs (annotations_tree x bare) in
        let i = suc n + size (name_tree m) in
        let e : i + sizes us ≡ n + suc (size (name_tree m) + sizes us) = omega arith in
        rw (ek, eo)
        (start _ 7 q n l c (grown (name_tree m) us) _ (own m ∷ write_body (write_field (replicate ind 32)) xs x r) R C p o gc late (λ R C p o a. puts2 j _ (λ r. refl) a) a λ p o a.
        on_on _ _ (name_printed j m n (suc n) _ _ _ p o gm.holds a) λ p o a.
        rw (sym e) (fields_printed ind x n i r R C p o gx few (omega arith) next xs gs (late_later (i + sizes us) (n + suc (size (name_tree m) + sizes us)) (omega arith) late) a))
    definition_by_law k owner (structure Union l c m xs x) q n r R C p o ek eo (estructure gc gm gs gx) next late few a =
        let us = each (field_tree 0) xs (annotations_tree x bare) in
        let i = suc n + size (name_tree m) in
        let e : i + sizes us ≡ n + suc (size (name_tree m) + sizes us) = omega arith in
        rw (ek, eo)
        (start _ 8 q n l c (grown (name_tree m) us) _ (own m ∷ write_body (write_field (replicate ind 32)) xs x r) R C p o gc late (λ R C p o a. puts2 j _ (λ r. refl) a) a λ p o a.
        on_on _ _ (name_printed j m n (suc n) _ _ _ p o gm.holds a) λ p o a.
        rw (sym e) (fields_printed ind x n i r R C p o gx few (omega arith) next xs gs (late_later (i + sizes us) (n + suc (size (name_tree m) + sizes us)) (omega arith) late) a))
    definition_by_law k owner (structure Exception l c m xs x) q n r R C p o ek eo (estructure gc gm gs gx) next late few a =
        let us = each (field_tree 0) xs (annotations_tree x bare) in
        let i = suc n + size (name_tree m) in
        let e : i + sizes us ≡ n + suc (size (name_tree m) + sizes us) = omega arith in
        rw (ek, eo)
        (start _ 9 q n l c (grown (name_tree m) us) _ (own m ∷ write_body (write_field (replicate ind 32)) xs x r) R C p o gc late (λ R C p o a. puts2 j _ (λ r. refl) a) a λ p o a.
        on_on _ _ (name_printed j m n (suc n) _ _ _ p o gm.holds a) λ p o a.
        rw (sym e) (fields_printed ind x n i r R C p o gx few (omega arith) next xs gs (late_later (i + sizes us) (n + suc (size (name_tree m) + sizes us)) (omega arith) late) a))
    definition_by_law k owner (Service l c m y xs x) q n r R C p o ek eo (eservice gc gm gy gs gx) next late few a =
        let us = each function_tree xs (annotations_tree x bare) in
        let i = suc n + size (name_tree m) in
        let i₁ = past name_tree y i in
        let all = n + suc (size (name_tree m) + sizes (perhaps name_tree y us)) in
        let later = past_later name_tree y i in
        let e : i₁ + sizes us ≡ all = omega (arith, past_perhaps name_tree y us i) in
        rw (ek, eo)
        (start _ 10 q n l c (grown (name_tree m) (perhaps name_tree y us)) _ (own m ∷ write_extends y (write_body (write_function (replicate ind 32)) xs x r)) R C p o gc late
        (λ R C p o a. puts2 j _ (λ r. refl) a) a λ p o a.
        on_on _ _ (name_printed j m n (suc n) _ _ _ p o gm.holds a) λ p o a.
        on_on _ _ (extends_printed y us n i _ R C p o gy (λ h. functions_not 16 xs x n h R refl refl (next_not 16 (omega arith) next)) a) λ p o a.
        rw (sym e) (functions_printed ind x n i₁ r R C p o gx few (omega (arith, later)) next xs gs (late_later (i₁ + sizes us) all (omega (arith, e)) late) a))

    kind_first : (d : Definition) (q n : ℕ) (R : Rows) → Begins (λ k p f. (k ≡ kind_of d) × (p ≡ q)) (under (definition_tree d) q n R)
    unfolding kind_of definition_tree under
    kind_first (Include l c m) q n R = begins 1 q 0 l _ (refl, refl)
    kind_first (CppInclude l c m) q n R = begins 2 q 0 l _ (refl, refl)
    kind_first (Namespace l c s m) q n R = begins 3 q 0 l _ (refl, refl)
    kind_first (Const l c t m v) q n R = begins 4 q 0 l _ (refl, refl)
    kind_first (Typedef l c t m) q n R = begins 5 q 0 l _ (refl, refl)
    kind_first (Enum l c m xs x) q n R = begins 6 q 0 l _ (refl, refl)
    kind_first (structure s l c m xs x) q n R = begins (structure_kind s) q 0 l _ (refl, refl)
    kind_first (Service l c m y xs x) q n R = begins 10 q 0 l _ (refl, refl)

    kind_told : {r : List Piece} {n : ℕ} {R C : Rows} {p : Cursor} {o : List ℕ} (d : Definition) (q : ℕ) → Begins (λ k p f. (k ≡ kind_of d) × (p ≡ q)) R → At j r n R C p o →
        kind_at j.nodes j.count p.node ≡ kind_of d
    kind_told d q (begins k p f l _ e) a = kind_is j k p f l _ a ∙ e.0

    definition_printed : (d : Definition) (q n : ℕ) (r : List Piece) (R C : Rows) (p : Cursor) (o : List ℕ) → EachDefinition (Good j.text) d → Next R →
        Late (n + size (definition_tree d)) C → n < 4294967295 → At j (write_definition (replicate ind 32) d r) n (under (definition_tree d) q n R) (noted (definition_tree d) n C) p o →
        Got (At j r (n + size (definition_tree d)) R C) (definition_out j.text j.nodes j.count j.comments j.total ind p o)
    unfolding definition_out
    definition_printed d q n r R C p o g next late few a =
        definition_by_law (kind_at j.nodes j.count p.node) p.node d q n r R C p o (kind_told d q (kind_first d q n R) a) a.node g next late few a

    -- ---- all definitions

    small_kind : (d : Definition) → kind_of d < 11
    unfolding kind_of structure_kind
    small_kind (Include l c m) = omega arith
    small_kind (CppInclude l c m) = omega arith
    small_kind (Namespace l c s m) = omega arith
    small_kind (Const l c t m v) = omega arith
    small_kind (Typedef l c t m) = omega arith
    small_kind (Enum l c m xs x) = omega arith
    small_kind (structure Struct l c m xs x) = omega arith
    small_kind (structure Union l c m xs x) = omega arith
    small_kind (structure Exception l c m xs x) = omega arith
    small_kind (Service l c m y xs x) = omega arith

    next_is : (ds : List Definition) (n : ℕ) → Next (unders (each definition_tree ds bare) 4294967295 n [])
    unfolding each unders
    next_is [] n = none_left
    next_is (d ∷ ds) n = go (kind_first d 4294967295 n (unders (each definition_tree ds bare) 4294967295 (n + size (definition_tree d)) []))
      where
        go : {R : Rows} → Begins (λ k p f. (k ≡ kind_of d) × (p ≡ 4294967295)) R → Next R
        go (begins k q f l _ e) = first k q f l _ (omega (arith, e.0, small_kind d), e.1)

    document_from_law : (k : ℕ) (ds : List Definition) (n : ℕ) (p : Cursor) (o : List ℕ) → sizes (each definition_tree ds bare) ≤ k → All (EachDefinition (Good j.text)) ds →
        At j (write_each nothing (write_definition (replicate ind 32)) ds []) n (unders (each definition_tree ds bare) 4294967295 n []) (noteds (each definition_tree ds bare) n []) p o →
        Got (At j [] (n + sizes (each definition_tree ds bare)) [] []) (document_from j.text j.nodes j.count j.comments j.total ind k p o)
    unfolding document_from write_each nothing each unders noteds sizes
    document_from_law zero [] n p o h gs a = let e : n + 0 ≡ n = omega arith in rw e (got a)
    document_from_law (suc k) [] n p o h gs a =
        let e : n + 0 ≡ n = omega arith in
        rw (e, le-ltb p.node j.count (omega (arith, a.node, a.nodes_ahead.counts))) (got a)
    document_from_law zero (d ∷ ds) n p o h gs a = absurd (omega (arith, h, size_some j (definition_tree d)))
    document_from_law (suc k) (d ∷ ds) n p o h (acons g gs) a =
        let m = n + size (definition_tree d) in
        let e : m + sizes (each definition_tree ds bare) ≡ n + (size (definition_tree d) + sizes (each definition_tree ds bare)) = omega arith in
        let long : n < j.count = omega (arith, a.nodes_ahead.counts, under_long (definition_tree d) 4294967295 n (unders (each definition_tree ds bare) 4294967295 m []), size_some j (definition_tree d)) in
        rw (lt-ltb p.node j.count (omega (arith, a.node, long)))
        (on (definition_printed d 4294967295 n _ _ _ p o g (next_is ds m) (late_forest (each definition_tree ds bare) m [] no_note) (omega (arith, long, j.few)) a) λ p o a.
        rw (sym e) (document_from_law k ds m p o (omega (arith, h, size_some j (definition_tree d))) gs a))

    pub document_printed : (ds : List Definition) (p : Cursor) (o : List ℕ) → All (EachDefinition (Good j.text)) ds →
        At j (write_each nothing (write_definition (replicate ind 32)) ds []) 0 (unders (each definition_tree ds bare) 4294967295 0 []) (noteds (each definition_tree ds bare) 0 []) p o →
        Got (At j [] (sizes (each definition_tree ds bare)) [] []) (document_out j.text j.nodes j.count j.comments j.total ind p o)
    unfolding document_out
    document_printed ds p o gs a =
        let e : 0 + sizes (each definition_tree ds bare) ≡ sizes (each definition_tree ds bare) = omega arith in
        rw (sym e) (document_from_law j.count ds 0 p o (omega (arith, a.nodes_ahead.counts, unders_long (each definition_tree ds bare) 4294967295 0 [])) gs a)
