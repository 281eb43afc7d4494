-- On the records of a function or an enum member, the printer writes it.
--     params_printed, throws_printed   parameters; thrown fields
--     function_printed, member_printed
use mathlib.Core.Path.{◌≡◌, refl, sym, ap}
use mathlib.Core.Logic.{◌⊎◌, inl, inr}
use mathlib.Core.Bool.{Bool, true, false, cond}
use mathlib.Core.List.{List, [], ◌∷◌}
use Rattle.std.specs.Prelude.{Option, Some, None}
use Prim.Native.Nat.{ℕ, zero, suc, ◌+◌, ◌≤◌, ◌<◌}
use native.Mathlib.Omega.{arith}
use lib.Dec.{eqb}
use lib.ListN.{replicate}
use Rattle.token.specs.Regex.{bytes as ascii}
use Rattle.lexer.specs.declared.location.LOC.{LOC}
use Rattle.lexer.specs.Tokens.{Lexeme}
use Rattle.ast.specs.Lists.{All, acons}
use Rattle.ast.specs.Ast.{
  FieldType,
  Annotations,
  absent,
  annotations,
  Required,
  default,
  required,
  optional,
  Field,
  field,
  EnumMember,
  member,
  Function,
  function,
}
use Rattle.ast.specs.Tree.{
  Tree,
  Forest,
  bare,
  grown,
  inner,
  each,
  perhaps,
  name_tree,
  type_tree,
  literal_tree,
  annotations_tree,
  required_flag,
  field_tree,
  member_tree,
  oneway_flag,
  throws_flag,
  throws_trees,
  function_tree,
}
use Rattle.ast.specs.Column as Col
use Rattle.ast.specs.Records.{node_width, size, sizes}
use Rattle.parser.proofs.Each.{EachOption, esome, EachField, EachMember, emember, EachFunction, efunction}
use Rattle.writer.specs.Print.{
  Piece,
  bytes_of,
  keyword,
  space,
  comma,
  write_each,
  commas,
  write_param,
  write_member,
  write_throws,
  write_oneway,
  write_function,
}
use Rattle.cursor.specs.declared.Cursor.{Cursor}
use Rattle.cursor.specs.Onto.{Reached, then, ◌⨟◌, kind_at, number_at, pass_node, say_out, spaces_out, comments_out, token_out}
use Rattle.write_fields.specs.Onto.{annotations_out, assigned_out, typed_name_out, is_of, params_from, params_out}
use Rattle.write_definitions.specs.Onto.{throws_out, oneway_out, function_tail_out, function_out, member_out}
use Rattle.write_fields.proofs.Ahead.{Rows, under, unders, noted, noteds, Got, got, on, Job, At, kind_is, flags_are, no_kind, passes, puts1, puts2, puts4}
use Rattle.write_fields.proofs.Follow.{Head, none_left, first, weaker, After, Not, Late, late_forest, late_later, after_forest, unders_long}
use Rattle.write_fields.proofs.PrintedLeaves.{Good, separated, comma_printed, name_printed}
use Rattle.write_fields.proofs.PrintedComments.{spaces_printed, comments_printed}
use Rattle.write_fields.proofs.PrintedValues.{annotations_printed, size_some}
use Rattle.write_fields.proofs.PrintedFields.{past, past_perhaps, past_later, typed_name_printed, initializer_printed, param_printed}

-- ---- rows of several

-- those of a list, before others
pub each_sizes : {A : Type 0} (f : A → Tree) (xs : List A) (ts : Forest) → sizes (each f xs ts) ≡ sizes (each f xs bare) + sizes ts
unfolding each sizes
each_sizes f [] ts = omega arith
each_sizes f (x ∷ xs) ts = omega (arith, each_sizes f xs ts)

throws_sizes : (th : Option (List Field)) (ts : Forest) → sizes (throws_trees th ts) ≡ sizes (throws_trees th bare) + sizes ts
unfolding throws_trees sizes
throws_sizes None ts = omega arith
throws_sizes (Some fs) ts = each_sizes (field_tree 16) fs ts

-- ---- what is a parameter, and what is thrown

param_of : (y : Required) → is_of false (required_flag y + 0) ≡ true
unfolding is_of required_flag
param_of default = refl
param_of required = refl
param_of optional = refl

thrown_of : (y : Required) → is_of true (required_flag y + 16) ≡ true
unfolding is_of required_flag
thrown_of default = refl
thrown_of required = refl
thrown_of optional = refl

thrown_not : (y : Required) → is_of false (required_flag y + 16) ≡ false
unfolding is_of required_flag
thrown_not default = refl
thrown_not required = refl
thrown_not optional = refl

-- the first row left is no field of this sort
abbrev Stops : Bool → Rows → Type 0
Stops thrown = Head (λ k q f. (eqb k 12 ≡ false) ⊎ (is_of thrown f ≡ false))

stops_behind : (thrown : Bool) (x : Annotations) (q m : ℕ) (R : Rows) → Not 12 R → Stops thrown (unders (annotations_tree x bare) q m R)
unfolding annotations_tree inner unders under
stops_behind thrown absent q m R h = weaker (λ k q f e. inl e) h
stops_behind thrown (annotations l xs) q m R h = first 14 q 0 l _ (inl refl)

stops_throws : (th : Option (List Field)) (x : Annotations) (q m : ℕ) (R : Rows) → Not 12 R → Stops false (unders (throws_trees th (annotations_tree x bare)) q m R)
unfolding throws_trees each field_tree unders under
stops_throws None x q m R h = stops_behind false x q m R h
stops_throws (Some []) x q m R h = stops_behind false x q m R h
stops_throws (Some (field l c i y t n v a ∷ fs)) x q m R h = first 12 q (required_flag y + 16) l _ (inr (thrown_not y))

-- ---- the list of them

-- their pieces, `, ` before all but the first
unfoldable listed : Bool → List Field → List Piece → List Piece
listed b [] r = r
listed b (x ∷ xs) r = separated b (write_param x (listed false xs r))

listed_more : (xs : List Field) (r : List Piece) → commas xs (write_each commas write_param xs r) ≡ listed false xs r
unfolding listed separated commas write_each
listed_more [] r = refl
listed_more (x ∷ xs) r = ap (λ (u : List Piece). comma ∷ space ∷ write_param x u) (listed_more xs r)

listed_is : (xs : List Field) (r : List Piece) → write_each commas write_param xs r ≡ listed true xs r
unfolding listed separated write_each
listed_is [] r = refl
listed_is (x ∷ xs) r = ap (write_param x) (listed_more xs r)

either : (b : Bool) (A : Reached) → cond b A A ≡ A
either true A = refl
either false A = refl

module _ (j : Job) where
  stop_here : (thrown : Bool) (A B : Reached) {r : List Piece} {n : ℕ} {R C : Rows} {p : Cursor} {o : List ℕ} → Stops thrown R → At j r n R C p o →
      cond (eqb (kind_at j.nodes j.count p.node) 12) (cond (is_of thrown (number_at node_width j.nodes p.node Col.Flags)) A B) B ≡ B
  stop_here thrown A B none_left a = rw (no_kind j a) refl
  stop_here thrown A B (first k q f l _ (inl e)) a = rw (kind_is j k q f l _ a, e)
  stop_here thrown A B {p = p} (first k q f l _ (inr e)) a = rw (flags_are j k q f l _ a, e) (either (eqb (kind_at j.nodes j.count p.node) 12) B)

  module _ (thrown : Bool) (g : ℕ) (of : (y : Required) → is_of thrown (required_flag y + g) ≡ true) where
    go_on : (A B : Reached) (x : Field) (q n : ℕ) (r : List Piece) (R C : Rows) (p : Cursor) (o : List ℕ) → At j r n (under (field_tree g x) q n R) C p o →
        cond (eqb (kind_at j.nodes j.count p.node) 12) (cond (is_of thrown (number_at node_width j.nodes p.node Col.Flags)) A B) B ≡ A
    unfolding field_tree under
    go_on A B (field l c i y t m v x) q n r R C p o a = rw (kind_is j 12 q (required_flag y + g) l _ a, flags_are j 12 q (required_flag y + g) l _ a, of y)

    params_from_law : (k : ℕ) (b : Bool) (xs : List Field) (ts : Forest) (q n : ℕ) (r : List Piece) (R C : Rows) (p : Cursor) (o : List ℕ) →
        sizes (each (field_tree g) xs bare) ≤ k → All (EachField (Good j.text)) xs → q < n → After q R → ((m : ℕ) → Stops thrown (unders ts q m R)) →
        Late (n + sizes (each (field_tree g) xs ts)) C →
        At j (listed b xs r) n (unders (each (field_tree g) xs ts) q n R) (noteds (each (field_tree g) xs ts) n C) p o →
        let m = n + sizes (each (field_tree g) xs bare) in
        Got (At j r m (unders ts q m R) (noteds ts m C)) (params_from j.text j.nodes j.count j.comments j.total thrown b k p o)
    unfolding params_from listed each unders noteds sizes
    params_from_law zero b [] ts q n r R C p o h gs i after stop late a = let e : n + 0 ≡ n = omega arith in rw e (got a)
    params_from_law (suc k) b [] ts q n r R C p o h gs i after stop late a =
        let e : n + 0 ≡ n = omega arith in
        rw (e, stop_here thrown _ _ (stop n) a) (got a)
    params_from_law zero b (x ∷ xs) ts q n r R C p o h gs i after stop late a = absurd (omega (arith, h, size_some j (field_tree g x)))
    params_from_law (suc k) b (x ∷ xs) ts q n r R C p o h (acons y ys) i after stop late a =
        let d = size (field_tree g x) in
        let e : n + d + sizes (each (field_tree g) xs bare) ≡ n + (d + sizes (each (field_tree g) xs bare)) = omega arith in
        let late' : Late (n + d + sizes (each (field_tree g) xs ts)) C =
        late_later (n + d + sizes (each (field_tree g) xs ts)) (n + (d + sizes (each (field_tree g) xs ts))) (omega arith) late in
        rw (go_on _ _ x q n _ _ _ p o a)
        (on (comma_printed j b n (write_param x (listed false xs r)) _ _ p o a) λ p o a.
        on (param_printed j g x q n (listed false xs r) _ _ p o y (after_forest (each (field_tree g) xs ts) q n (n + d) R i after)
        (late_forest (each (field_tree g) xs ts) (n + d) C late') a) λ p o a.
        rw (sym e) (params_from_law k false xs ts q (n + d) r R C p o (omega (arith, h, size_some j (field_tree g x))) ys (omega (arith, i)) after stop late' a))

    params_printed : (xs : List Field) (ts : Forest) (q n : ℕ) (r : List Piece) (R C : Rows) (p : Cursor) (o : List ℕ) →
        All (EachField (Good j.text)) xs → q < n → After q R → ((m : ℕ) → Stops thrown (unders ts q m R)) → Late (n + sizes (each (field_tree g) xs ts)) C →
        At j (write_each commas write_param xs r) n (unders (each (field_tree g) xs ts) q n R) (noteds (each (field_tree g) xs ts) n C) p o →
        let m = n + sizes (each (field_tree g) xs bare) in
        Got (At j r m (unders ts q m R) (noteds ts m C)) (params_out j.text j.nodes j.count j.comments j.total thrown p o)
    unfolding params_out
    params_printed xs ts q n r R C p o gs i after stop late a =
        params_from_law j.count true xs ts q n r R C p o
        (omega (arith, a.nodes_ahead.counts, unders_long (each (field_tree g) xs ts) q n R, each_sizes (field_tree g) xs ts)) gs i after stop late (rw (listed_is xs r) at a)

  -- ---- throws

  throws_printed : (w : Bool) (th : Option (List Field)) (x : Annotations) (q n : ℕ) (r : List Piece) (R C : Rows) (p : Cursor) (o : List ℕ) →
      EachOption (All (EachField (Good j.text))) th → q < n → After q R → Not 12 R → Late (n + sizes (throws_trees th (annotations_tree x bare))) C →
      At j (write_throws th r) n (unders (throws_trees th (annotations_tree x bare)) q n R) (noteds (throws_trees th (annotations_tree x bare)) n C) p o →
      let m = n + sizes (throws_trees th bare) in
      Got (At j r m (unders (annotations_tree x bare) q m R) (noteds (annotations_tree x bare) m C))
      (throws_out j.text j.nodes j.count j.comments j.total (oneway_flag w + throws_flag th) p o)
  unfolding throws_out throws_flag throws_trees write_throws oneway_flag sizes keyword say_out ascii bytes_of
  throws_printed true None x q n r R C p o g i after stop late a = let e : n + 0 ≡ n = omega arith in rw e (got a)
  throws_printed false None x q n r R C p o g i after stop late a = let e : n + 0 ≡ n = omega arith in rw e (got a)
  throws_printed true (Some fs) x q n r R C p o (esome g) i after stop late a =
      on (puts4 j _ (λ r. refl) a) λ p o a.
      on (params_printed true 16 thrown_of fs (annotations_tree x bare) q n _ R C p o g i after (λ m. stops_behind true x q m R stop) late a) λ p o a. puts1 j _ (λ r. refl) a
  throws_printed false (Some fs) x q n r R C p o (esome g) i after stop late a =
      on (puts4 j _ (λ r. refl) a) λ p o a.
      on (params_printed true 16 thrown_of fs (annotations_tree x bare) q n _ R C p o g i after (λ m. stops_behind true x q m R stop) late a) λ p o a. puts1 j _ (λ r. refl) a

  oneway_printed : (w : Bool) (th : Option (List Field)) (n : ℕ) (r : List Piece) (R C : Rows) (p : Cursor) (o : List ℕ) → At j (write_oneway w r) n R C p o →
      Got (At j r n R C) (oneway_out (oneway_flag w + throws_flag th) p o)
  unfolding oneway_out oneway_flag throws_flag write_oneway keyword say_out ascii bytes_of
  oneway_printed true None n r R C p o a = puts2 j _ (λ r. refl) a
  oneway_printed true (Some fs) n r R C p o a = puts2 j _ (λ r. refl) a
  oneway_printed false None n r R C p o a = got a
  oneway_printed false (Some fs) n r R C p o a = got a

  -- ---- a function

  -- its number and its flags
  function_flags : {r : List Piece} {C : Rows} {p : Cursor} {o : List ℕ} (R : Rows) (l : LOC) (c : List Lexeme) (w : Bool) (t : FieldType) (m : Lexeme) (ps : List Field)
      (th : Option (List Field)) (x : Annotations) (q n : ℕ) → At j r n (under (function_tree (function l c w t m ps th x)) q n R) C p o →
      number_at node_width j.nodes p.node Col.Flags ≡ oneway_flag w + throws_flag th
  unfolding function_tree under
  function_flags R l c w t m ps th x q n a = flags_are j 11 q (oneway_flag w + throws_flag th) l _ a

  function_by : (owner flags ind : ℕ) (l : LOC) (c : List Lexeme) (w : Bool) (t : FieldType) (m : Lexeme) (ps : List Field) (th : Option (List Field)) (x : Annotations)
      (q n : ℕ) (r : List Piece) (R C : Rows) (p : Cursor) (o : List ℕ) → owner ≡ n → flags ≡ oneway_flag w + throws_flag th →
      let x' = function l c w t m ps th x in
      EachFunction (Good j.text) x' → After n R → Not 12 R → Late (n + size (function_tree x')) C →
      At j (write_function (replicate ind 32) x' r) n (under (function_tree x') q n R) (noted (function_tree x') n C) p o →
      Got (At j r (n + size (function_tree x')) R C)
      (then (comments_out j.text j.comments j.total owner ind p o)
      (spaces_out ind
      ⨟ (pass_node
      ⨟ (oneway_out flags
      ⨟ (typed_name_out j.text j.nodes j.count ⨟ function_tail_out j.text j.nodes j.count j.comments j.total owner flags)))))
  unfolding function_tree write_function function_tail_out under noted size sizes say_out ascii bytes_of
  function_by owner flags ind l c w t m ps th x q n r R C p o eo ef (efunction gc gt gm gp gth gx) b stop late a =
      let us = throws_trees th (annotations_tree x bare) in
      let vs = each (field_tree 0) ps us in
      let ts = grown (type_tree t) (grown (name_tree m) vs) in
      let few : n < 4294967295 = omega (arith, a.nodes_ahead.counts, j.few) in
      let k = suc n + size (type_tree t) + size (name_tree m) in
      let k₁ = k + sizes (each (field_tree 0) ps bare) in
      let k₂ = k₁ + sizes (throws_trees th bare) in
      let es = each_sizes (field_tree 0) ps us in
      let et = throws_sizes th (annotations_tree x bare) in
      let e : k₂ + sizes (annotations_tree x bare) ≡ n + suc (size (type_tree t) + (size (name_tree m) + sizes vs)) = omega (arith, es, et) in
      let all = n + suc (size (type_tree t) + (size (name_tree m) + sizes vs)) in
      rw (eo, ef)
      (on (comments_printed j ind n n c _ _ _ p o few gc (late_forest ts (suc n) C (late_later (suc n + (size (type_tree t) + (size (name_tree m) + sizes vs))) all (omega arith) late)) a) λ p o a.
      on (spaces_printed j ind n _ _ _ p o a) λ p o a.
      on (passes j 11 q (oneway_flag w + throws_flag th) l _ a) λ p o a.
      on (oneway_printed w th (suc n) _ _ _ p o a) λ p o a.
      on (typed_name_printed j t m vs n (suc n) _ R C p o gt gm.holds a) λ p o a.
      on (puts1 j _ (λ r. refl) a) λ p o a.
      on (params_printed false 0 param_of ps us n k _ R C p o gp (omega arith) b (λ i. stops_throws th x n i R stop) (late_later (k + sizes vs) all (omega arith) late) a) λ p o a.
      on (puts1 j _ (λ r. refl) a) λ p o a.
      on (throws_printed w th x n k₁ _ R C p o gth (omega arith) b stop (late_later (k₁ + sizes us) all (omega (arith, es)) late) a) λ p o a.
      on (annotations_printed j x n k₂ _ R C p o gx few (omega arith) b a) λ p o a.
      rw (sym e) (puts1 j _ (λ r. refl) a))

  pub function_printed : (ind : ℕ) (x : Function) (q n : ℕ) (r : List Piece) (R C : Rows) (p : Cursor) (o : List ℕ) → EachFunction (Good j.text) x → After n R → Not 12 R →
      Late (n + size (function_tree x)) C → At j (write_function (replicate ind 32) x r) n (under (function_tree x) q n R) (noted (function_tree x) n C) p o →
      Got (At j r (n + size (function_tree x)) R C) (function_out j.text j.nodes j.count j.comments j.total ind p o)
  unfolding function_out
  function_printed ind (function l c w t m ps th x) q n r R C p o g b stop late a =
      function_by p.node (number_at node_width j.nodes p.node Col.Flags) ind l c w t m ps th x q n r R C p o a.node (function_flags R l c w t m ps th x q n a) g b stop late a

  -- ---- an enum member

  member_by : (owner ind : ℕ) (l : LOC) (c : List Lexeme) (m : Lexeme) (v : Option Lexeme) (x : Annotations)
      (q n : ℕ) (r : List Piece) (R C : Rows) (p : Cursor) (o : List ℕ) → owner ≡ n →
      let x' = member l c m v x in
      EachMember (Good j.text) x' → After n R → Late (n + size (member_tree x')) C →
      At j (write_member (replicate ind 32) x' r) n (under (member_tree x') q n R) (noted (member_tree x') n C) p o →
      Got (At j r (n + size (member_tree x')) R C)
      (then (comments_out j.text j.comments j.total owner ind p o)
      (spaces_out ind
      ⨟ (pass_node
      ⨟ (token_out j.text j.nodes
      ⨟ (assigned_out j.nodes j.count owner (token_out j.text j.nodes) ⨟ (annotations_out j.text j.nodes j.count owner ⨟ say_out ",\n"))))))
  unfolding member_tree write_member under unders noted noteds size sizes say_out ascii bytes_of
  member_by owner ind l c m v x q n r R C p o eo (emember gc gm gv gx) b late a =
      let us = perhaps literal_tree v (annotations_tree x bare) in
      let ts = grown (name_tree m) us in
      let few : n < 4294967295 = omega (arith, a.nodes_ahead.counts, j.few) in
      let k = suc n + size (name_tree m) in
      let all = n + suc (size (name_tree m) + sizes us) in
      let later = past_later literal_tree v k in
      let e : past literal_tree v k + sizes (annotations_tree x bare) ≡ all = omega (arith, past_perhaps literal_tree v (annotations_tree x bare) k) in
      rw eo
      (on (comments_printed j ind n n c _ _ _ p o few gc (late_forest ts (suc n) C (late_later (suc n + (size (name_tree m) + sizes us)) all (omega arith) late)) a) λ p o a.
      on (spaces_printed j ind n _ _ _ p o a) λ p o a.
      on (passes j 13 q 0 l _ a) λ p o a.
      on (name_printed j m n (suc n) _ _ _ p o gm.holds a) λ p o a.
      on (initializer_printed j v x n k _ R C p o gv few (omega arith) b a) λ p o a.
      on (annotations_printed j x n (past literal_tree v k) _ R C p o gx few (omega (arith, later)) b a) λ p o a.
      rw (sym e) (puts2 j _ (λ r. refl) a))

  pub member_printed : (ind : ℕ) (x : EnumMember) (q n : ℕ) (r : List Piece) (R C : Rows) (p : Cursor) (o : List ℕ) → EachMember (Good j.text) x → After n R →
      Late (n + size (member_tree x)) C → At j (write_member (replicate ind 32) x r) n (under (member_tree x) q n R) (noted (member_tree x) n C) p o →
      Got (At j r (n + size (member_tree x)) R C) (member_out j.text j.nodes j.count j.comments j.total ind p o)
  unfolding member_out
  member_printed ind (member l c m v x) q n r R C p o g b late a = member_by p.node ind l c m v x q n r R C p o a.node g b late a
