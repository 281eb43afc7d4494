-- On the records of a field or a parameter, the printer writes it.
--     typed_name_printed     a type, a space, a name
--     assigned_printed       ` = ` and what follows it, if it is there
--     field_printed          a field, on its lines
--     param_printed          a parameter or a thrown field: its annotations are passed, its comments too
use mathlib.Core.Path.{◌≡◌, refl, sym}
use mathlib.Core.Bool.{Bool, true, false, cond}
use mathlib.Core.List.{List, [], ◌∷◌}
use Rattle.std.specs.Prelude.{Option, Some, None}
use Prim.Native.Nat.{ℕ, zero, suc, ◌+◌, ◌≤◌, ◌<◌}
use native.Mathlib.Omega.{arith}
use lib.Dec.{eqb}
use lib.ListN.{replicate}
use borrow.Author.Tests.{eq-eqb, le-ltb, ne_eqb}
use Rattle.token.specs.Regex.{bytes as ascii}
use Rattle.token.specs.Code.{is}
use Rattle.token.specs.declared.Token.{Token}
use Rattle.token.specs.declared.Token.TheVariants as Tok
use Rattle.lexer.specs.declared.location.LOC.{LOC}
use Rattle.lexer.specs.Tokens.{Lexeme, lexeme}
use Rattle.ast.specs.Ast.{
  FieldType,
  CommonType,
  ListType,
  SetType,
  MapType,
  FieldInitialValue,
  ConstValue,
  ConstList,
  ConstMap,
  Annotation,
  annotation,
  Annotations,
  absent,
  annotations,
  Required,
  default,
  required,
  optional,
  Field,
  field,
}
use Rattle.ast.specs.Tree.{
  Tree,
  node,
  Forest,
  bare,
  grown,
  leaf,
  inner,
  single,
  both,
  each,
  perhaps,
  name_tree,
  id_tree,
  type_tree,
  value_kind,
  literal_tree,
  value_tree,
  annotation_tree,
  annotations_tree,
  required_flag,
  field_tree,
}
use Rattle.ast.specs.Column as Col
use Rattle.ast.specs.Records.{node_width, no_parent, node_row, size, sizes}
use Rattle.parser.proofs.Each.{EachOption, esome, EachType, EachValue, EachField, efield}
use Rattle.writer.specs.Print.{
  Piece,
  mark,
  bytes_of,
  own,
  keyword,
  space,
  write_type,
  write_value,
  write_id,
  write_required,
  write_default,
  write_initializer,
  write_field,
  write_param,
}
use Rattle.cursor.specs.declared.Cursor.{Cursor}
use Rattle.cursor.specs.Onto.{W, then, ◌⨟◌, number_at, pass_node, say_out, spaces_out, comments_out, pass_comments, token_out, below, pass_below_from, pass_below}
use Rattle.write_fields.specs.Onto.{value_out, annotations_out, id_out, required_out, has_value, assigned_out, typed_name_out, field_head_out, field_out, param_out}
use Rattle.write_fields.proofs.Ahead.{Rows, under, unders, owned_before, noted, noteds, Got, got, on, Job, At, kind_is, parent_is, flags_are, passes, puts1, puts2, puts3}
use Rattle.write_fields.proofs.Follow.{first, Begins, begins, After, Not, Late, late_forest, late_later, after_forest, not_kind, not_parent, not_below, unders_long}
use Rattle.write_fields.proofs.PrintedLeaves.{Good, leaf_printed, name_printed, literal_printed}
use Rattle.write_fields.proofs.PrintedTypes.{type_printed}
use Rattle.write_fields.proofs.PrintedComments.{spaces_printed, comments_printed, comments_passed}
use Rattle.write_fields.proofs.PrintedValues.{value_printed, annotations_printed}

-- ---- the number behind what may be there

unfoldable pub past : {A : Type 0} → (A → Tree) → Option A → ℕ → ℕ
past f None n = n
past f (Some x) n = n + size (f x)

pub past_perhaps : {A : Type 0} (f : A → Tree) (v : Option A) (ts : Forest) (n : ℕ) → past f v n + sizes ts ≡ n + sizes (perhaps f v ts)
unfolding past perhaps sizes
past_perhaps f None ts n = refl
past_perhaps f (Some x) ts n = omega arith

-- the first row of a type, and of a value
type_row : (t : FieldType) (q n : ℕ) (R : Rows) → Not 17 (under (type_tree t) q n R)
unfolding type_tree leaf inner under
type_row (CommonType (lexeme t w l)) q n R = first _ q 0 l _ (go (is t Tok.Identifier))
  where
    go : (b : Bool) → eqb (cond b 19 18) 17 ≡ false
    go true = refl
    go false = refl
type_row (ListType l k t) q n R = first 20 q 0 l _ refl
type_row (SetType l k t) q n R = first 21 q 0 l _ refl
type_row (MapType l k a b) q n R = first 22 q 0 l _ refl

-- it is the owner's, and no annotations
abbrev pub Assigned : ℕ → Rows → Type 0
Assigned q = Begins (λ k p f. (p ≡ q) × (eqb k 14 ≡ false))

literal_kind : (t : Token) → eqb (value_kind t) 14 ≡ false
unfolding value_kind
literal_kind t = go (is t Tok.StringLiteral) (is t Tok.IntegerLiteral) (is t Tok.DoubleLiteral) (is t Tok.BooleanLiteral) (is t Tok.HexLiteral)
  where
    go : (a b c d e : Bool) → eqb (cond a 23 (cond b 24 (cond c 25 (cond d 26 (cond e 27 28))))) 14 ≡ false
    go true b c d e = refl
    go false true c d e = refl
    go false false true d e = refl
    go false false false true e = refl
    go false false false false true = refl
    go false false false false false = refl

pub literal_row : (t : Lexeme) (q n : ℕ) (R : Rows) → Assigned q (under (literal_tree t) q n R)
unfolding literal_tree leaf under
literal_row (lexeme t w l) q n R = begins _ q 0 l _ (refl, literal_kind t)

pub value_row : (v : FieldInitialValue) (q n : ℕ) (R : Rows) → Assigned q (under (value_tree v) q n R)
unfolding value_tree inner under
value_row (ConstValue t) q n R = literal_row t q n R
value_row (ConstList l vs) q n R = begins 29 q 0 l _ (refl, refl)
value_row (ConstMap l ps) q n R = begins 30 q 0 l _ (refl, refl)

-- what is written of what may be assigned
unfoldable pub write_assigned : {A : Type 0} → (A → List Piece → List Piece) → Option A → List Piece → List Piece
write_assigned w None r = r
write_assigned w (Some v) r = space ∷ mark Tok.Equals 61 ∷ space ∷ w v r

pub default_is : (v : Option FieldInitialValue) (r : List Piece) → write_default v r ≡ write_assigned write_value v r
unfolding write_default write_assigned
default_is None r = refl
default_is (Some v) r = refl

pub initializer_is : (v : Option Lexeme) (r : List Piece) → write_initializer v r ≡ write_assigned (λ t r. own t ∷ r) v r
unfolding write_initializer write_assigned
initializer_is None r = refl
initializer_is (Some v) r = refl

no_id : (t : FieldType) (ts : Forest) (q n : ℕ) (R : Rows) → Not 17 (unders (grown (type_tree t) ts) q n R)
unfolding unders
no_id t ts q n R = type_row t q n (unders ts q (n + size (type_tree t)) R)

pub past_later : {A : Type 0} (f : A → Tree) (v : Option A) (n : ℕ) → n ≤ past f v n
unfolding past
past_later f None n = omega arith
past_later f (Some x) n = omega arith

-- ---- annotations own no comments, and can be passed

annotation_unnoted : (xs : List Annotation) (n : ℕ) (C : Rows) → noteds (each annotation_tree xs bare) n C ≡ C
unfolding each annotation_tree name_tree literal_tree leaf inner both single noteds noted owned_before
annotation_unnoted [] n C = refl
annotation_unnoted (annotation l (lexeme t w k) (lexeme t' w' k') ∷ xs) n C = annotation_unnoted xs _ C

pub annotations_unnoted : (x : Annotations) (n : ℕ) (C : Rows) → noteds (annotations_tree x bare) n C ≡ C
unfolding annotations_tree inner noteds noted owned_before
annotations_unnoted absent n C = refl
annotations_unnoted (annotations l xs) n C = annotation_unnoted xs (suc n) C

-- so many rows, all below node m, and then others
data Pass (m : ℕ) : ℕ → Rows → Rows → Type 0 where
  passed : {R : Rows} → Pass m 0 R R
  one_more : (k q f : ℕ) (l : LOC) (e : ℕ) {d : ℕ} {X R : Rows} → below m q ≡ true → Pass m d X R → Pass m (suc d) (node_row k q f l e ∷ X) R

pass_then : {m d e : ℕ} {X Y R : Rows} → Pass m d X Y → Pass m e Y R → Pass m (d + e) X R
pass_then {e = e} passed y = let z : 0 + e ≡ e = omega arith in rw z y
pass_then {e = e} (one_more k q f l _ {d = d} h x) y = let z : suc d + e ≡ suc (d + e) = omega arith in rw z (one_more k q f l _ h (pass_then x y))

is_below : (m q : ℕ) → m ≤ q → q < 4294967295 → below m q ≡ true
unfolding below no_parent
is_below m q h g = rw (le-ltb q m h, ne_eqb q 4294967295 (λ e. omega (arith, e, g)))

mutual
  unfolding under unders size sizes

  pass_tree : (t : Tree) (m q n : ℕ) (R : Rows) → m ≤ q → q < 4294967295 → m ≤ n → n + size t ≤ 4294967295 → Pass m (size t) (under t q n R) R
  pass_tree (node k f l w c ts) m q n R h g i u =
      one_more k q f l _ (is_below m q h g) (pass_forest ts m n (suc n) R i (omega (arith, u)) (omega (arith, i)) (omega (arith, u)))

  pass_forest : (ts : Forest) (m q n : ℕ) (R : Rows) → m ≤ q → q < 4294967295 → m ≤ n → n + sizes ts ≤ 4294967295 → Pass m (sizes ts) (unders ts q n R) R
  pass_forest bare m q n R h g i u = passed
  pass_forest (grown t ts) m q n R h g i u =
      pass_then (pass_tree t m q n (unders ts q (n + size t) R) h g i (omega (arith, u)))
      (pass_forest ts m q (n + size t) R h g (omega (arith, i)) (omega (arith, u)))

below_from : (j : Job) (m k : ℕ) {d n : ℕ} {r : List Piece} {X R C : Rows} {p : Cursor} {o : List ℕ} → d ≤ k → Pass m d X R → After m R → At j r n X C p o →
    Got (At j r (n + d) R C) (pass_below_from j.nodes j.count m k p o)
unfolding pass_below_from
below_from j m zero {n = n} h passed b a = let e : n + 0 ≡ n = omega arith in rw e (got a)
below_from j m zero h (one_more k q f l _ g x) b a = absurd (omega (arith, h))
below_from j m (suc k) {n = n} h passed b a = let e : n + 0 ≡ n = omega arith in rw (e, not_below j m b a) (got a)
below_from j m (suc k) {n = n} h (one_more i q f l _ {d = d} g x) b a =
    let e : n + suc d ≡ suc n + d = omega arith in
    rw (e, parent_is j i q f l _ a, g) (on (passes j i q f l _ a) λ p o a. below_from j m k (omega (arith, h)) x b a)

module _ (j : Job) where
  -- ---- id, requiredness

  some_id_printed : (x : Lexeme) (ts : Forest) (q n : ℕ) (r : List Piece) (R C : Rows) (p : Cursor) (o : List ℕ) → Good j.text x →
      At j (own x ∷ mark Tok.Colon 58 ∷ space ∷ r) n (unders (grown (id_tree x) ts) q n R) (noteds (grown (id_tree x) ts) n C) p o →
      Got (At j r (n + size (id_tree x)) (unders ts q (n + size (id_tree x)) R) (noteds ts (n + size (id_tree x)) C)) (id_out j.text j.nodes j.count p o)
  unfolding id_out id_tree leaf unders under noteds say_out ascii bytes_of
  some_id_printed (lexeme t w l) ts q n r R C p o g a =
      rw (kind_is j 17 q 0 l _ a) (on (leaf_printed j 17 (lexeme t w l) q n (mark Tok.Colon 58 ∷ space ∷ r) _ _ p o g a) λ p o a. puts2 j _ (λ r. refl) a)

  id_printed : (i : Option Lexeme) (ts : Forest) (q n : ℕ) (r : List Piece) (R C : Rows) (p : Cursor) (o : List ℕ) → EachOption (Good j.text) i → Not 17 (unders ts q n R) →
      At j (write_id i r) n (unders (perhaps id_tree i ts) q n R) (noteds (perhaps id_tree i ts) n C) p o →
      Got (At j r (past id_tree i n) (unders ts q (past id_tree i n) R) (noteds ts (past id_tree i n) C)) (id_out j.text j.nodes j.count p o)
  unfolding write_id perhaps past id_out
  id_printed None ts q n r R C p o g h a = rw (not_kind j 17 (omega arith) h a) (got a)
  id_printed (Some x) ts q n r R C p o (esome g) h a = some_id_printed x ts q n r R C p o g a

  pub required_printed : (x : Required) (n : ℕ) (r : List Piece) (R C : Rows) (p : Cursor) (o : List ℕ) → At j (write_required x r) n R C p o →
      Got (At j r n R C) (required_out (required_flag x + 0) p o)
  unfolding write_required required_flag required_out keyword bytes_of say_out ascii
  required_printed default n r R C p o a = got a
  required_printed required n r R C p o a = puts2 j _ (λ r. refl) a
  required_printed optional n r R C p o a = puts2 j _ (λ r. refl) a

  not_required : (n : ℕ) (r : List Piece) (R C : Rows) (p : Cursor) (o : List ℕ) → At j r n R C p o → Got (At j r n R C) (required_out 0 p o)
  unfolding required_out
  not_required n r R C p o a = got a

  -- ---- a type and a name

  pub typed_name_printed : (t : FieldType) (m : Lexeme) (ts : Forest) (q n : ℕ) (r : List Piece) (R C : Rows) (p : Cursor) (o : List ℕ) →
      EachType (Good j.text) 32 t → Good j.text m →
      At j (write_type t (space ∷ own m ∷ r)) n (unders (grown (type_tree t) (grown (name_tree m) ts)) q n R) (noteds (grown (type_tree t) (grown (name_tree m) ts)) n C) p o →
      let k = n + size (type_tree t) + size (name_tree m) in Got (At j r k (unders ts q k R) (noteds ts k C)) (typed_name_out j.text j.nodes j.count p o)
  unfolding typed_name_out unders noteds say_out ascii bytes_of
  typed_name_printed t m ts q n r R C p o g h a =
      on (type_printed j 32 t q n _ _ _ p o g a) λ p o a. on (puts1 j _ (λ r. refl) a) λ p o a. name_printed j m q (n + size (type_tree t)) r _ _ p o h a

  -- ---- what is assigned

  has_value_law : {r : List Piece} {n : ℕ} {R C : Rows} {p : Cursor} {o : List ℕ} (q : ℕ) → Assigned q R → At j r n R C p o → has_value j.nodes j.count q p.node ≡ true
  unfolding has_value
  has_value_law q (begins k q' f l _ e) a = rw (parent_is j k q' f l _ a, kind_is j k q' f l _ a, eq-eqb q' q e.0, e.1)

  no_value : {r : List Piece} {n : ℕ} {R C : Rows} {p : Cursor} {o : List ℕ} (q : ℕ) (x : Annotations) → q < 4294967295 → After q R →
      At j r n (unders (annotations_tree x bare) q n R) C p o → has_value j.nodes j.count q p.node ≡ false
  unfolding has_value annotations_tree inner unders under
  no_value q absent h b a = rw (not_parent j q h b a)
  no_value q (annotations l xs) h b a = rw (parent_is j 14 q 0 l _ a, kind_is j 14 q 0 l _ a, eq-eqb q q refl)

  module _ {A : Type 0} (f : A → Tree) (value : W) (w : A → List Piece → List Piece) (G : A → Type 0)
      (step : (v : A) (q n : ℕ) (r : List Piece) (R C : Rows) (p : Cursor) (o : List ℕ) → G v → After n R →
      At j (w v r) n (under (f v) q n R) (noted (f v) n C) p o → Got (At j r (n + size (f v)) R C) (value p o))
      (head : (v : A) (q n : ℕ) (R : Rows) → Assigned q (under (f v) q n R)) where
    pub assigned_printed : (v : Option A) (x : Annotations) (q n : ℕ) (r : List Piece) (R C : Rows) (p : Cursor) (o : List ℕ) → EachOption G v → q < 4294967295 → q < n → After q R →
        At j (write_assigned w v r) n (unders (perhaps f v (annotations_tree x bare)) q n R) (noteds (perhaps f v (annotations_tree x bare)) n C) p o →
        let k = past f v n in
        Got (At j r k (unders (annotations_tree x bare) q k R) (noteds (annotations_tree x bare) k C)) (assigned_out j.nodes j.count q value p o)
    unfolding assigned_out write_assigned perhaps past unders noteds say_out ascii bytes_of
    assigned_printed None x q n r R C p o g h i b a = rw (no_value q x h b a) (got a)
    assigned_printed (Some v) x q n r R C p o (esome g) h i b a =
        rw (has_value_law q (head v q n _) a)
        (on (puts3 j _ (λ r. refl) a) λ p o a.
        step v q n r (unders (annotations_tree x bare) q (n + size (f v)) R) _ p o g (after_forest (annotations_tree x bare) q n (n + size (f v)) R i b) a)

  default_printed : (v : Option FieldInitialValue) (x : Annotations) (q n : ℕ) (r : List Piece) (R C : Rows) (p : Cursor) (o : List ℕ) →
      EachOption (EachValue (Good j.text) 32) v → q < 4294967295 → q < n → After q R →
      At j (write_default v r) n (unders (perhaps value_tree v (annotations_tree x bare)) q n R) (noteds (perhaps value_tree v (annotations_tree x bare)) n C) p o →
      let k = past value_tree v n in
      Got (At j r k (unders (annotations_tree x bare) q k R) (noteds (annotations_tree x bare) k C))
      (assigned_out j.nodes j.count q (value_out j.text j.nodes j.count 32) p o)
  default_printed v x q n r R C p o g h i b a =
      assigned_printed value_tree (value_out j.text j.nodes j.count 32) write_value (EachValue (Good j.text) 32)
      (λ v q n r R C p o g b a. value_printed j 32 v q n r R C p o g b a) value_row v x q n r R C p o g h i b (rw (default_is v r) at a)

  pub initializer_printed : (v : Option Lexeme) (x : Annotations) (q n : ℕ) (r : List Piece) (R C : Rows) (p : Cursor) (o : List ℕ) →
      EachOption (Good j.text) v → q < 4294967295 → q < n → After q R →
      At j (write_initializer v r) n (unders (perhaps literal_tree v (annotations_tree x bare)) q n R) (noteds (perhaps literal_tree v (annotations_tree x bare)) n C) p o →
      let k = past literal_tree v n in
      Got (At j r k (unders (annotations_tree x bare) q k R) (noteds (annotations_tree x bare) k C)) (assigned_out j.nodes j.count q (token_out j.text j.nodes) p o)
  initializer_printed v x q n r R C p o g h i b a =
      assigned_printed literal_tree (token_out j.text j.nodes) (λ t r. own t ∷ r) (Good j.text)
      (λ v q n r R C p o g b a. literal_printed j v q n r R C p o g a) literal_row v x q n r R C p o g h i b (rw (initializer_is v r) at a)

  -- ---- id, requiredness, type, name, default

  -- the number behind them
  abbrev head_end : Option Lexeme → FieldType → Lexeme → Option FieldInitialValue → ℕ → ℕ
  head_end i t m v n = past value_tree v (past id_tree i n + size (type_tree t) + size (name_tree m))

  module _ (g : ℕ) (need : List Piece → List Piece)
      (step : (n : ℕ) (r : List Piece) (R C : Rows) (p : Cursor) (o : List ℕ) → At j (need r) n R C p o → Got (At j r n R C) (required_out g p o)) where
    head_printed : (i : Option Lexeme) (t : FieldType) (m : Lexeme) (v : Option FieldInitialValue) (x : Annotations) (q n : ℕ) (r : List Piece) (R C : Rows) (p : Cursor) (o : List ℕ) →
        EachOption (Good j.text) i → EachType (Good j.text) 32 t → Good j.text m → EachOption (EachValue (Good j.text) 32) v →
        q < 4294967295 → q < n → After q R →
        let ts = perhaps id_tree i (grown (type_tree t) (grown (name_tree m) (perhaps value_tree v (annotations_tree x bare)))) in
        let k = head_end i t m v n in
        At j (write_id i (need (write_type t (space ∷ own m ∷ write_default v r)))) n (unders ts q n R) (noteds ts n C) p o →
        Got (At j r k (unders (annotations_tree x bare) q k R) (noteds (annotations_tree x bare) k C)) (field_head_out j.text j.nodes j.count q g p o)
    unfolding field_head_out
    head_printed i t m v x q n r R C p o gi gt gm gv h k b a =
        let us = perhaps value_tree v (annotations_tree x bare) in
        on (id_printed i (grown (type_tree t) (grown (name_tree m) us)) q n _ R C p o gi (no_id t (grown (name_tree m) us) q n R) a) λ p o a.
        on (step _ _ _ _ p o a) λ p o a.
        on (typed_name_printed t m us q (past id_tree i n) _ R C p o gt gm a) λ p o a.
        default_printed v x q _ r R C p o gv h (omega (arith, k, past_later id_tree i n)) b a

  -- ---- a field

  before : (i : Option Lexeme) (t : FieldType) (m : Lexeme) (v : Option FieldInitialValue) (n : ℕ) → n < head_end i t m v (suc n)
  before i t m v n =
      omega (arith, past_later value_tree v (past id_tree i (suc n) + size (type_tree t) + size (name_tree m)), past_later id_tree i (suc n))

  -- all its records
  head_size : (i : Option Lexeme) (t : FieldType) (m : Lexeme) (v : Option FieldInitialValue) (x : Annotations) (n : ℕ) →
      head_end i t m v (suc n) + sizes (annotations_tree x bare)
      ≡ n + suc (sizes (perhaps id_tree i (grown (type_tree t) (grown (name_tree m) (perhaps value_tree v (annotations_tree x bare))))))
  unfolding sizes
  head_size i t m v x n =
      omega (
        arith,
        past_perhaps value_tree v (annotations_tree x bare) (past id_tree i (suc n) + size (type_tree t) + size (name_tree m)),
        past_perhaps id_tree i (grown (type_tree t) (grown (name_tree m) (perhaps value_tree v (annotations_tree x bare)))) (suc n),
      )

  flags_of : {r : List Piece} {C : Rows} {p : Cursor} {o : List ℕ} (R : Rows) (l : LOC) (c : List Lexeme) (i : Option Lexeme) (y : Required) (t : FieldType) (m : Lexeme)
      (v : Option FieldInitialValue) (x : Annotations) (q n : ℕ) → At j r n (under (field_tree 0 (field l c i y t m v x)) q n R) C p o → number_at node_width j.nodes p.node Col.Flags ≡ required_flag y + 0
  unfolding field_tree under
  flags_of R l c i y t m v x q n a = flags_are j 12 q (required_flag y + 0) l _ a

  -- by its number and its flags
  field_by : (owner flags ind : ℕ) (l : LOC) (c : List Lexeme) (i : Option Lexeme) (y : Required) (t : FieldType) (m : Lexeme) (v : Option FieldInitialValue) (x : Annotations)
      (q n : ℕ) (r : List Piece) (R C : Rows) (p : Cursor) (o : List ℕ) → owner ≡ n → flags ≡ required_flag y + 0 → EachField (Good j.text) (field l c i y t m v x) → After n R →
      let x' = field l c i y t m v x in
      Late (n + size (field_tree 0 x')) C → At j (write_field (replicate ind 32) x' r) n (under (field_tree 0 x') q n R) (noted (field_tree 0 x') n C) p o →
      Got (At j r (n + size (field_tree 0 x')) R C)
      (then (comments_out j.text j.comments j.total owner ind p o)
      (spaces_out ind
      ⨟ (pass_node
      ⨟ (field_head_out j.text j.nodes j.count owner flags ⨟ (annotations_out j.text j.nodes j.count owner ⨟ say_out ",\n")))))
  unfolding field_tree write_field under noted size say_out ascii bytes_of
  field_by owner flags ind l c i y t m v x q n r R C p o eo ef (efield gc gi gt gm gv gx) b late a =
      let ts = perhaps id_tree i (grown (type_tree t) (grown (name_tree m) (perhaps value_tree v (annotations_tree x bare)))) in
      let few : n < 4294967295 = omega (arith, a.nodes_ahead.counts, j.few) in
      let e = head_size i t m v x n in
      rw (eo, ef)
      (on (comments_printed j ind n n c _ _ _ p o few gc (late_forest ts (suc n) C (late_later (suc n + sizes ts) (n + suc (sizes ts)) (omega arith) late)) a) λ p o a.
      on (spaces_printed j ind n _ _ _ p o a) λ p o a.
      on (passes j 12 q (required_flag y + 0) l _ a) λ p o a.
      on (head_printed (required_flag y + 0) (write_required y) (λ n r R C p o a. required_printed y n r R C p o a) i t m v x n (suc n) _ R C p o gi gt gm.holds gv few (omega arith) b a) λ p o a.
      on (annotations_printed j x n (head_end i t m v (suc n)) _ R C p o gx few (before i t m v n) b a) λ p o a.
      rw (sym e) (puts2 j _ (λ r. refl) a))

  pub field_printed : (ind : ℕ) (x : Field) (q n : ℕ) (r : List Piece) (R C : Rows) (p : Cursor) (o : List ℕ) → EachField (Good j.text) x → After n R →
      Late (n + size (field_tree 0 x)) C → At j (write_field (replicate ind 32) x r) n (under (field_tree 0 x) q n R) (noted (field_tree 0 x) n C) p o →
      Got (At j r (n + size (field_tree 0 x)) R C) (field_out j.text j.nodes j.count j.comments j.total ind p o)
  unfolding field_out
  field_printed ind (field l c i y t m v x) q n r R C p o g b late a =
      field_by p.node (number_at node_width j.nodes p.node Col.Flags) ind l c i y t m v x q n r R C p o a.node (flags_of R l c i y t m v x q n a) g b late a

  -- ---- a parameter

  param_by : (owner g : ℕ) (l : LOC) (c : List Lexeme) (i : Option Lexeme) (y : Required) (t : FieldType) (m : Lexeme) (v : Option FieldInitialValue) (x : Annotations)
      (q n : ℕ) (r : List Piece) (R C : Rows) (p : Cursor) (o : List ℕ) → owner ≡ n → EachField (Good j.text) (field l c i y t m v x) → After n R →
      let x' = field l c i y t m v x in
      Late (n + size (field_tree g x')) C → At j (write_param x' r) n (under (field_tree g x') q n R) (noted (field_tree g x') n C) p o →
      Got (At j r (n + size (field_tree g x')) R C)
      (then (pass_comments j.comments j.total owner p o)
      (pass_node ⨟ (field_head_out j.text j.nodes j.count owner 0 ⨟ pass_below j.nodes j.count owner)))
  unfolding field_tree write_param under noted size pass_below
  param_by owner g l c i y t m v x q n r R C p o eo (efield gc gi gt gm gv gx) b late a =
      let ts = perhaps id_tree i (grown (type_tree t) (grown (name_tree m) (perhaps value_tree v (annotations_tree x bare)))) in
      let few : n < 4294967295 = omega (arith, a.nodes_ahead.counts, j.few) in
      let e = head_size i t m v x n in
      let all : n + suc (sizes ts) ≤ 4294967295 = omega (arith, a.nodes_ahead.counts, unders_long ts n (suc n) R, j.few) in
      let end = head_end i t m v (suc n) in
      rw eo
      (on (comments_passed j n n c _ _ _ p o few (late_forest ts (suc n) C (late_later (suc n + sizes ts) (n + suc (sizes ts)) (omega arith) late)) a) λ p o a.
      on (passes j 12 q (required_flag y + g) l _ a) λ p o a.
      on (head_printed 0 (λ r. r) (λ n r R C p o a. not_required n r R C p o a) i t m v x n (suc n) r R C p o gi gt gm.holds gv few (omega arith) b a) λ p o a.
      rw (sym e)
      (below_from j n j.count (omega (arith, a.nodes_ahead.counts, unders_long (annotations_tree x bare) n end R))
      (pass_forest (annotations_tree x bare) n n end R (omega arith) few (omega (arith, before i t m v n)) (omega (arith, e, all))) b (rw (annotations_unnoted x end C) at a)))

  pub param_printed : (g : ℕ) (x : Field) (q n : ℕ) (r : List Piece) (R C : Rows) (p : Cursor) (o : List ℕ) → EachField (Good j.text) x → After n R →
      Late (n + size (field_tree g x)) C → At j (write_param x r) n (under (field_tree g x) q n R) (noted (field_tree g x) n C) p o →
      Got (At j r (n + size (field_tree g x)) R C) (param_out j.text j.nodes j.count j.comments j.total p o)
  unfolding param_out
  param_printed g (field l c i y t m v x) q n r R C p o h b late a = param_by p.node g l c i y t m v x q n r R C p o a.node h b late a
