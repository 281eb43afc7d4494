-- What the walk over a table means: the numbers of the definitions that the table shows.
--     ended           what numbers, behind k others in a list, come to
--     members_mean    the children of an enum, before others
--     roots_mean      the definitions
--     walk_means      the whole
use mathlib.Core.Path.{◌≡◌, refl, ap, ◌∙◌}
use mathlib.Core.Bool.{Bool, true, false, cond}
use mathlib.Core.List.{List, [], ◌∷◌, ◌++◌}
use Rattle.std.specs.Prelude.{Option, Some, None}
use Rattle.std.specs.Prelude.{Option, Some, None}
use Prim.Native.Nat.{ℕ, suc, ◌+◌, ◌-◌, ◌≤◌, ◌<◌}
use native.Mathlib.Omega.{arith}
use borrow.Author.Tests.{lt-ltb, le-ltb, ltb-false}
use lib.Dec.{eqb, ltb}
use lib.ListN.{length, take, set, replicate, length-set}
use lib.Seq.{take-suc-set, append_snoc}
use lib.IntN.{ℤ, pos, suc_ℤ}
use Rattle.token.specs.Code.{code, is}
use Rattle.token.specs.declared.Token.{Token}
use Rattle.token.specs.declared.Token.TheVariants as T
use Rattle.lexer.specs.declared.location.LOC.{LOC}
use Rattle.lexer.specs.Error.{NodesFull, EnumNumberOutside}
use Rattle.lexer.specs.Outcome.{accepted, refused}
use Rattle.lexer.specs.Tokens.{Lexeme, lexeme}
use Rattle.ast.specs.Ast.{
  Annotations,
  absent,
  annotations,
  EnumMember,
  member,
  Struct,
  Union,
  Exception,
  Definition,
  Include,
  CppInclude,
  Namespace,
  Const,
  Typedef,
  Enum,
  structure,
  Service,
}
use Rattle.ast.specs.Tree.{
  Tree,
  node,
  Forest,
  bare,
  grown,
  leaf,
  inner,
  single,
  both,
  each,
  perhaps,
  name_tree,
  value_kind,
  literal_tree,
  annotation_tree,
  annotations_tree,
  member_tree,
  structure_kind,
  definition_tree,
}
use Rattle.ast.specs.Kind as K
use Rattle.ast.specs.Largest.{largest, bump}
use Rattle.ast.specs.Records.{no_parent, size, sizes, forest}
use Rattle.parser.specs.Steps.{bytes, place}
use Rattle.parser.proofs.KindLaws.{all, same, agree}
use Rattle.number.specs.Value.{integer, hex, value, i32, fitted}
use Rattle.records.specs.Table.{Shown, File, kind_in, roots, is_token, spelled, Spelled, smore}
use Rattle.records.proofs.ShownLaws.{
  kind_is,
  past_is,
  children,
  beside,
  below,
  bump_is,
  leaf_size,
  leaf_kind,
  leaf_start,
  leaf_end,
  leaf_past,
  leaf_beside,
  leaf_part,
  roots_are,
  children_are,
}
use Rattle.enum_members.specs.declared.Walk.{Walk}
use Rattle.enum_members.specs.Numbers.{Numbers, numbers, outside, before, number, of_members, member_numbers, counted, numbers_of, listed, Listing, listing, cleared}
use Rattle.records.specs.Each.{on, then, each_in}
use Rattle.records.proofs.EachLaws.{then_then}
use Rattle.enum_members.specs.Walk.{at, W, value_at, member_at, put_in, child_in, members_in, definition_in, definitions_in, wiped, refusing, finished}

-- ---- numbers behind others

abbrev counting : ℕ → List ℤ → Listing
counting n list = record { says = accepted (n ∷ []); list = list }

unfoldable ended : Numbers → ℕ → List ℤ → Listing
ended (outside n) k list = refusing EnumNumberOutside (place n).start.index ((place n).end.index - (place n).start.index) list
ended (numbers xs) k list =
    cond (ltb (length list) (k + length xs)) (refusing NodesFull 0 0 list)
    (counting (k + length xs) (take k list ++ (xs ++ replicate (length list - (k + length xs)) (pos 0))))

ended_start : (ns : Numbers) (list : List ℤ) → ended ns 0 list ≡ listing ns list
unfolding ended listing counted listed numbers_of refusing
ended_start (outside n) list = refl
ended_start (numbers xs) list = let e : 0 + length xs ≡ length xs = omega arith in rw e (by (ltb (length list) (length xs)))
  where
    by : (b : Bool) → cond b (refusing NodesFull 0 0 list) (counting (length xs) (xs ++ replicate (length list - length xs) (pos 0)))
        ≡ (let a = cond b (refused NodesFull 0 0) (accepted (length xs ∷ [])) in record { says = a; list = listed a xs list })
    by true = refl
    by false = refl

refusing_set : (e p n k : ℕ) (x : ℤ) (list : List ℤ) → refusing e p n (set list k x) ≡ refusing e p n list
unfolding refusing cleared
refusing_set e p n k x list = rw (length-set list k x)

-- one number more
ended_before : (x : ℤ) (ns : Numbers) (k : ℕ) (list : List ℤ) → ended ns (k + 1) (set list k x) ≡ ended (before x ns) k list
unfolding ended before
ended_before x (outside n) k list = refusing_set EnumNumberOutside (place n).start.index ((place n).end.index - (place n).start.index) k x list
ended_before x (numbers xs) k list =
    let e : k + suc (length xs) ≡ k + 1 + length xs = omega arith in
    rw (e, length-set list k x) (go (ltb (length list) (k + 1 + length xs)) refl)
  where
    go : (b : Bool) → ltb (length list) (k + 1 + length xs) ≡ b →
        cond b (refusing NodesFull 0 0 (set list k x))
        (counting (k + 1 + length xs) (take (k + 1) (set list k x) ++ (xs ++ replicate (length list - (k + 1 + length xs)) (pos 0))))
        ≡ cond b (refusing NodesFull 0 0 list)
        (counting (k + 1 + length xs) (take k list ++ (x ∷ (xs ++ replicate (length list - (k + 1 + length xs)) (pos 0)))))
    go true h = refusing_set NodesFull 0 0 k x list
    go false h =
        let l = ltb-false (length list) (k + 1 + length xs) h in
        let n : k + 1 ≡ suc k = omega arith in
        let r = xs ++ replicate (length list - (k + 1 + length xs)) (pos 0) in
        let t : take (k + 1) (set list k x) ≡ take k list ++ (x ∷ []) = ap (λ (i : ℕ). take i (set list k x)) n ∙ take-suc-set list k x (omega (arith, l)) in
        ap (counting (k + 1 + length xs)) (ap (λ (y : List ℤ). y ++ r) t ∙ append_snoc (take k list) x r)

ended_none : (w : Walk) (list : List ℤ) → finished (on (at w list)) ≡ ended (numbers []) w.members list
unfolding finished ended wiped
ended_none w list = let e : w.members + 0 ≡ w.members = omega arith in rw e

-- ---- kinds of literals, by tests over all kinds of tokens

hex_kind : (t : Token) → eqb (value_kind t) K.Hex ≡ is t T.HexLiteral
unfolding all same value_kind is code
hex_kind = agree (λ t. eqb (value_kind t) K.Hex) (λ t. is t T.HexLiteral) refl refl

no_annotations_law : (t : Token) → eqb (value_kind t) K.Annotations ≡ false
unfolding all same value_kind is code
no_annotations_law = agree (λ t. eqb (value_kind t) K.Annotations) (λ t. false) refl refl

literal_token : (t : Token) → is_token (value_kind t) ≡ true
unfolding all same value_kind is code is_token
literal_token = agree (λ t. is_token (value_kind t)) (λ t. true) refl refl

tail : {text : List ℕ} {t : Tree} {ts : Forest} → Spelled text (grown t ts) → Spelled text ts
tail (smore h hs) = hs

within_node : {text : List ℕ} {k f : ℕ} {l : LOC} {w : List ℕ} {c : List Lexeme} {ts us : Forest} → Spelled text (grown (node k f l w c ts) us) → Spelled text ts
within_node (smore (spelled e h) hs) = h

module _ (text nodes : List ℕ) where
  -- ---- a member's number

  value_shown : {n p : ℕ} {us : Forest} (x : Lexeme) → Shown nodes n p (grown (literal_tree x) us) → Spelled text (grown (literal_tree x) us) → value_at text nodes n ≡ fitted (value x)
  unfolding literal_tree value_at value bytes
  value_shown (lexeme t w l) s o =
      rw (leaf_kind (value_kind t) (lexeme t w l) s, hex_kind t, leaf_part (value_kind t) text (lexeme t w l) (literal_token t) o s) (by (is t T.HexLiteral))
    where
      by : (b : Bool) → cond b (fitted (hex w)) (fitted (integer w)) ≡ fitted (cond b (hex w) (integer w))
      by true = refl
      by false = refl

  literal_kind : {n p : ℕ} {us : Forest} (x : Lexeme) → Shown nodes n p (grown (literal_tree x) us) → eqb (kind_in nodes n) K.Annotations ≡ false
  unfolding literal_tree
  literal_kind (lexeme t w l) s = rw (leaf_kind (value_kind t) (lexeme t w l) s) (no_annotations_law t)

  literal_size : (x : Lexeme) → size (literal_tree x) ≡ 1
  unfolding literal_tree
  literal_size (lexeme t w l) = leaf_size (value_kind t) (lexeme t w l)

  number_shown : {n p : ℕ} {us : Forest} (l : LOC) (c : List Lexeme) (x : Lexeme) (v : Option Lexeme) (a : Annotations) (z : ℤ) →
      Shown nodes n p (grown (member_tree (member l c x v a)) us) → Spelled text (grown (member_tree (member l c x v a)) us) →
      member_at text nodes n (fitted z) ≡ fitted (number z v)
  unfolding member_tree name_tree member_at number size perhaps annotations_tree inner
  number_shown {n = n} l c x v a z s o =
      rw (bump_is s, leaf_past K.Name x (children s), past_is s, leaf_size K.Name x) (by v a (leaf_beside K.Name x (children s)) (tail (within_node o)))
    where
      by : (v : Option Lexeme) (a : Annotations) → Shown nodes (suc n + 1) n (perhaps literal_tree v (annotations_tree a bare)) →
          Spelled text (perhaps literal_tree v (annotations_tree a bare)) →
          cond (ltb (suc n + 1) (n + suc (1 + sizes (perhaps literal_tree v (annotations_tree a bare)))))
          (cond (eqb (kind_in nodes (suc n + 1)) K.Annotations) (fitted z) (value_at text nodes (suc n + 1))) (fitted z) ≡ fitted (number z v)
      by (Some t) a r q =
          let h : suc n + 1 < n + suc (1 + (size (literal_tree t) + sizes (annotations_tree a bare))) = omega (arith, literal_size t) in
          rw (lt-ltb _ _ h, literal_kind t r) (value_shown t r q)
      by None absent r q = rw (le-ltb (suc n + 1) (n + suc (1 + 0)) (omega arith))
      by None (annotations m xs) r q =
          let e = size (inner K.Annotations m (each annotation_tree xs bare)) in
          rw (lt-ltb (suc n + 1) (n + suc (1 + (e + 0))) (omega arith), kind_is r)

  -- ---- the children of an enum

  -- one that is no member is passed
  child_passed : {n p k f : ℕ} {l : LOC} {w : List ℕ} {c : List Lexeme} {ts us : Forest} → Shown nodes n p (grown (node k f l w c ts) us) →
      eqb k K.EnumMember ≡ false → (x : Walk) (list : List ℤ) → child_in text nodes n (at x list) ≡ on (at x list)
  unfolding child_in
  child_passed s h x list = rw (kind_is s, h)

  name_passed : {n p : ℕ} {us : Forest} (y : Lexeme) → Shown nodes n p (grown (name_tree y) us) → (x : Walk) (list : List ℤ) → child_in text nodes n (at x list) ≡ on (at x list)
  unfolding name_tree leaf
  name_passed (lexeme t w l) s x list = child_passed s refl x list

  -- a member is put
  member_put : {n p : ℕ} {us : Forest} (l : LOC) (c : List Lexeme) (y : Lexeme) (v : Option Lexeme) (a : Annotations) (z : ℤ) →
      Shown nodes n p (grown (member_tree (member l c y v a)) us) → Spelled text (grown (member_tree (member l c y v a)) us) →
      (x : Walk) (list : List ℤ) → x.ahead ≡ fitted z → child_in text nodes n (at x list) ≡ put_in nodes n (fitted (number z v)) (at x list)
  unfolding child_in member_tree
  member_put {n = n} l c y v a z s o x list e = rw (kind_is s) (ap (λ (u : Option ℤ). put_in nodes n u (at x list)) (ap (member_at text nodes n) e ∙ number_shown l c y v a z s o))

  -- 28 at its name
  member_off : {n p : ℕ} {us : Forest} (l : LOC) (c : List Lexeme) (y : Lexeme) (v : Option Lexeme) (a : Annotations) →
      Shown nodes n p (grown (member_tree (member l c y v a)) us) → (x : Walk) (list : List ℤ) →
      finished (put_in nodes n None (at x list)) ≡ refusing EnumNumberOutside (place y).start.index ((place y).end.index - (place y).start.index) list
  unfolding member_tree name_tree put_in finished
  member_off l c y v a s x list = rw (bump_is s, leaf_start K.Name y (children s), leaf_end K.Name y (children s))

  bumped : (m : ℕ) → m < no_parent → bump m ≡ m + 1
  unfolding bump no_parent
  bumped m h = rw (lt-ltb m largest h)

  -- a member, before what R is
  member_means : {n p : ℕ} {us : Forest} (l : LOC) (c : List Lexeme) (y : Lexeme) (v : Option Lexeme) (a : Annotations) →
      Shown nodes n p (grown (member_tree (member l c y v a)) us) → (num : ℤ) (x : Walk) (list : List ℤ) → x.members ≤ n → (r : W) (R : Numbers) →
      ((w : Walk) (u : List ℤ) → w.ahead ≡ fitted (suc_ℤ num) → w.members ≤ n + 1 → finished (r (at w u)) ≡ ended R w.members u) → (b : Bool) →
      finished (then (put_in nodes n (cond b (Some num) None) (at x list)) r) ≡ ended (cond b (before num R) (outside y)) x.members list
  unfolding then put_in ended member_tree
  member_means {n = n} l c y v a s num x list h r R g true =
      let m = x.members in
      let f : bump m ≡ m + 1 = bumped m (omega (arith, below s)) in
      g (record { ahead = fitted (suc_ℤ num); members = bump m }) (set list m num) refl (omega (arith, f))
      ∙ ap (λ (i : ℕ). ended R i (set list m num)) f
      ∙ ended_before num R m list
  member_means l c y v a s num x list h r R g false = member_off l c y v a s x list

  members_mean : {n p : ℕ} (ms : List EnumMember) (a : Annotations) → Shown nodes n p (each member_tree ms (annotations_tree a bare)) →
      Spelled text (each member_tree ms (annotations_tree a bare)) → (z : ℤ) (x : Walk) (list : List ℤ) → x.ahead ≡ fitted z → x.members ≤ n →
      (end : ℕ) → end ≡ n + sizes (each member_tree ms (annotations_tree a bare)) → (k : W) (others : Numbers) →
      ((y : Walk) (l : List ℤ) → y.members ≤ end → finished (k (at y l)) ≡ ended others y.members l) →
      finished (then (each_in (child_in text nodes) (roots (each member_tree ms (annotations_tree a bare)) n) (at x list)) k) ≡ ended (of_members z ms others) x.members list
  unfolding each annotations_tree inner roots each_in then of_members size member_tree put_in ended fitted
  members_mean [] absent s o z x list e h end q k others g = g x list (omega arith)
  members_mean [] (annotations m xs) s o z x list e h end q k others g = rw (child_passed s refl x list) (g x list (omega arith))
  members_mean {n = n} (member l c y v b ∷ ms) a s o z x list e h end q k others g =
      rw (member_put l c y v b z s o x list e, then_then (put_in nodes n (fitted (number z v)) (at x list)) (each_in (child_in text nodes) (roots (each member_tree ms (annotations_tree a bare)) (n + size (member_tree (member l c y v b))))) k)
      (member_means l c y v b s (number z v) x list (omega arith)
      (λ w. then (each_in (child_in text nodes) (roots (each member_tree ms (annotations_tree a bare)) (n + size (member_tree (member l c y v b)))) w) k)
      (of_members (suc_ℤ (number z v)) ms others)
      (λ w u f i. members_mean {n = n + size (member_tree (member l c y v b))} ms a (beside s) (tail o) (suc_ℤ (number z v)) w u f (omega arith) end (omega arith) k others g)
      (i32 (number z v)))

  name_size : (y : Lexeme) → size (name_tree y) ≡ 1
  unfolding name_tree
  name_size y = leaf_size K.Name y

  name_beside : {n p : ℕ} {us : Forest} (y : Lexeme) → Shown nodes n p (grown (name_tree y) us) → Shown nodes (n + 1) p us
  unfolding name_tree
  name_beside y s = leaf_beside K.Name y s

  zero_fits : Some (pos 0) ≡ fitted (pos 0)
  unfolding fitted i32
  zero_fits = refl

  -- ---- the definitions

  -- one that is no enum is passed
  root_passed : {n p k f : ℕ} {l : LOC} {w : List ℕ} {c : List Lexeme} {ts us : Forest} → Shown nodes n p (grown (node k f l w c ts) us) →
      eqb k K.Enum ≡ false → (x : Walk) (list : List ℤ) → definition_in text nodes n (at x list) ≡ on (at x list)
  unfolding definition_in
  root_passed s h x list = rw (kind_is s, h)

  -- an enum, before what follows it
  enum_means : {n p : ℕ} {us : Forest} (l : LOC) (c : List Lexeme) (y : Lexeme) (ms : List EnumMember) (a : Annotations) →
      Shown nodes n p (grown (definition_tree (Enum l c y ms a)) us) → Spelled text (grown (definition_tree (Enum l c y ms a)) us) →
      (x : Walk) (list : List ℤ) → x.members ≤ n → (k : W) (others : Numbers) →
      ((w : Walk) (u : List ℤ) → w.members ≤ n + size (definition_tree (Enum l c y ms a)) → finished (k (at w u)) ≡ ended others w.members u) →
      finished (then (definition_in text nodes n (at x list)) k) ≡ ended (of_members (pos 0) ms others) x.members list
  unfolding definition_tree definition_in members_in roots each_in then size
  enum_means {n = n} l c y ms a s o x list h k others g =
      let w : Walk = record { ahead = Some (pos 0); members = x.members } in
      let i = children s in
      rw (kind_is s, children_are s, name_passed y i w list, name_size y)
      (members_mean ms a (name_beside y i) (tail (within_node o)) (pos 0) w list zero_fits (omega arith) (n + suc (1 + sizes (each member_tree ms (annotations_tree a bare)))) (omega arith) k others
      (λ u l e. g u l (omega (arith, name_size y))))

  roots_mean : (ds : List Definition) {n p : ℕ} → Shown nodes n p (each definition_tree ds bare) → Spelled text (each definition_tree ds bare) →
      (x : Walk) (list : List ℤ) → x.members ≤ n →
      finished (each_in (definition_in text nodes) (roots (each definition_tree ds bare) n) (at x list)) ≡ ended (member_numbers ds) x.members list
  unfolding each definition_tree single both roots each_in then member_numbers size structure_kind
  roots_mean [] s o x list h = ended_none x list
  roots_mean (Include l c y ∷ ds) s o x list h = rw (root_passed s refl x list) (roots_mean ds (beside s) (tail o) x list (omega arith))
  roots_mean (CppInclude l c y ∷ ds) s o x list h = rw (root_passed s refl x list) (roots_mean ds (beside s) (tail o) x list (omega arith))
  roots_mean (Namespace l c z y ∷ ds) s o x list h = rw (root_passed s refl x list) (roots_mean ds (beside s) (tail o) x list (omega arith))
  roots_mean (Const l c t y v ∷ ds) s o x list h = rw (root_passed s refl x list) (roots_mean ds (beside s) (tail o) x list (omega arith))
  roots_mean (Typedef l c t y ∷ ds) s o x list h = rw (root_passed s refl x list) (roots_mean ds (beside s) (tail o) x list (omega arith))
  roots_mean (Enum l c y ms a ∷ ds) {n = n} s o x list h =
      enum_means l c y ms a s o x list h (each_in (definition_in text nodes) (roots (each definition_tree ds bare) (n + size (definition_tree (Enum l c y ms a)))))
      (member_numbers ds) (λ w u i. roots_mean ds (beside s) (tail o) w u i)
  roots_mean (structure Struct l c y fs a ∷ ds) s o x list h = rw (root_passed s refl x list) (roots_mean ds (beside s) (tail o) x list (omega arith))
  roots_mean (structure Union l c y fs a ∷ ds) s o x list h = rw (root_passed s refl x list) (roots_mean ds (beside s) (tail o) x list (omega arith))
  roots_mean (structure Exception l c y fs a ∷ ds) s o x list h = rw (root_passed s refl x list) (roots_mean ds (beside s) (tail o) x list (omega arith))
  roots_mean (Service l c y z fs a ∷ ds) s o x list h = rw (root_passed s refl x list) (roots_mean ds (beside s) (tail o) x list (omega arith))

  pub walk_means : (count : ℕ) (ds : List Definition) (list : List ℤ) → File text nodes count ds →
      finished (definitions_in text nodes count list) ≡ listing (member_numbers ds) list
  unfolding definitions_in forest
  walk_means count ds list f =
      let e : count ≡ 0 + sizes (forest ds) = omega (arith, f.counts) in
      rw (e, roots_are (forest ds) f.shown)
      (roots_mean ds f.shown f.spells (record { ahead = Some (pos 0); members = 0 }) list (omega arith) ∙ ended_start (member_numbers ds) list)
