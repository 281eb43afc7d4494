-- From definitions in order to the rows of the node table.
--     chain_row     each row is a definition's or lies inside one
--     chain_order   two definitions' rows are in text order
--     chain_has     each definition has its row
use mathlib.Core.Path.{◌≡◌, refl, sym, ap, ◌∙◌}
use mathlib.Core.Bool.{Bool, true, false, false≢true}
use mathlib.Core.List.{List, [], ◌∷◌, ◌++◌, append_assoc, Memᴰ}
use Prim.Native.Nat.{ℕ, suc, ◌+◌, ◌<◌, ◌≤◌}
use native.Mathlib.Omega.{arith}
use borrow.Author.Tests.{eq-eqb, ne_eqb, ltb-true, ltb-false}
use lib.Dec.{eqb, ltb}
use lib.ListN.{length, get_or, drop, length-drop}
use lib.Seq.{get_or-drop, drop-drop, drop_at}
use Rattle.token.specs.Code.{among}
use Rattle.lexer.specs.declared.location.LOC.{LOC}
use Rattle.lexer.specs.declared.location.Span.{Span}
use Rattle.lexer.specs.Location.{opening}
use Rattle.lexer.specs.Tokens.{Lexeme, tokens}
use Rattle.ast.specs.Kind as K
use Rattle.ast.specs.Lists.{All, anil, acons}
use Rattle.ast.specs.Ast as A
use Rattle.ast.specs.Ast.{Struct, Union, Exception}
use Rattle.ast.specs.Tree.{Tree, node, Forest, bare, grown, each, structure_kind, definition_tree}
use Rattle.ast.specs.Records.{no_parent, row, node_row, size, sizes, rows, rows_of}
use Rattle.ast.proofs.Counts.{rows_size}
use Rattle.parser.specs.Steps.{kind, place}
use Rattle.parser.specs.Order.{token_start, token_end}
use Rattle.parser.specs.Refusals.{last_place}
use Rattle.parser.proofs.Each.{Kinded, EachDefinition}
use Rattle.parser.proofs.Walk.{structure_keyword, keyword_of, place_of, Root, Chain, no_definition, one_definition}
use Rattle.ranges.specs.Ranges.{row_at, kind_of, parent_of, start_of, end_of, starts_at, ends_at, numbers, keywords, name_kinds, Definition, Name}
use Rattle.ranges.proofs.Held.{Held}
use Rattle.ranges.proofs.Names.{Ranged, ranged, Fits, fits, FitsUnder, under_none, under_one, Below, below, definition_fits}

-- ---- lists and numbers

at_drop : {A : Type 0} (xs : List A) (m : ℕ) (y : A) (ys : List A) (d : A) → drop m xs ≡ y ∷ ys → get_or xs m d ≡ y
at_drop xs m y ys d e =
    let z : m + 0 ≡ m = omega arith in
    rw z at (sym (get_or-drop m xs 0 d) ∙ ap (λ (l : List _). get_or l 0 d) e)

next_drop : {A : Type 0} (xs : List A) (m : ℕ) (y : A) (ys : List A) → drop m xs ≡ y ∷ ys → drop (suc m) xs ≡ ys
next_drop xs m y ys e =
    let z : m + 1 ≡ suc m = omega arith in
    rw z at (sym (drop-drop 1 m xs) ∙ ap (λ (l : List _). drop 1 l) e)

far_drop : {A : Type 0} (xs : List A) (m k : ℕ) (us ys : List A) → length us ≡ k → drop m xs ≡ us ++ ys → drop (m + k) xs ≡ ys
far_drop xs m k us ys h e = sym (drop-drop k m xs) ∙ ap (λ (l : List _). drop k l) e ∙ drop_at us ys k h

below_drop : {A : Type 0} (xs : List A) (m : ℕ) (y : A) (ys : List A) → drop m xs ≡ y ∷ ys → m < length xs
below_drop xs m y ys e = omega (arith, length-drop m xs, ap length e)

split : {X : Type 0} (i a : ℕ) → (i < a → X) → (a ≤ i → X) → X
split {X} i a f g = go (ltb i a) refl
  where
    go : (b : Bool) → ltb i a ≡ b → X
    go true e = f (ltb-true i a e)
    go false e = g (ltb-false i a e)

size_some : (t : Tree) → 0 < size t
unfolding size
size_some (node k f l w c ts) = omega arith

-- where a tree's range ends
unfoldable pub finish : Tree → ℕ
finish (node k f l w c ts) = l.end.index

finish_is : (d : A.Definition) → finish (definition_tree d) ≡ (place_of d).end.index
unfolding finish definition_tree place_of
finish_is (A.Include l c n) = refl
finish_is (A.CppInclude l c n) = refl
finish_is (A.Namespace l c s n) = refl
finish_is (A.Const l c t n v) = refl
finish_is (A.Typedef l c t n) = refl
finish_is (A.Enum l c n xs a) = refl
finish_is (A.structure s l c n fs a) = refl
finish_is (A.Service l c n x fs a) = refl

module _ (text : List ℕ) (short : length text ≤ 65536) (rs : List (List ℕ)) where
  abbrev Holds : Lexeme → Type 0
  Holds = Held (tokens text opening)

  -- ---- trees

  -- a definition's tree, from a on: from its keyword to an end behind that one's, inside the text, the names in it fitting
  pub data Rooted (a : ℕ) : Tree → Type 0 where
    rooted : {k f : ℕ} {l : LOC} {w : List ℕ} {c : List Lexeme} {ts : Forest} (t : Lexeme) → Kinded Holds (keywords k) t → a ≤ token_start t → token_start t < token_end t →
        (place t).start ≡ l.start → token_end t ≤ l.end.index → l.end.index ≤ length text → FitsUnder Holds k true ts → Rooted a (node k f l w c ts)

  rooted_of : {a : ℕ} (d : A.Definition) → Root (length text) short Holds (last_place text) a d → Below Holds (definition_tree d) → Rooted a (definition_tree d)
  unfolding definition_tree place_of keyword_of structure_keyword structure_kind keywords
  rooted_of (A.Include l c n) r (below x) = rooted r.keyword r.kinded r.from r.some r.starts r.ends r.within x
  rooted_of (A.CppInclude l c n) r (below x) = rooted r.keyword r.kinded r.from r.some r.starts r.ends r.within x
  rooted_of (A.Namespace l c s n) r (below x) = rooted r.keyword r.kinded r.from r.some r.starts r.ends r.within x
  rooted_of (A.Const l c t n v) r (below x) = rooted r.keyword r.kinded r.from r.some r.starts r.ends r.within x
  rooted_of (A.Typedef l c t n) r (below x) = rooted r.keyword r.kinded r.from r.some r.starts r.ends r.within x
  rooted_of (A.Enum l c n xs a) r (below x) = rooted r.keyword r.kinded r.from r.some r.starts r.ends r.within x
  rooted_of (A.structure Struct l c n fs a) r (below x) = rooted r.keyword r.kinded r.from r.some r.starts r.ends r.within x
  rooted_of (A.structure Union l c n fs a) r (below x) = rooted r.keyword r.kinded r.from r.some r.starts r.ends r.within x
  rooted_of (A.structure Exception l c n fs a) r (below x) = rooted r.keyword r.kinded r.from r.some r.starts r.ends r.within x
  rooted_of (A.Service l c n x fs a) r (below y) = rooted r.keyword r.kinded r.from r.some r.starts r.ends r.within y

  -- definitions from a on, one behind the other
  pub data Trees : ℕ → List A.Definition → Type 0 where
    no_tree : {a : ℕ} → Trees a []
    one_tree : {a : ℕ} {d : A.Definition} {ds : List A.Definition} → Rooted a (definition_tree d) → Trees (finish (definition_tree d)) ds → Trees a (d ∷ ds)

  pub trees_of : {a : ℕ} {ds : List A.Definition} → Chain (length text) short Holds (last_place text) a ds → All (EachDefinition Holds) ds → Trees a ds
  trees_of no_definition anil = no_tree
  trees_of (one_definition {d = d} {ds = ds} r c) (acons h hs) =
      let ts : Trees (finish (definition_tree d)) ds = rw (finish_is d) (trees_of c hs) in
      one_tree (rooted_of d r (definition_fits Holds h)) ts

  -- ---- inside a definition

  -- the row i: its parent stands before it, and if it is a name's it is as it must be
  pub record Child (i : ℕ) : Type 0 where
    pub below : parent_of (row_at rs i) < i
    pub named : kind_of (row_at rs i) ≡ K.Name → Name text rs i

  name_here : (k p f m x : ℕ) (l : LOC) → row_at rs m ≡ node_row k p f l x → p < m →
      Ranged Holds (name_kinds (kind_of (row_at rs p)) (eqb m (suc p))) l → Name text rs m
  unfolding row node_row parent_of start_of end_of starts_at ends_at numbers token_start token_end
  name_here k p f m x l e h (ranged {t = t} nm) = record {
    below = rw e h;
    name = t;
    token = nm.holds.token;
    only = rw e nm.holds.only;
    kinds = rw e nm.kinds;
    starts = rw e;
    ends = rw e;
  }

  child_here : (k p f m x : ℕ) (l : LOC) → row_at rs m ≡ node_row k p f l x → p < m →
      (k ≡ K.Name → Ranged Holds (name_kinds (kind_of (row_at rs p)) (eqb m (suc p))) l) → Child m
  unfolding row node_row parent_of kind_of
  child_here k p f m x l e h y = record { below = rw e h; named = λ g. name_here k p f m x l e h (y (rw e at g)) }

  mutual
    unfolding rows size row_at row node_row kind_of

    child : (t : Tree) (p m : ℕ) (rest : List (List ℕ)) → drop m rs ≡ rows t p m ++ rest → p < m →
        Fits Holds (name_kinds (kind_of (row_at rs p)) (eqb m (suc p))) t → (i : ℕ) → m ≤ i → i < m + size t → Child i
    child (node k f l w c ts) p m rest e h (fits x y) i lo hi =
        let z = m + suc (sizes ts) in
        let r : row_at rs m ≡ node_row k p f l z = at_drop rs m (node_row k p f l z) _ [] e in
        split i (suc m) (λ g. let q : m ≡ i = omega arith in rw (← q) (child_here k p f m z l r h x))
        (λ g. children ts m (suc m) rest k true (next_drop rs m _ _ e) (omega arith) (rw r refl) (eq-eqb (suc m) (suc m) refl) y i g (omega arith))

    children : (ts : Forest) (p m : ℕ) (rest : List (List ℕ)) (k : ℕ) (b : Bool) → drop m rs ≡ rows_of ts p m ++ rest → p < m →
        kind_of (row_at rs p) ≡ k → eqb m (suc p) ≡ b → FitsUnder Holds k b ts → (i : ℕ) → m ≤ i → i < m + sizes ts → Child i
    children bare p m rest k b e h q r under_none i lo hi = absurd (omega arith)
    children (grown t ts) p m rest k b e h q r (under_one x y) i lo hi =
        let d : drop m rs ≡ rows t p m ++ (rows_of ts p (m + size t) ++ rest) = e ∙ append_assoc (rows t p m) _ rest in
        let z = size_some t in
        split i (m + size t) (λ g. child t p m _ d h (rw (q, r) x) i lo g)
        (λ g. children ts p (m + size t) rest k false (far_drop rs m (size t) (rows t p m) _ (rows_size t p m) d) (omega arith) q
        (ne_eqb (m + size t) (suc p) (λ u. omega (arith, u))) y i g (omega arith))

  -- ---- definitions

  -- the row i is a definition's, from a on
  pub record Top (a i : ℕ) : Type 0 where
    pub definition : Definition text (row_at rs i)
    pub from : a ≤ start_of (row_at rs i)
    pub unnamed : kind_of (row_at rs i) ≡ K.Name → ⊥

  no_keyword_law : (t : Lexeme) (k : ℕ) → among (kind t) (keywords k) ≡ true → k ≡ K.Name → ⊥
  unfolding keywords among
  no_keyword_law t k h e = false≢true (rw e at h)

  top : {a : ℕ} (t : Tree) (m : ℕ) (rest : List (List ℕ)) → drop m rs ≡ rows t no_parent m ++ rest → Rooted a t → Top a m
  unfolding rows size row_at row node_row start_of end_of starts_at numbers kind_of token_start token_end
  top (node k f l w c ts) m rest e (rooted t hk b o s x y z) =
      let r : row_at rs m ≡ node_row k no_parent f l (m + suc (sizes ts)) = at_drop rs m (node_row k no_parent f l (m + suc (sizes ts))) _ [] e in
      let i : (place t).start.index ≡ l.start.index = ap (λ (x : Span). x.index) s in
      record {
        definition = record {
          nonempty = rw r (omega (arith, i, o));
          inside = rw r y;
          keyword = t;
          token = hk.holds.token;
          kinds = rw r hk.kinds;
          starts = rw (r, s);
        };
        from = rw r (omega (arith, i, b));
        unnamed = λ g. no_keyword_law t k hk.kinds (rw r at g);
      }

  ends : {a : ℕ} (t : Tree) (m : ℕ) (rest : List (List ℕ)) → drop m rs ≡ rows t no_parent m ++ rest → Rooted a t → end_of (row_at rs m) ≡ finish t
  unfolding rows size row_at row node_row end_of finish
  ends (node k f l w c ts) m rest e q =
      let r : row_at rs m ≡ node_row k no_parent f l (m + suc (sizes ts)) = at_drop rs m (node_row k no_parent f l (m + suc (sizes ts))) _ [] e in rw r

  later : {a : ℕ} (t : Tree) → Rooted a t → a ≤ finish t
  unfolding finish
  later (node k f l w c ts) (rooted t hk b o s x y z) = omega arith

  under : {a : ℕ} (t : Tree) (m : ℕ) (rest : List (List ℕ)) → drop m rs ≡ rows t no_parent m ++ rest → Rooted a t → (i : ℕ) → m < i → i < m + size t → Child i
  unfolding rows size row_at row node_row kind_of
  under (node k f l w c ts) m rest e (rooted t hk b o s x y z) i lo hi =
      let r : row_at rs m ≡ node_row k no_parent f l (m + suc (sizes ts)) = at_drop rs m (node_row k no_parent f l (m + suc (sizes ts))) _ [] e in
      children ts m (suc m) rest k true (next_drop rs m _ _ e) (omega arith) (rw r refl) (eq-eqb (suc m) (suc m) refl) z i lo (omega arith)

  pub data Row (a i : ℕ) : Type 0 where
    is_top : Top a i → Row a i
    is_child : Child i → Row a i

  lower_row : {a b i : ℕ} → a ≤ b → Row b i → Row a i
  lower_row h (is_top t) = is_top (record { definition = t.definition; from = omega (arith, t.from); unnamed = t.unnamed })
  lower_row h (is_child c) = is_child c

  -- the forest of definitions before nothing
  abbrev forest_of : List A.Definition → Forest
  forest_of ds = each definition_tree ds bare

  module _ (t : Tree) (ts : Forest) (m : ℕ) (rest : List (List ℕ)) (e : drop m rs ≡ rows_of (grown t ts) no_parent m ++ rest) where
    first : drop m rs ≡ rows t no_parent m ++ (rows_of ts no_parent (m + size t) ++ rest)
    unfolding rows
    first = e ∙ append_assoc (rows t no_parent m) _ rest

    others : drop (m + size t) rs ≡ rows_of ts no_parent (m + size t) ++ rest
    others = far_drop rs m (size t) (rows t no_parent m) _ (rows_size t no_parent m) first

  pub chain_row : {a : ℕ} {ds : List A.Definition} (m : ℕ) (rest : List (List ℕ)) → Trees a ds → drop m rs ≡ rows_of (forest_of ds) no_parent m ++ rest →
      (i : ℕ) → m ≤ i → i < m + sizes (forest_of ds) → Row a i
  unfolding size each
  chain_row m rest no_tree e i lo hi = absurd (omega arith)
  chain_row m rest (one_tree {d = d} {ds = ds} h hs) e i lo hi =
      let t = definition_tree d in
      let f = first t (forest_of ds) m rest e in
      split i (m + size t)
      (λ g. split i (suc m) (λ k. let z : m ≡ i = omega arith in rw (← z) (is_top (top t m _ f h))) (λ k. is_child (under t m _ f h i k g)))
      (λ g. lower_row (later t h) (chain_row (m + size t) rest hs (others t (forest_of ds) m rest e) i g (omega arith)))

  -- a row whose parent is none is no child
  not_child : {i : ℕ} → i ≤ no_parent → parent_of (row_at rs i) ≡ no_parent → Child i → ⊥
  not_child h e c = omega (arith, c.below)

  pub from_row : {a i : ℕ} → i ≤ no_parent → parent_of (row_at rs i) ≡ no_parent → Row a i → Top a i
  from_row h e (is_top t) = t
  from_row h e (is_child c) = absurd (not_child h e c)

  pub chain_order : {a : ℕ} {ds : List A.Definition} (m : ℕ) (rest : List (List ℕ)) → Trees a ds → drop m rs ≡ rows_of (forest_of ds) no_parent m ++ rest →
      (i j : ℕ) → m ≤ i → i < j → j < m + sizes (forest_of ds) → j ≤ no_parent → parent_of (row_at rs i) ≡ no_parent → parent_of (row_at rs j) ≡ no_parent →
      end_of (row_at rs i) ≤ start_of (row_at rs j)
  unfolding size each
  chain_order m rest no_tree e i j lo lt hi b p q = absurd (omega arith)
  chain_order m rest (one_tree {d = d} {ds = ds} h hs) e i j lo lt hi b p q =
      let t = definition_tree d in
      let f = first t (forest_of ds) m rest e in
      let o = others t (forest_of ds) m rest e in
      split i (m + size t)
      (λ g. split i (suc m)
      (λ k. split j (m + size t) (λ y. absurd (not_child b q (under t m _ f h j (omega arith) y)))
      (λ y.
      let x = from_row b q (chain_row (m + size t) rest hs o j y (omega arith)) in
      let z : m ≡ i = omega arith in
      let u : end_of (row_at rs i) ≡ finish t = rw z at (ends t m _ f h) in
      omega (arith, u, x.from)))
      (λ k. absurd (not_child (omega arith) p (under t m _ f h i k g))))
      (λ g. chain_order (m + size t) rest hs o i j g lt (omega arith) b p q)

  -- the row of a definition
  pub record RowOf (d : A.Definition) : Type 0 where
    pub number : ℕ
    pub there : number < length rs
    pub parent : parent_of (row_at rs number) ≡ no_parent
    pub start : start_of (row_at rs number) ≡ (place_of d).start.index
    pub end : end_of (row_at rs number) ≡ (place_of d).end.index

  row_here : (k f m : ℕ) (l : LOC) (w : List ℕ) (c : List Lexeme) (ts : Forest) (rest : List (List ℕ)) (d : A.Definition) → place_of d ≡ l →
      drop m rs ≡ rows (node k f l w c ts) no_parent m ++ rest → RowOf d
  unfolding rows size row_at row node_row start_of end_of parent_of
  row_here k f m l w c ts rest d p e =
      let r : row_at rs m ≡ node_row k no_parent f l (m + suc (sizes ts)) = at_drop rs m (node_row k no_parent f l (m + suc (sizes ts))) _ [] e in
      record { number = m; there = below_drop rs m _ _ e; parent = rw r; start = rw (r, p); end = rw (r, p) }

  row_at_law : (d : A.Definition) (m : ℕ) (rest : List (List ℕ)) → drop m rs ≡ rows (definition_tree d) no_parent m ++ rest → RowOf d
  unfolding definition_tree place_of
  row_at_law (A.Include l c n) m rest e = row_here _ _ m l _ _ _ rest (A.Include l c n) refl e
  row_at_law (A.CppInclude l c n) m rest e = row_here _ _ m l _ _ _ rest (A.CppInclude l c n) refl e
  row_at_law (A.Namespace l c s n) m rest e = row_here _ _ m l _ _ _ rest (A.Namespace l c s n) refl e
  row_at_law (A.Const l c t n v) m rest e = row_here _ _ m l _ _ _ rest (A.Const l c t n v) refl e
  row_at_law (A.Typedef l c t n) m rest e = row_here _ _ m l _ _ _ rest (A.Typedef l c t n) refl e
  row_at_law (A.Enum l c n xs a) m rest e = row_here _ _ m l _ _ _ rest (A.Enum l c n xs a) refl e
  row_at_law (A.structure s l c n fs a) m rest e = row_here _ _ m l _ _ _ rest (A.structure s l c n fs a) refl e
  row_at_law (A.Service l c n x fs a) m rest e = row_here _ _ m l _ _ _ rest (A.Service l c n x fs a) refl e

  pub chain_has : {d : A.Definition} {ds : List A.Definition} (m : ℕ) (rest : List (List ℕ)) → drop m rs ≡ rows_of (forest_of ds) no_parent m ++ rest → Memᴰ d ds → RowOf d
  unfolding each
  chain_has m rest e (Memᴰ.head {x = x} {xs = es} p) = rw p (row_at_law x m _ (first (definition_tree x) (forest_of es) m rest e))
  chain_has m rest e (Memᴰ.tail {x = c} {xs = ds} h) =
      chain_has (m + size (definition_tree c)) rest (others (definition_tree c) (forest_of ds) m rest e) h
