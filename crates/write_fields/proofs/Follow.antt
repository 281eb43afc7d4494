-- What the rows left begin with, and what the printer's tests then say.
--     Head, After, Not         the first node row left, if any; it does not stand below node n; it is not of kind i
--     Late                     the first comment left, if any, belongs to node m or a later one
--     after_forest, late_tree, late_forest   of the rows of trees before others
--     not_kind, not_parent, not_below, not_noted   the tests
--     under_long, unders_long  how many rows
use mathlib.Core.Path.{◌≡◌, refl, sym}
use mathlib.Core.Bool.{Bool, true, false, cond, false≢true}
use mathlib.Core.List.{List, [], ◌∷◌}
use Prim.Native.Nat.{ℕ, suc, ◌+◌, ◌≤◌, ◌<◌}
use native.Mathlib.Omega.{arith}
use lib.Dec.{eqb, ltb}
use lib.ListN.{length}
use borrow.Author.Tests.{ltb-true, eqb-true, lt-ltb, ne_eqb}
use Rattle.lexer.specs.declared.location.LOC.{LOC}
use Rattle.lexer.specs.Tokens.{Lexeme, lexeme}
use Rattle.ast.specs.Tree.{Tree, node, Forest, bare, grown}
use Rattle.ast.specs.Records.{comment_width, node_width, no_parent, row, node_row, size, sizes, comment_row}
use Rattle.writer.specs.Print.{Piece}
use Rattle.cursor.specs.declared.Cursor.{Cursor}
use Rattle.cursor.specs.Onto.{kind_at, parent_at, below}
use Rattle.write_fields.proofs.Ahead.{Rows, under, unders, owned_before, noted, noteds, Job, At, kind_is, parent_is, note_parent_is, no_kind, no_parent_law, no_note_parent}

-- kind, parent and flags of the first row left, if any
pub data Head (P : ℕ → ℕ → ℕ → Type 0) : Rows → Type 0 where
  none_left : Head P []
  first : (k q f : ℕ) (l : LOC) (e : ℕ) {R : Rows} → P k q f → Head P (node_row k q f l e ∷ R)

-- so where there is one
pub data Begins (P : ℕ → ℕ → ℕ → Type 0) : Rows → Type 0 where
  begins : (k q f : ℕ) (l : LOC) (e : ℕ) {R : Rows} → P k q f → Begins P (node_row k q f l e ∷ R)

pub weaker : {P Q : ℕ → ℕ → ℕ → Type 0} {R : Rows} → ((k q f : ℕ) → P k q f → Q k q f) → Head P R → Head Q R
weaker h none_left = none_left
weaker h (first k q f l _ x) = first k q f l _ (h k q f x)

abbrev pub After : ℕ → Rows → Type 0
After n = Head (λ k q f. below n q ≡ false)

abbrev pub Not : ℕ → Rows → Type 0
Not i = Head (λ k q f. eqb k i ≡ false)

pub data Late (m : ℕ) : Rows → Type 0 where
  no_note : Late m []
  note : (k q f : ℕ) (l : LOC) {C : Rows} → m ≤ q → Late m (row k q f l ∷ C)

-- ---- the parent of what follows

below_parent : (m q : ℕ) → q < m → below m q ≡ false
unfolding below
below_parent m q h = rw (lt-ltb q m h)

-- not below: an earlier node's child, or a definition
not_below_told : {X : Type 0} (n q : ℕ) → below n q ≡ false → (q < n → X) → (q ≡ 4294967295 → X) → X
unfolding below no_parent
not_below_told {X} n q e f g = go (ltb q n) refl (eqb q 4294967295) refl e
  where
    go : (a : Bool) → ltb q n ≡ a → (b : Bool) → eqb q 4294967295 ≡ b → cond a false (cond b false true) ≡ false → X
    go true h b i e = f (ltb-true q n h)
    go false h true i e = g (eqb-true q 4294967295 i)
    go false h false i e = absurd (false≢true (sym e))

below_none : (n : ℕ) → below n 4294967295 ≡ false
unfolding below no_parent
below_none n = go (ltb 4294967295 n)
  where
    go : (a : Bool) → cond a false false ≡ false
    go true = refl
    go false = refl

below_later : (n m k q f : ℕ) → n ≤ m → below n q ≡ false → below m q ≡ false
below_later n m k q f h e = not_below_told n q e (λ g. below_parent m q (omega (arith, g))) (λ g. rw g (below_none m))

pub after_later : (n m : ℕ) {R : Rows} → n ≤ m → After n R → After m R
after_later n m h a = weaker (λ k q f e. below_later n m k q f h e) a

-- the children of an earlier node, then what follows it
pub after_forest : (ts : Forest) (q m k : ℕ) (R : Rows) → q < m → After q R → After m (unders ts q k R)
unfolding unders under
after_forest bare q m k R h a = after_later q m (omega arith) a
after_forest (grown (node i f l w c us) ts) q m k R h a = first i q f l _ (below_parent m q h)

-- definitions
pub after_definition : (n k f : ℕ) (l : LOC) (e : ℕ) {R : Rows} → After n (node_row k no_parent f l e ∷ R)
unfolding no_parent
after_definition n k f l e = first k 4294967295 f l _ (below_none n)

-- ---- comments

pub late_later : (m n : ℕ) {C : Rows} → m ≤ n → Late n C → Late m C
late_later m n h no_note = no_note
late_later m n h (note k q f l g) = note k q f l (omega (arith, h, g))

late_owned : (n : ℕ) (c : List Lexeme) (C : Rows) → Late n C → Late n (owned_before n c C)
unfolding owned_before comment_row
late_owned n [] C h = h
late_owned n (lexeme t w l ∷ c) C h = note _ n 0 l (omega arith)

mutual
  unfolding noted noteds size sizes

  pub late_tree : (t : Tree) (n : ℕ) (C : Rows) → Late (n + size t) C → Late n (noted t n C)
  late_tree (node k f l w c ts) n C h =
      late_owned n c (noteds ts (suc n) C)
      (late_later n (suc n) (omega arith) (late_forest ts (suc n) C (late_later (suc n + sizes ts) (n + suc (sizes ts)) (omega arith) h)))

  pub late_forest : (ts : Forest) (n : ℕ) (C : Rows) → Late (n + sizes ts) C → Late n (noteds ts n C)
  late_forest bare n C h = late_later n (n + 0) (omega arith) h
  late_forest (grown t ts) n C h =
      late_tree t n (noteds ts (n + size t) C)
      (late_forest ts (n + size t) C (late_later (n + size t + sizes ts) (n + (size t + sizes ts)) (omega arith) h))

-- ---- how many

mutual
  unfolding under unders size sizes

  pub under_long : (t : Tree) (q n : ℕ) (R : Rows) → length (under t q n R) ≡ size t + length R
  under_long (node k f l w c ts) q n R = omega (arith, unders_long ts n (suc n) R)

  pub unders_long : (ts : Forest) (q n : ℕ) (R : Rows) → length (unders ts q n R) ≡ sizes ts + length R
  unders_long bare q n R = omega arith
  unders_long (grown t ts) q n R = omega (arith, under_long t q n (unders ts q (n + size t) R), unders_long ts q (n + size t) R)

-- ---- the tests

pub not_kind : (j : Job) {r : List Piece} {n : ℕ} {R C : Rows} {p : Cursor} {o : List ℕ} (i : ℕ) → 0 < i → Not i R → At j r n R C p o →
    eqb (kind_at j.nodes j.count p.node) i ≡ false
not_kind j i h none_left a = rw (no_kind j a) (ne_eqb 0 i (λ e. omega (arith, e, h)))
not_kind j i h (first k q f l _ x) a = rw (kind_is j k q f l _ a) x

pub not_below : (j : Job) {r : List Piece} {n : ℕ} {R C : Rows} {p : Cursor} {o : List ℕ} (m : ℕ) → After m R → At j r n R C p o →
    below m (parent_at node_width j.nodes j.count p.node) ≡ false
not_below j m none_left a = rw (no_parent_law j a) (below_none m)
not_below j m (first k q f l _ x) a = rw (parent_is j k q f l _ a) x

pub not_parent : (j : Job) {r : List Piece} {n : ℕ} {R C : Rows} {p : Cursor} {o : List ℕ} (m : ℕ) → m < 4294967295 → After m R → At j r n R C p o →
    eqb (parent_at node_width j.nodes j.count p.node) m ≡ false
not_parent j m h b a =
    not_below_told m _ (not_below j m b a) (λ g. ne_eqb _ m (λ e. omega (arith, e, g))) (λ g. ne_eqb _ m (λ e. omega (arith, e, g, h)))

pub not_noted : (j : Job) {r : List Piece} {n : ℕ} {R C : Rows} {p : Cursor} {o : List ℕ} (m : ℕ) → m < 4294967295 → Late (suc m) C → At j r n R C p o →
    eqb (parent_at comment_width j.comments j.total p.comment) m ≡ false
not_noted j m h no_note a = rw (no_note_parent j a) (ne_eqb 4294967295 m (λ e. omega (arith, e, h)))
not_noted j m h (note k q f l x) a = rw (note_parent_is j k q f l a) (ne_eqb q m (λ e. omega (arith, e, x)))
