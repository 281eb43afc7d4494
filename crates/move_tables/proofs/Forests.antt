-- THE RECORDS OF ANY FOREST MOVE, if there are at most 65,536 of them: to nine numbers each, and these back to the ten.
--     forest_narrows, forest_widens            of any forest
--     definitions_narrow, definitions_widen    of a file's definitions
use mathlib.Core.Path.{◌≡◌, refl, ap, ◌∙◌}
use mathlib.Core.Bool.{true, false}
use mathlib.Core.List.{List, [], ◌∷◌, ◌++◌, append_assoc, append-nil}
use mathlib.Core.Logic.{◌⊎◌, ⊎_elim, inl, inr}
use Rattle.std.specs.Prelude.{None}
use Rattle.std.proofs.Math.Bool.{and-false}
use Prim.Native.Nat.{ℕ, suc, ◌+◌, ◌≤◌, ◌<◌}
use native.Mathlib.Omega.{arith}
use borrow.Author.Tests.{eq-eqb, ne_eqb, le-leb, lt-leb, lt-ltb, le-ltb}
use lib.Dec.{leb}
use lib.ListN.{length}
use Rattle.ast.specs.Ast.{Definition}
use Rattle.ast.specs.Tree.{Tree, node, Forest, bare, grown}
use Rattle.lexer.specs.Outcome.{accepted}
use Rattle.ast.specs.Records.{no_parent, row, node_row, size, sizes, rows, rows_of, forest, node_rows, concat}
use Rattle.ast.proofs.Counts.{rows_sizes, node_rows_size, forest_wide}
use Rattle.move_tables.specs.Moves.{most_records, parents, among, from, bad_parent, inside, past, bad_tenth, narrowed, first_bad_parent, widening, narrowing}
use Rattle.move_tables.proofs.Lists.{node_width_law, concat_records}
use Rattle.move_tables.proofs.Back.{narrowing_of, narrowing_undone}

parents_append : (a b : List (List ℕ)) → parents (a ++ b) ≡ parents a ++ parents b
unfolding parents
parents_append [] b = refl
parents_append (r ∷ a) b = rw (parents_append a b)

-- p is no record from m on
abbrev pub Before : ℕ → ℕ → Type 0
Before p m = (p < m) ⊎ (p ≡ no_parent)

apart : (p m a : ℕ) → Before p m → m ≤ a → a < no_parent → a ≡ p → ⊥
apart p m a b h g e = ⊎_elim (λ l. omega (arith, l, h, e)) (λ l. omega (arith, l, g, e)) b

-- ---- no parent is bad

-- `bottom`, and before it record numbers from m on
data Above (m : ℕ) (bottom : List ℕ) : List ℕ → Type 0 where
  here : Above m bottom bottom
  more : {a : ℕ} {ancestors : List ℕ} → m ≤ a → a < no_parent → Above m bottom ancestors → Above m bottom (a ∷ ancestors)

lower : {n p : ℕ} {rest ancestors : List ℕ} (m : ℕ) → m ≤ n → n < no_parent → Above (suc n) (n ∷ p ∷ rest) ancestors → Above m (p ∷ rest) ancestors
lower m h g here = more h g here
lower {n} m h g (more {a} k j l) = let i : m ≤ a = omega (arith, h, k) in more i j (lower m h g l)

above_among : {p m : ℕ} {rest ancestors : List ℕ} → Before p m → Above m (p ∷ rest) ancestors → among p ancestors ≡ true
unfolding among
above_among {p} b here = rw (eq-eqb p p refl)
above_among {p} {m} b (more {a} h g l) = rw (ne_eqb a p (apart p m a b h g)) (above_among b l)

above_from : {p m : ℕ} {rest ancestors : List ℕ} → Before p m → Above m (p ∷ rest) ancestors → from p ancestors ≡ p ∷ rest
unfolding from
above_from {p} b here = rw (eq-eqb p p refl)
above_from {p} {m} b (more {a} h g l) = rw (ne_eqb a p (apart p m a b h g)) (above_from b l)

abbrev Goes : ℕ → ℕ → ℕ → List ℕ → List ℕ → Type 0
Goes m p n rest qs = (ancestors : List ℕ) → Above m (p ∷ rest) ancestors → bad_parent n ancestors qs ≡ None

mutual
  unfolding rows size bad_parent parents row node_row

  tree_good : (t : Tree) (p m n : ℕ) (rest qs : List ℕ) → Before p m → m ≤ n → n + size t ≤ no_parent → Goes m p (n + size t) rest qs → Goes m p n rest (parents (rows t p n) ++ qs)
  tree_good (node k f l w c ts) p m n rest qs b h g go ancestors at =
      let e : n + suc (sizes ts) ≡ suc n + sizes ts = omega arith in
      rw (above_among b at, above_from b at)
      (forest_good ts n (suc n) (suc n) (p ∷ rest) qs (inl (omega arith)) (omega arith) (omega (arith, g))
      (λ ancestors' at'. rw e at (go ancestors' (lower m h (omega (arith, g)) at')))
      (n ∷ p ∷ rest) here)

  forest_good : (ts : Forest) (p m n : ℕ) (rest qs : List ℕ) → Before p m → m ≤ n → n + sizes ts ≤ no_parent → Goes m p (n + sizes ts) rest qs → Goes m p n rest (parents (rows_of ts p n) ++ qs)
  forest_good bare p m n rest qs b h g go ancestors at = let e : n + 0 ≡ n = omega arith in rw e at (go ancestors at)
  forest_good (grown t ts) p m n rest qs b h g go ancestors at =
      let e : n + (size t + sizes ts) ≡ n + size t + sizes ts = omega arith in
      rw (parents_append (rows t p n) (rows_of ts p (n + size t)), append_assoc (parents (rows t p n)) (parents (rows_of ts p (n + size t))) qs)
      (tree_good t p m n rest (parents (rows_of ts p (n + size t)) ++ qs) b h (omega (arith, g))
      (forest_good ts p m (n + size t) rest qs b (omega (arith, h)) (omega (arith, g)) (λ ancestors' at'. rw e at (go ancestors' at')))
      ancestors at)

-- ---- the number just past the last descendant

-- no record from n on is an ancestor of what follows
abbrev Stops : ℕ → List ℕ → Type 0
Stops n qs = (a m : ℕ) → n ≤ a → past a m qs ≡ m

pub not_inside : (p n a : ℕ) → Before p n → n ≤ a → inside a p ≡ false
unfolding inside
not_inside p n a b h =
    ⊎_elim (λ l. rw (lt-leb a p (omega (arith, l, h)))) (λ l. rw (le-ltb p no_parent (omega (arith, l))) (and-false (leb a p))) b

pub is_inside : (p a : ℕ) → a ≤ p → p < no_parent → inside a p ≡ true
unfolding inside
is_inside p a h g = rw (le-leb a p h, lt-ltb p no_parent g)

forest_stops : (ts : Forest) (p n m : ℕ) (rs : List (List ℕ)) → Before p m → Stops m (parents rs) → Stops m (parents (rows_of ts p n ++ rs))
unfolding rows parents row node_row past
forest_stops bare p n m rs b s = s
forest_stops (grown (node k f l w c us) ts) p n m rs b s = λ a q h. rw (not_inside p m a b h)

mutual
  unfolding rows size parents row node_row past

  tree_within : (t : Tree) (a p n m : ℕ) (qs : List ℕ) → a ≤ p → a ≤ n → p < no_parent → n + size t ≤ no_parent → past a m (parents (rows t p n) ++ qs) ≡ past a (m + size t) qs
  tree_within (node k f l w c ts) a p n m qs h i g j =
      let e : m + suc (sizes ts) ≡ suc m + sizes ts = omega arith in
      rw (is_inside p a h g, e) (forest_within ts a n (suc n) (suc m) qs i (omega (arith, i)) (omega (arith, j)) (omega (arith, j)))

  forest_within : (ts : Forest) (a p n m : ℕ) (qs : List ℕ) → a ≤ p → a ≤ n → p < no_parent → n + sizes ts ≤ no_parent → past a m (parents (rows_of ts p n) ++ qs) ≡ past a (m + sizes ts) qs
  forest_within bare a p n m qs h i g j = let e : m + 0 ≡ m = omega arith in rw e
  forest_within (grown t ts) a p n m qs h i g j =
      let e : m + (size t + sizes ts) ≡ m + size t + sizes ts = omega arith in
      rw (parents_append (rows t p n) (rows_of ts p (n + size t)), append_assoc (parents (rows t p n)) (parents (rows_of ts p (n + size t))) qs, e)
      (tree_within t a p n m (parents (rows_of ts p (n + size t)) ++ qs) h i g (omega (arith, j))
      ∙ forest_within ts a p (n + size t) (m + size t) qs h (omega (arith, i)) g (omega (arith, j)))

-- ---- no tenth number is bad

mutual
  unfolding rows size bad_tenth parents row node_row

  tree_tenths : (t : Tree) (p n : ℕ) (rs : List (List ℕ)) → n + size t ≤ no_parent → Stops n (parents rs) → bad_tenth n (rows t p n ++ rs) ≡ bad_tenth (n + size t) rs
  tree_tenths (node k f l w c ts) p n rs g s =
      let e : suc n + sizes ts ≡ n + suc (sizes ts) = omega arith in
      let x : past n (suc n) (parents (rows_of ts n (suc n) ++ rs)) ≡ n + suc (sizes ts) =
      rw (parents_append (rows_of ts n (suc n)) rs)
      (forest_within ts n n (suc n) (suc n) (parents rs) (omega arith) (omega arith) (omega (arith, g)) (omega (arith, g)) ∙ s n (suc n + sizes ts) (omega arith) ∙ e) in
      rw (x, eq-eqb (n + suc (sizes ts)) (n + suc (sizes ts)) refl)
      (forest_tenths ts n (suc n) rs (inl (omega arith)) (omega (arith, g)) (λ a m h. s a m (omega (arith, h))) ∙ ap (λ (m : ℕ). bad_tenth m rs) e)

  forest_tenths : (ts : Forest) (p n : ℕ) (rs : List (List ℕ)) → Before p n → n + sizes ts ≤ no_parent → Stops n (parents rs) → bad_tenth n (rows_of ts p n ++ rs) ≡ bad_tenth (n + sizes ts) rs
  forest_tenths bare p n rs b g s = let e : n + 0 ≡ n = omega arith in rw e
  forest_tenths (grown t ts) p n rs b g s =
      let e : n + (size t + sizes ts) ≡ n + size t + sizes ts = omega arith in
      rw (append_assoc (rows t p n) (rows_of ts p (n + size t)) rs, e)
      (tree_tenths t p n (rows_of ts p (n + size t) ++ rs) (omega (arith, g)) (forest_stops ts p (n + size t) n rs b s)
      ∙ forest_tenths ts p (n + size t) rs (further b) (omega (arith, g)) (λ a m h. s a m (omega (arith, h))))
    where
      further : Before p n → Before p (n + size t)
      further d = ⊎_elim (λ l. inl (omega (arith, l))) (λ l. inr l) d

-- ---- whole forests

module _ (ts : Forest) (few : sizes ts ≤ most_records) where
  fits : 0 + sizes ts ≤ no_parent
  unfolding no_parent
  fits = omega (arith, few)

  parents_good : first_bad_parent (rows_of ts no_parent 0) ≡ None
  unfolding first_bad_parent bad_parent
  parents_good =
      rw append-nil at
      (forest_good ts no_parent 0 0 [] [] (inr refl) (omega arith) fits (λ ancestors at. refl) (no_parent ∷ []) here)

  tenths_good : bad_tenth 0 (rows_of ts no_parent 0) ≡ None
  unfolding bad_tenth past parents
  tenths_good = rw append-nil at (forest_tenths ts no_parent 0 [] (inr refl) fits (λ a m h. refl))

  rows_few : length (rows_of ts no_parent 0) ≤ most_records
  rows_few = rw (rows_sizes ts no_parent 0) few

  -- ITS RECORDS ARE NARROWED
  pub forest_narrows : narrowing (concat (rows_of ts no_parent 0)) ≡ accepted (narrowed (rows_of ts no_parent 0))
  forest_narrows = narrowing_of _ (forest_wide ts no_parent 0) rows_few parents_good tenths_good

  -- AND WIDENED AGAIN TO WHAT THEY WERE
  pub forest_widens : widening (concat (narrowed (rows_of ts no_parent 0))) ≡ accepted (rows_of ts no_parent 0)
  forest_widens = narrowing_undone _ _ forest_narrows ∙ ap accepted (concat_records node_width_law (forest_wide ts no_parent 0))

module _ (ds : List Definition) (few : length (node_rows ds) ≤ most_records) where
  small : sizes (forest ds) ≤ most_records
  small = rw (node_rows_size ds) at few

  pub definitions_narrow : narrowing (concat (node_rows ds)) ≡ accepted (narrowed (node_rows ds))
  unfolding node_rows
  definitions_narrow = forest_narrows (forest ds) small

  pub definitions_widen : widening (concat (narrowed (node_rows ds))) ≡ accepted (node_rows ds)
  unfolding node_rows
  definitions_widen = forest_widens (forest ds) small
