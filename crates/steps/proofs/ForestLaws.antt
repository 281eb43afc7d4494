-- Trees behind trees.
--     _⊕_                 a forest and one behind it; it is associative, and bare is its unit
--     sizes_plus, counts_plus, rows_plus, notes_plus    the counts and the rows of both
--     perhaps_plus, each_plus, throws_plus    the parts of each tree as forests of their own
use mathlib.Core.Path.{◌≡◌, refl, ap}
use mathlib.Core.List.{List, [], ◌∷◌, ◌++◌, append_assoc}
use Rattle.std.specs.Prelude.{Option, Some, None}
use Prim.Native.Nat.{ℕ, ◌+◌}
use native.Mathlib.Omega.{arith}
use native.Mathlib.Nat.{add-zero}
use Rattle.ast.specs.Ast.{Field}
use Rattle.ast.specs.Tree.{Tree, Forest, bare, grown, each, perhaps, throws_trees}
use Rattle.ast.specs.Records.{size, sizes, rows_of, comment_rows_of, rows, comment_rows}
use Rattle.ast.proofs.Counts.{note_counts}

infixl 30 ◌⊕◌
abbrev pub ◌⊕◌ : Forest → Forest → Forest
◌⊕◌ bare g = g
◌⊕◌ (grown t f) g = grown t (◌⊕◌ f g)

pub plus_bare : (f : Forest) → f ⊕ bare ≡ f
plus_bare bare = refl
plus_bare (grown t f) = ap (grown t) (plus_bare f)

pub plus_assoc : (f g h : Forest) → (f ⊕ g) ⊕ h ≡ f ⊕ (g ⊕ h)
plus_assoc bare g h = refl
plus_assoc (grown t f) g h = ap (grown t) (plus_assoc f g h)

pub sizes_plus : (f g : Forest) → sizes (f ⊕ g) ≡ sizes f + sizes g
unfolding sizes
sizes_plus bare g = omega arith
sizes_plus (grown t f) g = omega (arith, sizes_plus f g)

pub counts_plus : (f g : Forest) → note_counts (f ⊕ g) ≡ note_counts f + note_counts g
unfolding note_counts
counts_plus bare g = omega arith
counts_plus (grown t f) g = omega (arith, counts_plus f g)

pub rows_plus : (f g : Forest) (p n : ℕ) → rows_of (f ⊕ g) p n ≡ rows_of f p n ++ rows_of g p (n + sizes f)
unfolding rows_of sizes
rows_plus bare g p n = rw (add-zero n)
rows_plus (grown t f) g p n =
    let e : n + size t + sizes f ≡ n + (size t + sizes f) = omega arith in
    rw (← e, append_assoc) (ap (λ (x : List (List ℕ)). rows t p n ++ x) (rows_plus f g p (n + size t)))

pub notes_plus : (f g : Forest) (n : ℕ) → comment_rows_of (f ⊕ g) n ≡ comment_rows_of f n ++ comment_rows_of g (n + sizes f)
unfolding comment_rows_of sizes
notes_plus bare g n = rw (add-zero n)
notes_plus (grown t f) g n =
    let e : n + size t + sizes f ≡ n + (size t + sizes f) = omega arith in
    rw (← e, append_assoc) (ap (λ (x : List (List ℕ)). comment_rows t n ++ x) (notes_plus f g (n + size t)))

pub perhaps_plus : {A : Type 0} (f : A → Tree) (o : Option A) (r : Forest) → perhaps f o bare ⊕ r ≡ perhaps f o r
unfolding perhaps
perhaps_plus f None r = refl
perhaps_plus f (Some x) r = refl

pub each_plus : {A : Type 0} (f : A → Tree) (xs : List A) (r : Forest) → each f xs bare ⊕ r ≡ each f xs r
unfolding each
each_plus f [] r = refl
each_plus f (x ∷ xs) r = ap (grown (f x)) (each_plus f xs r)

pub throws_plus : (o : Option (List Field)) (r : Forest) → throws_trees o bare ⊕ r ≡ throws_trees o r
unfolding throws_trees
throws_plus None r = refl
throws_plus (Some fs) r = each_plus _ fs r
