-- A function on each of a list, and on what may be there; what holds of each.
use Rattle.std.specs.Prelude.{List, [], ◌∷◌}
use Rattle.std.specs.Prelude.{Option, Some, None}

unfoldable pub maps : {A B : Type 0} → (A → B) → List A → List B
maps f [] = []
maps f (x ∷ xs) = f x ∷ maps f xs

unfoldable pub opt : {A B : Type 0} → (A → B) → Option A → Option B
opt f None = None
opt f (Some x) = Some (f x)

pub data All {A : Type 0} (W : A → Type 0) : List A → Type 0 where
  anil : All W []
  acons : {x : A} {xs : List A} → W x → All W xs → All W (x ∷ xs)
