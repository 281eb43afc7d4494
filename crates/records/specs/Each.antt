-- Going through records one after another with a state, until one of them stops it: the model of every loop over siblings.
use Rattle.std.specs.Prelude.{List, [], ◌∷◌, ℕ}

-- on with a state, or off with what stopped it
pub data Step (A B : Type 0) : Type 0 where
  on : A → Step A B
  off : B → Step A B

unfoldable pub then : {A B : Type 0} → Step A B → (A → Step A B) → Step A B
then (on a) k = k a
then (off b) k = off b

unfoldable pub each_in : {A B : Type 0} → (ℕ → A → Step A B) → List ℕ → A → Step A B
each_in f [] a = on a
each_in f (n ∷ ns) a = then (f n a) (each_in f ns)
