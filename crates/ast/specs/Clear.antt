-- A list that is cleared from an index on.
use Rattle.std.specs.Prelude.{◌≡◌, List, ◌++◌, ℕ, ◌-◌, length, take, replicate}

-- what stands before the index stays, and all from there on is one default value
abbrev pub Cleared : {A : Type 0} → (A → Type 0) → ℕ → List A → List A → Type 0
Cleared {A} default from old new = (z : A) × default z × (new ≡ take from old ++ replicate (length old - from) z)
