-- What a call answers, in document 01's words.
use Rattle.std.specs.Prelude.{ℕ, List, [], ◌∷◌}

-- what it gives, or a refusal's number, place and length
pub data Outcome (A : Type 0) : Type 0 where
  accepted : A → Outcome A
  refused : ℕ → ℕ → ℕ → Outcome A

-- an answer's numbers: 0 and the counts, or the refusal's three
unfoldable pub numbers : Outcome (List ℕ) → List ℕ
numbers (accepted ns) = 0 ∷ ns
numbers (refused e p n) = e ∷ p ∷ n ∷ []
