-- What a reader leaves: a property of readers.
use Rattle.std.specs.Prelude.{ℕ, ◌+◌, ◌≤◌, length}
use Rattle.lexer.specs.declared.location.LOC.{LOC}
use Rattle.parser.specs.Steps.{St, pos, Raised, Res, ok, no, P}

-- the tokens left
abbrev pub tokens_left : St → ℕ
tokens_left (pos l c ts) = length ts

-- a refusal, or an answer that leaves x tokens fewer than b
pub data Leaves {A : Type 0} (x b : ℕ) : Res A → Type 0 where
  leaves : {v : A} {s : St} → x + tokens_left s ≤ b → Leaves x b (ok v s)
  refused : {e : Raised} {l : LOC} → Leaves x b (no e l)

-- the reader takes at least one token each time it succeeds
abbrev pub Takes : {A : Type 0} → P A → Type 0
Takes p = (s : St) → Leaves 1 (tokens_left s) (p s)

-- the reader puts no token back
abbrev pub Keeps : {A : Type 0} → P A → Type 0
Keeps p = (s : St) → Leaves 0 (tokens_left s) (p s)
