-- Numbers in a lent slice.
use Rattle.std.specs.Prelude.{List, [], ◌∷◌, ℕ, Ok, Err}
use Rattle.std.specs.declared.result.Result.{Result}
use Rattle.ast.specs.Laid.{laid_with}
use Rattle.lexer.specs.declared.error.Refusal.{Refusal}
use Rattle.lexer.specs.Refusal.{number_of}
use Rattle.lexer.specs.declared.location.Span.{Span}

-- numbers at its front, as many as it holds, and 0 behind them
abbrev pub laid : List ℕ → List ℕ → List ℕ
laid = laid_with 0

-- the numbers of an accepted answer, or a refusal's number, place and length
unfoldable pub told_numbers : Result (List ℕ) Refusal → List ℕ
told_numbers (Ok ns) = ns
told_numbers (Err r) = number_of r.kind ∷ r.place ∷ r.length ∷ []

-- the three numbers of a place
unfoldable pub three : Span → List ℕ
three s = s.line ∷ s.column ∷ s.index ∷ []
