-- `link::tell` meets its contract.
use mathlib.Core.Path.{ap, ◌∙◌, sym}
use Rattle.std.specs.declared.result.Result.{Result}
use Rattle.lexer.specs.declared.error.Refusal.{Refusal}
use mathlib.Core.List.{List}
use Prim.Native.Nat.{ℕ}
use Rattle.link.specs.Told.{laid, told_numbers}
use Rattle.link.proofs.tell.Goals as goal

pub returns-in-Ok : goal.returns-in-Ok
unfolding told_numbers
returns-in-Ok g c = c.lay.ensures ∙ ap (λ (r : Result (List ℕ) Refusal). laid (told_numbers r) c.args.answer.now) (sym c.in-Ok.is)

pub returns-in-Err : goal.returns-in-Err
unfolding told_numbers
returns-in-Err g c = (rw c.numbers.ensures at c.lay-in-Err.ensures) ∙ ap (λ (r : Result (List ℕ) Refusal). laid (told_numbers r) c.args.answer.now) (sym c.in-Err.is)
