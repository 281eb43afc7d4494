-- `link::hirvelan_print` meets its contract.
use mathlib.Core.Path.{refl}
use Rattle.lexer.specs.Outcome.{numbers}
use Rattle.lexer.specs.Refusal.{said_by}
use Rattle.link.proofs.Answers.{print_answer}
use Rattle.link.proofs.hirvelan_print.Goals as goal

pub returns-in-Ok : goal.returns-in-Ok
unfolding said_by numbers
returns-in-Ok c = let d = c.print in print_answer d.result _ _ _ _ _ d.ensures _ _ _ c.in-Ok.is refl (rw (c.from.ensures, c.from-in-Ok.ensures) at c.lay.ensures)

pub returns-in-Err : goal.returns-in-Err
unfolding said_by numbers
returns-in-Err c = let d = c.print in print_answer d.result _ _ _ _ _ d.ensures _ _ _ c.in-Err.is refl (rw (c.from-in-Err.ensures, c.from-in-Err-2.ensures, c.from-in-Err-3.ensures, c.numbers.ensures) at c.lay-in-Err.ensures)
