-- `printer::print` meets its contract.
use mathlib.Core.Path.{sym, ◌∙◌}
use borrow.Author.Rules.{rules}
use Rattle.printer.specs.Onto.{judged}
use Rattle.printer.proofs.Whole.{refuses, handed}
use Rattle.printer.proofs.print.Goals as goal

pub returns-in-Ok : goal.returns-in-Ok
unfolding judged
returns-in-Ok c = rw c.in-Ok.is at c.try_print.ensures

pub returns-in-Err : goal.returns-in-Err
returns-in-Err c =
    let w = c.refuse.ensures in
    let n = sym w.nodes_lent in
    let k = sym w.comments_lent in
    let o = sym w.out_lent in
    handed _ _ _ _ _ _ _ _ (refuses w) (search rules) (search rules) (search rules) ∙ (rw c.in-Err.is at c.try_print.ensures)
