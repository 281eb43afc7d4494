-- `printer::try_print` meets its contract.
use mathlib.Core.Path.{◌∙◌}
use Rattle.lexer.specs.Refusal.{said_by}
use Rattle.printer.specs.Onto.{judged}
use Rattle.printer.proofs.Whole.{fits_is, over_is, all_long, all_wide, all_refused, all_accepted}
use Rattle.printer.proofs.Meant.{print_means}
use Rattle.printer.proofs.try_print.Goals as goal

pub returns-then-text-gt-LIMIT : goal.returns-then-text-gt-LIMIT
unfolding judged
returns-then-text-gt-LIMIT c = rw c.at.ensures (all_long _ _ _ _ _ c.if-text-gt-LIMIT.true) ∙ print_means _ _ _ _ _

pub returns-then-indent-gt-WIDEST : goal.returns-then-indent-gt-WIDEST
unfolding judged
returns-then-indent-gt-WIDEST c =
    rw c.at-then-indent-gt-WIDEST.ensures (all_wide _ _ _ _ _ c.if-text-gt-LIMIT.false c.if-indent-gt-WIDEST.true) ∙ print_means _ _ _ _ _

pub returns-in_err-counts : goal.returns-in_err-counts
returns-in_err-counts c =
    all_refused _ _ _ _ _ c.if-text-gt-LIMIT.false c.if-indent-gt-WIDEST.false _ _ _ c.read.ensures _ c.in_err-counts.was _ c.from_residual.ensures
    ∙ print_means _ _ _ _ _

pub returns-then-out-bytes : goal.returns-then-out-bytes
unfolding judged
returns-then-out-bytes c =
    rw c.at-then-out-bytes.ensures (over_is c.in_ok-counts.counts.nodes c.in_ok-counts.counts.comments _ _ _ _ c.if-out-bytes.true)
    ∙ c.write-bytes.ensures
    ∙ all_accepted _ _ _ _ _ c.if-text-gt-LIMIT.false c.if-indent-gt-WIDEST.false _ _ _ c.read.ensures _ c.in_ok-counts.was
    ∙ print_means _ _ _ _ _

pub returns : goal.returns
unfolding judged said_by
returns c =
    let wide = c.if-indent-gt-WIDEST.false in
    fits_is _ _ _ _ _ _ _ c.if-out-bytes.false c.clear.ensures
    ∙ c.write-bytes.ensures
    ∙ all_accepted _ _ _ _ _ c.if-text-gt-LIMIT.false wide _ _ _ c.read.ensures _ c.in_ok-counts.was
    ∙ print_means _ _ _ _ _
