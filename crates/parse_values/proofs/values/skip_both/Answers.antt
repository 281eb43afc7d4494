-- `parse_values::values::skip_both` meets its contract.
use mathlib.Core.Path.{refl}
use Rattle.steps.proofs.Chain.{begins, kept, last}
use Rattle.parse_values.specs.Into.{skip_both_in}
use Rattle.parse_values.proofs.values.skip_both.Goals as goal

pub returns : goal.returns
unfolding skip_both_in
returns c = last c.skip_comments_discard.ensures (kept c.skip_separators.ensures _ (begins refl))
