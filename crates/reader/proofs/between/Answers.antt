-- `reader::between` meets its contract.
use mathlib.Core.Path.{refl}
use Rattle.steps.proofs.Chain.{begins, kept, last}
use Rattle.reader.specs.Into.{between_in}
use Rattle.reader.proofs.between.Goals as goal

pub returns : goal.returns
unfolding between_in
returns c = last c.skip_separators-2.ensures (kept c.skip_comments.ensures _ (kept c.skip_separators.ensures _ (begins refl)))
