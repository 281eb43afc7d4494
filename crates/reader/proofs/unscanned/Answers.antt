-- `reader::unscanned` meets its contract.
use native.Mathlib.Omega.{arith}
use Rattle.steps.specs.Reads.{tells}
use Rattle.reader.specs.Into.{unscanned}
use Rattle.reader.proofs.unscanned.Goals as goal

pub returns-in-Err : goal.returns-in-Err
unfolding unscanned tells
returns-in-Err c = (omega arith, λ t u. rw c.in-Err.is)

pub returns-in-Ok : goal.returns-in-Ok
unfolding unscanned tells
returns-in-Ok c = (omega arith, λ t u. rw c.in-Ok.is c.index_of.ensures)
