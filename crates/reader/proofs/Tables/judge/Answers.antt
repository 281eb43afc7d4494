-- `reader::Tables::judge` meets its contract.
use Rattle.steps.specs.Reads.{tells}
use Rattle.reader.specs.Into.{judged}
use Rattle.reader.proofs.Whole.{gives}
use Rattle.reader.proofs.Tables.judge.Goals as goal

pub returns-in-Err : goal.returns-in-Err
unfolding judged tells
returns-in-Err c = gives c.refuse_at.ensures (rw c.in-Err.is)

pub returns-in-Ok : goal.returns-in-Ok
unfolding judged tells
returns-in-Ok c = gives c.fit.ensures (rw c.in-Ok.is)
