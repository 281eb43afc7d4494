-- `steps::id::number` meets its contract.
use Rattle.steps.proofs.Digits.{decimal_done}
use Rattle.steps.proofs.id.number.Goals as goal

pub returns : goal.returns
returns c = rw c.loop-digit.invariant.1 (decimal_done c.loop-digit.value c.args.digits.now c.loop-digit.digit-index c.loop-digit-test.false c.loop-digit.invariant.0)
