-- `file::File::run` meets its contract.
use native.Mathlib.Omega.{arith}
use Rattle.file.proofs.Stored.{begun, turned, over}
use Rattle.file.proofs.File.run.Goals as goal

pub loop-numbers-init : goal.loop-numbers-init
loop-numbers-init c = begun _ _ _ _

pub loop-numbers-smaller : goal.loop-numbers-smaller
loop-numbers-smaller c = omega (arith, c.in-Some.ensures.cases.2)

pub loop-numbers-preserved : goal.loop-numbers-preserved
loop-numbers-preserved c = turned c.loop-numbers.invariant _ _ c.in-Some.ensures.cases _ c.from.ensures c.call.ensures

pub returns : goal.returns
returns c = over c.loop-numbers.invariant c.in_default.ensures.cases
