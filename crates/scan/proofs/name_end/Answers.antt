-- `scan::name_end` meets its contract. The invariant: the scan stands at the end of a piece of the identifier.
use native.Mathlib.Omega.{arith}
use Rattle.token.proofs.Reach.{reach_end}
use Rattle.scan.proofs.ScanLaws.{name_run, name_sign}
use Rattle.scan.proofs.name_end.Goals as goal

pub run-i-requires : goal.run-i-requires
run-i-requires c = (c.requires.inside)

pub loop-i-init : goal.loop-i-init
loop-i-init c = (name_run c.requires c.run-i.result c.run-i.ensures, omega (arith, c.run-i.ensures), name_sign c.requires c.run-i.result c.run-i.ensures)

pub loop-i-preserved : goal.loop-i-preserved
loop-i-preserved c = (name_run c.if-goes_on.ensures.1 _ c.run-i-in-loop-i.ensures, omega (arith, c.run-i-in-loop-i.ensures, c.loop-i.invariant.1), name_sign c.if-goes_on.ensures.1 _ c.run-i-in-loop-i.ensures)

pub returns-after-loop-i : goal.returns-after-loop-i
returns-after-loop-i c = (reach_end c.loop-i.invariant.0 c.loop-i-test.false, c.loop-i.invariant.1)
