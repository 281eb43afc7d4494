-- `scan::dot_of` meets its contract.
use mathlib.Core.Path.{sym}
use Rattle.token.proofs.Reach.{reach_end}
use Rattle.scan.proofs.ScanLaws.{point_digit, point_stop}
use Rattle.scan.proofs.dot_of.Goals as goal

pub returns-then-text-le1 : goal.returns-then-text-le1
returns-then-text-le1 c = sym (reach_end c.requires c.if-text-le1.true)

pub fraction_of-requires : goal.fraction_of-requires
fraction_of-requires c = (point_digit c.requires c.if-text-le1.false (rw c.class_at.ensures at c.if-class_at-lt-E.true))

pub returns : goal.returns
returns c = sym (point_stop c.requires c.if-text-le1.false (rw c.class_at.ensures at c.if-class_at-lt-E.false))
