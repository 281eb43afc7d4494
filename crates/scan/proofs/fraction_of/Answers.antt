-- `scan::fraction_of` meets its contract.
use mathlib.Core.Path.{sym}
use Rattle.scan.proofs.ScanLaws.{fraction_end, fraction_exponent, fraction_stop}
use Rattle.scan.proofs.fraction_of.Goals as goal

pub returns-then-text-end : goal.returns-then-text-end
returns-then-text-end c = sym (fraction_end c.requires c.run_above-end.result c.run_above-end.ensures c.if-text-end.true)

pub exponent_of-requires : goal.exponent_of-requires
exponent_of-requires c = (fraction_exponent c.requires c.run_above-end.result c.run_above-end.ensures c.if-text-end.false (rw c.class_at.ensures at c.if-class_at-lt-HEX.true))

pub returns : goal.returns
returns c = sym (fraction_stop c.requires c.run_above-end.result c.run_above-end.ensures c.if-text-end.false (rw c.class_at.ensures at c.if-class_at-lt-HEX.false))
