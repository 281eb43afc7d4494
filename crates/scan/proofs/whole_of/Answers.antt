-- `scan::whole_of` meets its contract.
use mathlib.Core.Path.{sym, ◌∙◌}
use Rattle.scan.proofs.ScanLaws.{whole_end, whole_exponent, whole_point, whole_stop}
use Rattle.scan.proofs.whole_of.Goals as goal

pub returns-then-text-end : goal.returns-then-text-end
returns-then-text-end c = sym (whole_end c.requires c.run_above-end.result c.run_above-end.ensures c.if-text-end.true)

pub exponent_of-requires : goal.exponent_of-requires
exponent_of-requires c = (whole_exponent c.requires c.run_above-end.result c.run_above-end.ensures c.if-text-end.false (rw c.class_at-k.ensures at c.if-k-lt-HEX.true))

pub fraction_of-requires : goal.fraction_of-requires
fraction_of-requires c = (whole_point c.requires c.run_above-end.result c.run_above-end.ensures c.if-text-end.false (sym c.class_at-k.ensures ∙ c.if-k-eq-DOT.true))

pub returns : goal.returns
returns c = sym (whole_stop c.requires c.run_above-end.result c.run_above-end.ensures c.if-text-end.false (rw c.class_at-k.ensures at c.if-k-lt-HEX.false) (λ e. c.if-k-eq-DOT.false (c.class_at-k.ensures ∙ e)))
