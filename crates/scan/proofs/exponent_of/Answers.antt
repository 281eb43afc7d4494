-- `scan::exponent_of` meets its contract.
use mathlib.Core.Path.{sym, ◌∙◌}
use Rattle.token.proofs.Reach.{reach_end}
use Rattle.scan.proofs.ScanLaws.{exponent_signed, exponent_plain}
use Rattle.scan.proofs.exponent_of.Goals as goal

pub returns-then-text-at : goal.returns-then-text-at
returns-then-text-at c = sym (reach_end c.requires c.if-text-at.true)

pub exponent_digits-requires : goal.exponent_digits-requires
exponent_digits-requires c = (exponent_signed c.requires c.if-text-at.false (sym c.class_at.ensures ∙ c.if-class_at-eq-SIGN.true))

pub exponent_digits-requires-2 : goal.exponent_digits-requires-2
exponent_digits-requires-2 c = (exponent_plain c.requires c.if-text-at.false (λ e. c.if-class_at-eq-SIGN.false (c.class_at.ensures ∙ e)))
