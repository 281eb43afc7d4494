-- `parse_fields::fields::parse_field_tail` meets its contract.
use mathlib.Core.Path.{refl}
use Rattle.steps.proofs.Chain.{begins, on, off, last}
use Rattle.parse_fields.specs.Into.{field_tail_in}
use Rattle.parse_fields.proofs.fields.parse_field_tail.Goals as goal

pub returns-in_err-parse_default : goal.returns-in_err-parse_default
unfolding field_tail_in
returns-in_err-parse_default c = off c.parse_default.ensures c.in_err-parse_default.was c.from_residual.ensures _ (begins refl)

pub returns : goal.returns
unfolding field_tail_in
returns c = last c.parse_annotations.ensures (on c.parse_default.ensures c.in_ok-parse_default.was _ (begins refl))
