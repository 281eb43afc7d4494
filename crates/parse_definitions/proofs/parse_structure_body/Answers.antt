-- `parse_definitions::parse_structure_body` meets its contract.
use mathlib.Core.Path.{refl}
use Rattle.steps.proofs.Chain.{begins, on, off, last}
use Rattle.parse_definitions.specs.Into.{structure_body_in}
use Rattle.token.specs.Code.{code}
use Rattle.parse_definitions.proofs.parse_structure_body.Goals as goal

pub returns-in_err-parse_name : goal.returns-in_err-parse_name
unfolding structure_body_in code
returns-in_err-parse_name c = off c.parse_name.ensures c.in_err-parse_name.was c.from_residual.ensures _ (begins refl)

pub returns-in_err-parse_fields : goal.returns-in_err-parse_fields
unfolding structure_body_in code
returns-in_err-parse_fields c = off c.parse_fields.ensures c.in_err-parse_fields.was c.from_residual-in_err-parse_fields.ensures _ (on c.parse_name.ensures c.in_ok-parse_name.was _ (begins refl))

pub returns : goal.returns
unfolding structure_body_in code
returns c = last c.parse_annotations.ensures (on c.parse_fields.ensures c.in_ok-parse_fields.was _ (on c.parse_name.ensures c.in_ok-parse_name.was _ (begins refl)))
