-- `parse_fields::annotations::parse_assignment` meets its contract.
use mathlib.Core.Path.{refl}
use Rattle.steps.proofs.Chain.{begins, on, off, last}
use Rattle.parse_fields.specs.Into.{assignment_in}
use Rattle.token.specs.Code.{code}
use Rattle.parse_fields.proofs.annotations.parse_assignment.Goals as goal

pub returns-in_err-parse_name : goal.returns-in_err-parse_name
unfolding assignment_in
returns-in_err-parse_name c = off c.parse_name.ensures c.in_err-parse_name.was c.from_residual.ensures _ (begins refl)

pub returns-in_err-expect : goal.returns-in_err-expect
unfolding assignment_in code
returns-in_err-expect c = off c.expect.ensures c.in_err-expect.was c.from_residual-in_err-expect.ensures _ (on c.parse_name.ensures c.in_ok-parse_name.was _ (begins refl))

pub returns : goal.returns
unfolding assignment_in code
returns c = last c.parse_leaf.ensures (on c.expect.ensures c.in_ok-expect.was _ (on c.parse_name.ensures c.in_ok-parse_name.was _ (begins refl)))
