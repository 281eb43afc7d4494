-- `parse_definitions::parse_service_body` meets its contract.
use mathlib.Core.Path.{refl}
use Rattle.steps.proofs.Chain.{begins, on, off, last}
use Rattle.parse_definitions.specs.Into.{service_body_in}
use Rattle.parse_definitions.proofs.parse_service_body.Goals as goal

pub returns-in_err-parse_service_head : goal.returns-in_err-parse_service_head
unfolding service_body_in
returns-in_err-parse_service_head c = off c.parse_service_head.ensures c.in_err-parse_service_head.was c.from_residual.ensures _ (begins refl)

pub returns-in_err-parse_functions : goal.returns-in_err-parse_functions
unfolding service_body_in
returns-in_err-parse_functions c = off c.parse_functions.ensures c.in_err-parse_functions.was c.from_residual-in_err-parse_functions.ensures _ (on c.parse_service_head.ensures c.in_ok-parse_service_head.was _ (begins refl))

pub returns : goal.returns
unfolding service_body_in
returns c = last c.parse_annotations.ensures (on c.parse_functions.ensures c.in_ok-parse_functions.was _ (on c.parse_service_head.ensures c.in_ok-parse_service_head.was _ (begins refl)))
