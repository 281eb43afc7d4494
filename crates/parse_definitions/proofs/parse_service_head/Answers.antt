-- `parse_definitions::parse_service_head` meets its contract.
use mathlib.Core.Path.{refl}
use Rattle.steps.proofs.Chain.{begins, on, off, last}
use Rattle.parse_definitions.specs.Into.{service_head_in}
use Rattle.parse_definitions.proofs.parse_service_head.Goals as goal

pub returns-in_err-parse_name : goal.returns-in_err-parse_name
unfolding service_head_in
returns-in_err-parse_name c = off c.parse_name.ensures c.in_err-parse_name.was c.from_residual.ensures _ (begins refl)

pub returns : goal.returns
unfolding service_head_in
returns c = last c.parse_extends.ensures (on c.parse_name.ensures c.in_ok-parse_name.was _ (begins refl))
