-- `parse_definitions::parse_typed_name` meets its contract.
use mathlib.Core.Path.{refl}
use Rattle.steps.proofs.Chain.{begins, on, off, last}
use Rattle.parse_definitions.specs.Into.{typed_name_in}
use Rattle.parse_definitions.proofs.parse_typed_name.Goals as goal

pub returns-in_err-parse_type : goal.returns-in_err-parse_type
unfolding typed_name_in
returns-in_err-parse_type c = off c.parse_type.ensures c.in_err-parse_type.was c.from_residual.ensures _ (begins refl)

pub returns : goal.returns
unfolding typed_name_in
returns c = last c.parse_name.ensures (on c.parse_type.ensures c.in_ok-parse_type.was _ (begins refl))
