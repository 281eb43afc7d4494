-- `parse_definitions::parse_scoped_name` meets its contract.
use mathlib.Core.Path.{refl}
use Rattle.steps.proofs.Chain.{begins, on, off, last}
use Rattle.parse_definitions.specs.Into.{scoped_name_in}
use Rattle.parse_definitions.proofs.parse_scoped_name.Goals as goal

pub returns-in_err-parse_scope : goal.returns-in_err-parse_scope
unfolding scoped_name_in
returns-in_err-parse_scope c = off c.parse_scope.ensures c.in_err-parse_scope.was c.from_residual.ensures _ (begins refl)

pub returns : goal.returns
unfolding scoped_name_in
returns c = last c.parse_name.ensures (on c.parse_scope.ensures c.in_ok-parse_scope.was _ (begins refl))
