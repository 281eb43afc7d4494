-- `parse_definitions::parse_constant` meets its contract.
use mathlib.Core.Path.{refl}
use Rattle.steps.proofs.Chain.{begins, on, off, last}
use Rattle.parse_definitions.specs.Into.{constant_in}
use Rattle.token.specs.Code.{code}
use Rattle.parse_definitions.proofs.parse_constant.Goals as goal

pub returns-in_err-parse_typed_name : goal.returns-in_err-parse_typed_name
unfolding constant_in code
returns-in_err-parse_typed_name c = off c.parse_typed_name.ensures c.in_err-parse_typed_name.was c.from_residual.ensures _ (begins refl)

pub returns-in_err-expect : goal.returns-in_err-expect
unfolding constant_in code
returns-in_err-expect c = off c.expect.ensures c.in_err-expect.was c.from_residual-in_err-expect.ensures _ (on c.parse_typed_name.ensures c.in_ok-parse_typed_name.was _ (begins refl))

pub returns : goal.returns
unfolding constant_in code
returns c = last c.parse_value.ensures (on c.expect.ensures c.in_ok-expect.was _ (on c.parse_typed_name.ensures c.in_ok-parse_typed_name.was _ (begins refl)))
