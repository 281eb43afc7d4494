-- `parse_fields::parse_leaf` meets its contract.
use mathlib.Core.Path.{refl}
use Rattle.steps.proofs.Chain.{begins, on, off, last}
use Rattle.parse_fields.specs.Into.{token_in}
use Rattle.parse_fields.proofs.parse_leaf.Goals as goal

pub returns-in_err-expect : goal.returns-in_err-expect
unfolding token_in
returns-in_err-expect c = off c.expect.ensures c.in_err-expect.was c.from_residual.ensures _ (begins refl)

pub returns : goal.returns
unfolding token_in
returns c = last c.put_leaf.ensures (on c.expect.ensures c.in_ok-expect.was _ (begins refl))
