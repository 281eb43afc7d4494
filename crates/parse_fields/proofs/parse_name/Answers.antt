-- `parse_fields::parse_name` meets its contract.
use mathlib.Core.Path.{refl}
use Rattle.steps.proofs.Chain.{begins, last}
use Rattle.parse_fields.specs.Into.{name_in}
use Rattle.token.specs.Code.{code}
use Rattle.parse_fields.proofs.parse_name.Goals as goal

pub returns : goal.returns
unfolding name_in code
returns c = last c.parse_leaf.ensures (begins refl)
