-- `parse_definitions::parse_included` meets its contract.
use mathlib.Core.Path.{refl}
use Rattle.steps.proofs.Chain.{begins, last}
use Rattle.parse_definitions.specs.Into.{included_in}
use Rattle.token.specs.Code.{code}
use Rattle.parse_definitions.proofs.parse_included.Goals as goal

pub returns : goal.returns
unfolding included_in code
returns c = last c.parse_leaf.ensures (begins refl)
