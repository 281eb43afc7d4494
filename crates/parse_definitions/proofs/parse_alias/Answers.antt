-- `parse_definitions::parse_alias` meets its contract.
use mathlib.Core.Path.{refl}
use Rattle.steps.proofs.Chain.{begins, last}
use Rattle.parse_definitions.proofs.parse_alias.Goals as goal

pub returns : goal.returns
returns c = last c.parse_typed_name.ensures (begins refl)
