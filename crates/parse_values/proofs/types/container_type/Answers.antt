-- `parse_values::types::container_type` meets its contract.
use Rattle.token.specs.Code.{code}
use Rattle.ast.specs.KindNumber.{number_or_none}
use Rattle.parse_values.specs.Into.{container_type}
use Rattle.parse_values.proofs.KindTests.{container_type_not}
use Rattle.parse_values.proofs.types.container_type.Goals as goal

pub returns-in-Map : goal.returns-in-Map
unfolding number_or_none container_type code
returns-in-Map c = rw c.in-Map.is

pub returns-in-List : goal.returns-in-List
unfolding number_or_none container_type code
returns-in-List c = rw c.in-List.is

pub returns-in-Set : goal.returns-in-Set
unfolding number_or_none container_type code
returns-in-Set c = rw c.in-Set.is

pub returns-in_default : goal.returns-in_default
unfolding number_or_none
returns-in_default c = let n = c.in_default in container_type_not _ n.not-Map n.not-List n.not-Set
