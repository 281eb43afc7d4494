-- `parse_definitions::parse_scope` meets its contract.
use mathlib.Core.Path.{refl}
use Rattle.steps.proofs.Chain.{begins, last, when, unless}
use Rattle.parse_definitions.specs.Into.{scope_in}
use Rattle.token.specs.Code.{code}
use Rattle.parse_definitions.proofs.parse_scope.Goals as goal

pub returns-then-is : goal.returns-then-is
unfolding scope_in code
returns-then-is c = last c.parse_leaf.ensures (when _ _ _ _ c.is.ensures c.if-is.true (begins refl))

pub returns : goal.returns
unfolding scope_in code
returns c = last c.parse_name.ensures (unless _ _ _ _ c.is.ensures c.if-is.false (begins refl))
