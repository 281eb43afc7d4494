-- `parse_definitions::parse_extends` meets its contract.
use Rattle.steps.specs.Into.{done}
use Rattle.steps.proofs.Chain.{accepted, begins, declined, ends, last}
use Rattle.parse_definitions.proofs.Forms.{extends_is}
use Rattle.token.specs.Code.{code}
use Rattle.parse_definitions.proofs.parse_extends.Goals as goal

pub returns-then-not-accept : goal.returns-then-not-accept
unfolding code
returns-then-not-accept c = ends (declined c.accept.ensures _ done c.if-not-accept.true (begins (extends_is _ _ _ _ _ _)))

pub returns : goal.returns
unfolding code
returns c = last c.parse_name.ensures (accepted c.accept.ensures _ _ c.if-not-accept.false (begins (extends_is _ _ _ _ _ _)))
