-- `parse_members::functions::parse_throws` meets its contract.
use Rattle.steps.specs.Into.{done}
use Rattle.steps.proofs.Chain.{accepted, begins, declined, ends, last}
use Rattle.parse_members.proofs.Forms.{throws_is}
use Rattle.token.specs.Code.{code}
use Rattle.parse_members.proofs.functions.parse_throws.Goals as goal

pub returns-then-not-accept : goal.returns-then-not-accept
unfolding code
returns-then-not-accept c = ends (declined c.accept.ensures _ done c.if-not-accept.true (begins (throws_is _ _ _ _ _ _)))

pub returns : goal.returns
unfolding code
returns c = last c.parse_fields.ensures (accepted c.accept.ensures _ _ c.if-not-accept.false (begins (throws_is _ _ _ _ _ _)))
