-- `parse_members::enums::parse_initializer` meets its contract.
use Rattle.steps.specs.Into.{done}
use Rattle.steps.proofs.Chain.{accepted, begins, declined, ends, last, unless, when}
use Rattle.parse_members.proofs.Forms.{initializer_is}
use Rattle.token.specs.Code.{code}
use Rattle.parse_members.proofs.enums.parse_initializer.Goals as goal

pub returns-then-not-accept : goal.returns-then-not-accept
unfolding code
returns-then-not-accept c = ends (declined c.accept.ensures _ done c.if-not-accept.true (begins (initializer_is _ _ _ _ _ _)))

pub returns-then-is : goal.returns-then-is
unfolding code
returns-then-is c =
    last c.parse_leaf.ensures
    (when _ _ _ _ c.is.ensures c.if-is.true (accepted c.accept.ensures _ _ c.if-not-accept.false (begins (initializer_is _ _ _ _ _ _))))

pub returns : goal.returns
unfolding code
returns c =
    last c.parse_leaf-2.ensures
    (unless _ _ _ _ c.is.ensures c.if-is.false (accepted c.accept.ensures _ _ c.if-not-accept.false (begins (initializer_is _ _ _ _ _ _))))
