-- `parse_members::functions::parse_return_type` meets its contract.
use Rattle.steps.proofs.Chain.{accepted, begins, declined, last}
use Rattle.parse_values.specs.Into.{type_in}
use Rattle.parse_members.proofs.Forms.{return_type_is}
use Rattle.token.specs.Code.{code}
use Rattle.parse_members.proofs.functions.parse_return_type.Goals as goal

pub returns-then-not-accept : goal.returns-then-not-accept
unfolding code
returns-then-not-accept c = let s = c.args.p.now in last c.parse_type.ensures (declined c.accept.ensures _ (type_in s.text.now 32 s.base c.args.parent) c.if-not-accept.true (begins (return_type_is _ _ _ _ _ _)))

pub returns : goal.returns
unfolding code
returns c = last c.put_leaf.ensures (accepted c.accept.ensures _ _ c.if-not-accept.false (begins (return_type_is _ _ _ _ _ _)))
