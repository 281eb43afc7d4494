-- `write_fields::has_value` meets its contract.
use Rattle.write_fields.proofs.Shapes.{no_value, value_unless}
use Rattle.write_fields.proofs.has_value.Goals as goal

pub returns-then-parent-owner : goal.returns-then-parent-owner
returns-then-parent-owner c = value_unless _ _ _ _ c.parent.ensures c.if-parent-owner.true c.is.ensures

pub returns-else-parent-owner : goal.returns-else-parent-owner
returns-else-parent-owner c = no_value _ _ _ _ c.parent.ensures c.if-parent-owner.false
