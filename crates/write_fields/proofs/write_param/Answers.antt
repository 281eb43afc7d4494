-- `write_fields::write_param` meets its contract.
use Rattle.cursor.proofs.Chain.{begins, kept, last}
use Rattle.write_fields.proofs.Shapes.{param_is}
use Rattle.write_fields.proofs.write_param.Goals as goal

pub returns : goal.returns
returns c = last c.pass_below.ensures (kept c.write_field_head.ensures _ (kept c.pass_node.ensures _ (kept c.pass_comments.ensures _ (begins (param_is _ _ _ _ _ _ _)))))
