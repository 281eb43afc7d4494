-- `write_fields::write_annotation` meets its contract.
use Rattle.cursor.proofs.Chain.{begins, kept, last}
use Rattle.write_fields.proofs.Shapes.{annotation_is}
use Rattle.write_fields.proofs.write_annotation.Goals as goal

pub returns : goal.returns
returns c = last c.put_token-2.ensures (kept c.put.ensures _ (kept c.put_token.ensures _ (kept c.pass_node.ensures _ (begins (annotation_is _ _ _ _)))))
