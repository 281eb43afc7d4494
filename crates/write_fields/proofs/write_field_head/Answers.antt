-- `write_fields::write_field_head` meets its contract.
use Rattle.cursor.proofs.Chain.{begins, kept, last}
use Rattle.write_fields.proofs.Shapes.{field_head_is}
use Rattle.write_fields.proofs.write_field_head.Goals as goal

pub returns : goal.returns
returns c = last c.write_default.ensures (kept c.write_typed_name.ensures _ (kept c.write_required.ensures _ (kept c.write_id.ensures _ (begins (field_head_is _ _ _ _ _ _ _)))))
