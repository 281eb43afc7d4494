-- `write_fields::write_typed_name` meets its contract.
use Rattle.cursor.proofs.Chain.{begins, kept, last}
use Rattle.write_fields.proofs.Shapes.{typed_name_is}
use Rattle.write_fields.proofs.write_typed_name.Goals as goal

pub returns : goal.returns
returns c = last c.put_token.ensures (kept c.put.ensures _ (kept c.write_outer_type.ensures _ (begins (typed_name_is _ _ _ _ _))))
