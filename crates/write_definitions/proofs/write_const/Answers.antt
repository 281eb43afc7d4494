-- `write_definitions::write_const` meets its contract.
use Rattle.cursor.proofs.Chain.{begins, kept, last}
use Rattle.write_definitions.proofs.Shapes.{const_is}
use Rattle.write_definitions.proofs.write_const.Goals as goal

pub returns : goal.returns
returns c = last c.put-2.ensures (kept c.write_value.ensures _ (kept c.put.ensures _ (kept c.write_typed_name.ensures _ (begins (const_is _ _ _ _ _)))))
