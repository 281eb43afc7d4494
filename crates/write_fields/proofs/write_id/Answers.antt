-- `write_fields::write_id` meets its contract.
use Rattle.cursor.proofs.Chain.{begins, kept, last, ends, when, unless}
use Rattle.write_fields.proofs.Shapes.{id_is}
use Rattle.write_fields.proofs.write_id.Goals as goal

pub returns-then-is : goal.returns-then-is
returns-then-is c = last c.put.ensures (kept c.put_token.ensures _ (when _ _ _ _ c.is.ensures c.if-is.true (begins (id_is _ _ _ _ _))))

pub returns-else-is : goal.returns-else-is
returns-else-is c = ends (unless _ _ _ _ c.is.ensures c.if-is.false (begins (id_is _ _ _ _ _)))
