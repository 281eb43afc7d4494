-- `write_definitions::write_body` meets its contract.
use Rattle.cursor.proofs.Chain.{begins, kept, last}
use Rattle.write_definitions.proofs.Shapes.{body_is}
use Rattle.write_definitions.proofs.write_body.Goals as goal

pub returns : goal.returns
returns g c = λ f. last c.put-2.ensures (kept (c.write_members.ensures f) _ (kept c.put.ensures _ (begins (body_is _ _ _ _ _ _ _ _ _))))
