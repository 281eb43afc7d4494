-- `write_definitions::write_extends` meets its contract.
use Rattle.cursor.proofs.Chain.{begins, kept, last, ends, when, unless}
use Rattle.write_definitions.proofs.Shapes.{extends_is}
use Rattle.write_definitions.proofs.write_extends.Goals as goal

pub returns-then-is : goal.returns-then-is
returns-then-is c = last c.put_token.ensures (kept c.put.ensures _ (when _ _ _ _ c.is.ensures c.if-is.true (begins (extends_is _ _ _ _ _))))

pub returns-else-is : goal.returns-else-is
returns-else-is c = ends (unless _ _ _ _ c.is.ensures c.if-is.false (begins (extends_is _ _ _ _ _)))
