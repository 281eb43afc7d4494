-- `write_definitions::write_namespace` meets its contract.
use Rattle.cursor.proofs.Chain.{begins, kept, last}
use Rattle.write_definitions.proofs.Shapes.{namespace_is}
use Rattle.write_definitions.proofs.write_namespace.Goals as goal

pub returns : goal.returns
returns c = last c.put-2.ensures (kept c.put_token-2.ensures _ (kept c.put.ensures _ (kept c.put_token.ensures _ (begins (namespace_is _ _ _ _)))))
