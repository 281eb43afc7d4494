-- `write_definitions::write_function_tail` meets its contract.
use Rattle.cursor.proofs.Chain.{begins, kept, last}
use Rattle.write_definitions.proofs.Shapes.{function_tail_is}
use Rattle.write_definitions.proofs.write_function_tail.Goals as goal

pub returns : goal.returns
returns c = last c.put-3.ensures (kept c.write_annotations.ensures _ (kept c.write_throws.ensures _ (kept c.put-2.ensures _ (kept c.write_params.ensures _ (kept c.put.ensures _ (begins (function_tail_is _ _ _ _ _ _ _ _ _)))))))
