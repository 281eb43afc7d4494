-- `write_definitions::write_function` meets its contract.
use Rattle.cursor.proofs.Chain.{begins, so, line_start, kept, last}
use Rattle.write_definitions.proofs.Shapes.{function_is}
use Rattle.write_definitions.proofs.write_function.Goals as goal

pub returns : goal.returns
returns c = last c.write_function_tail.ensures (kept c.write_typed_name.ensures _ (kept c.write_oneway.ensures _ (kept c.start_line.ensures _ (so _ (line_start _ _ _ _) (begins (function_is _ _ _ _ _ _ _ _ c.number-flags.ensures))))))
