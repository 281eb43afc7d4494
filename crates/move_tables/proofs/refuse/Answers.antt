-- `move_tables::refuse` meets its contract.
use Rattle.lexer.specs.Refusal.{said_by}
use Rattle.move_tables.specs.Moves.{into}
use Rattle.steps.proofs.Cells.{clears, wipe_all}
use Rattle.move_tables.proofs.refuse.Goals as goal

pub returns : goal.returns
unfolding into said_by
returns c = rw (clears 0 c.args.out.now c.clear.new.list c.clear.ensures, c.at.ensures, wipe_all)
