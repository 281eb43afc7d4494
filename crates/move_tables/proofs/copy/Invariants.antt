-- `move_tables::copy` meets its contract. The invariant: so many records are copied.
use Rattle.move_tables.specs.Walk.{Copied}
use Rattle.move_tables.proofs.copy.Given as goal

abbrev pub invariant-loop-n : goal.invariant-loop-n
invariant-loop-n g l = Copied l.table.0.now g.row.OLD g.row.NEW l.n l.initial.out l.out
