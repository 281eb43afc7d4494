-- `move_tables::Table::bad_parent` meets its contract. The invariant: what is found from here on is what is found from the start.
use mathlib.Core.List.{[], ◌∷◌}
use Rattle.ast.specs.Records.{no_parent}
use Rattle.move_tables.specs.Moves.{bad_parent}
use Rattle.move_tables.specs.Walk.{parents_from}
use Rattle.move_tables.proofs.Climbing.{Scan}
use Rattle.move_tables.proofs.Table.bad_parent.Given as goal

abbrev pub invariant-loop-n : goal.invariant-loop-n
invariant-loop-n g l = Scan g.row.WIDTH l.self.0.now l.count l.n l.at (bad_parent 0 (no_parent ∷ []) (parents_from g.row.WIDTH l.self.0.now l.count 0))
