-- `move_tables::bad_tenth` meets its contract. The invariant: `Walked`.
use mathlib.Core.List.{[], ◌∷◌}
use Rattle.ast.specs.Records.{node_width, no_parent}
use Rattle.move_tables.specs.Walk.{parents_from, walk, lower_bad}
use Rattle.move_tables.proofs.Endings.{Walked}
use Rattle.move_tables.proofs.bad_tenth.Given as goal

abbrev pub invariant-loop-n : goal.invariant-loop-n
invariant-loop-n l = Walked node_width l.table.0.now (lower_bad l.table.0.now) l.count l.n l.at l.bad (walk (lower_bad l.table.0.now) 0 (no_parent ∷ []) (parents_from node_width l.table.0.now l.count 0) no_parent)
