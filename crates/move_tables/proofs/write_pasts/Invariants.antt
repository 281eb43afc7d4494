-- `move_tables::write_pasts` meets its contract. The invariant: `Walked`, and the output's length.
use mathlib.Core.Path.{◌≡◌}
use mathlib.Core.List.{[], ◌∷◌}
use lib.ListN.{length}
use Rattle.ast.specs.Records.{no_parent}
use Rattle.move_tables.specs.Moves.{narrow_width}
use Rattle.move_tables.specs.Walk.{parents_from, walk, writes}
use Rattle.move_tables.proofs.Endings.{Walked}
use Rattle.move_tables.proofs.write_pasts.Given as goal

abbrev pub invariant-loop-n : goal.invariant-loop-n
invariant-loop-n l = (length l.out ≡ length l.initial.out) × (Walked narrow_width l.table.0.now writes l.count l.n l.at l.out (walk writes 0 (no_parent ∷ []) (parents_from narrow_width l.table.0.now l.count 0) l.initial.out))
