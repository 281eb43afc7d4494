-- `move_tables::write_past` meets its contract. The invariant: `Ending`, and the output's length.
use mathlib.Core.Path.{◌≡◌}
use lib.ListN.{length}
use Rattle.move_tables.specs.Ancestors.{left}
use Rattle.move_tables.specs.Walk.{writes}
use Rattle.move_tables.proofs.Endings.{Ending, done}
use Rattle.move_tables.proofs.write_past.Given as goal

abbrev pub invariant-loop-a : goal.invariant-loop-a
invariant-loop-a l =
    goal.iterator-loop-a.can_next l.a-iterator
    × goal.iterator-loop-a.is_finite l.a-iterator
    × (length l.out ≡ length l.initial.out)
    × Ending (writes l.n) l.n (done (writes l.n) (left l.fn.ended) l.initial.out) (left l.a-iterator) l.out
