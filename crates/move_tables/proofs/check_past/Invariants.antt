-- `move_tables::check_past` meets its contract. The invariant: `Ending`.
use Rattle.move_tables.specs.Ancestors.{left}
use Rattle.move_tables.specs.Walk.{lower_bad}
use Rattle.move_tables.proofs.Endings.{Ending, done}
use Rattle.move_tables.proofs.check_past.Given as goal

abbrev pub invariant-loop-a : goal.invariant-loop-a
invariant-loop-a l =
    let f = lower_bad l.table.0.now l.n in
    goal.iterator-loop-a.can_next l.a-iterator
    × goal.iterator-loop-a.is_finite l.a-iterator
    × Ending f l.n (done f (left l.fn.ended) l.fn.bad) (left l.a-iterator) l.lowest
