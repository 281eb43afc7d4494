-- `move_tables::AncestorsIterator::next` meets its contract.
use native.Mathlib.Omega.{arith}
use Rattle.move_tables.specs.Ancestors.{left}
use Rattle.move_tables.proofs.Climbing.{left_none, climb_holds, climb_next, left_on, left_less}
use Rattle.move_tables.proofs.AncestorsIterator.next.Goals as goal

pub returns-then-self-clause-steps : goal.returns-then-self-clause-steps
unfolding left
returns-then-self-clause-steps g c = (left_none _ _ c.if-self.true, left_none _ _ c.if-self.true)

pub parent-self-requires : goal.parent-self-requires
parent-self-requires g c = (omega arith, climb_holds c.if-self.false c.requires.1)

pub returns-clause-steps : goal.returns-clause-steps
unfolding left
returns-clause-steps g c = rw c.parent-self.ensures (left_on c.if-self.false c.requires.1)

pub returns-clause-goes : goal.returns-clause-goes
unfolding left
returns-clause-goes g c =
    let up = c.parent-self.ensures in
    let on = climb_next c.if-self.false c.requires.1 up in
    record { on = λ i. (on, tt, rw up (left_less c.if-self.false c.requires.1)); keeps = on; rests = λ i. tt }
