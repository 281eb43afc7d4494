-- `move_tables::bad_tenth` meets its contract. The invariant: `Walked`.
use native.Mathlib.Omega.{arith}
use Rattle.ast.specs.Records.{node_width, no_parent}
use Rattle.move_tables.proofs.Climbing.{holds_less}
use Rattle.move_tables.proofs.Endings.{walk_start, walk_passes, walk_on, end_passes, end_up, walk_end}
use Rattle.move_tables.proofs.Results.{tenth_missing, tenth_found}
use Rattle.move_tables.proofs.bad_tenth.Goals as goal

pub loop-n-init : goal.loop-n-init
unfolding no_parent
loop-n-init c = walk_start _ c.requires

pub parent-end-requires : goal.parent-end-requires
unfolding node_width
parent-end-requires c = (omega arith, holds_less c.loop-n-test.true c.requires.holds)

pub check_past-bad-requires : goal.check_past-bad-requires
unfolding node_width
check_past-bad-requires c = rw c.parent-end.ensures (walk_passes c.loop-n-test.true c.loop-n.invariant c.requires.holds)

pub loop-n-preserved : goal.loop-n-preserved
unfolding node_width
loop-n-preserved c =
    let k = c.loop-n.invariant in
    walk_on c.loop-n-test.true k _ (rw c.parent-end.ensures at (c.check_past-bad.ensures k.ancestors k.is))

pub check_past-lowest-requires : goal.check_past-lowest-requires
unfolding no_parent
check_past-lowest-requires c = end_passes c.loop-n-test.false c.loop-n.invariant c.requires.holds

pub returns-then-lowest : goal.returns-then-lowest
unfolding no_parent
returns-then-lowest c =
    let k = c.loop-n.invariant in
    let h = c.loop-n-test.false in
    tenth_missing _ _ c.requires.holds.few c.requires (walk_end h k _ (c.check_past-lowest.ensures k.ancestors (end_up h k))) c.if-lowest.true

pub returns-else-lowest : goal.returns-else-lowest
unfolding no_parent
returns-else-lowest c =
    let k = c.loop-n.invariant in
    let h = c.loop-n-test.false in
    tenth_found _ _ c.requires.holds.few c.requires (walk_end h k _ (c.check_past-lowest.ensures k.ancestors (end_up h k))) c.if-lowest.false
