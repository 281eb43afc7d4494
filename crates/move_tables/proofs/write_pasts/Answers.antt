-- `move_tables::write_pasts` meets its contract. The invariant: `Walked`, and the output's length.
use mathlib.Core.Path.{refl, ap, ◌∙◌}
use native.Mathlib.Omega.{arith}
use lib.ListN.{length}
use Rattle.ast.specs.Records.{comment_width, node_width, no_parent}
use Rattle.move_tables.proofs.Climbing.{holds_less}
use Rattle.move_tables.proofs.Endings.{walk_start, walk_passes, walk_on, end_passes, end_up, walk_end, ends_length}
use Rattle.move_tables.proofs.write_pasts.Goals as goal

pub loop-n-init : goal.loop-n-init
unfolding no_parent
loop-n-init c = (refl, walk_start _ c.requires.0)

pub parent-end-requires : goal.parent-end-requires
unfolding comment_width
parent-end-requires c = (omega arith, holds_less c.loop-n-test.true c.requires.0.holds)

pub write_past-requires : goal.write_past-requires
unfolding comment_width node_width
write_past-requires c = (rw c.parent-end.ensures (walk_passes c.loop-n-test.true c.loop-n.invariant.1 c.requires.0.holds), omega (arith, c.requires.1, c.loop-n.invariant.0, c.loop-n-test.true))

pub loop-n-preserved : goal.loop-n-preserved
unfolding comment_width
loop-n-preserved c =
    let k = c.loop-n.invariant.1 in
    (ap length (c.write_past.ensures k.ancestors k.is) ∙ ends_length _ _ k.ancestors _ ∙ c.loop-n.invariant.0, walk_on c.loop-n-test.true k _ (rw c.parent-end.ensures at (c.write_past.ensures k.ancestors k.is)))

pub write_past-requires-2 : goal.write_past-requires-2
unfolding no_parent node_width
write_past-requires-2 c = (end_passes c.loop-n-test.false c.loop-n.invariant.1 c.requires.0.holds, omega (arith, c.requires.1, c.loop-n.invariant.0))

pub shape_of-out : goal.shape_of-out
shape_of-out c =
    let k = c.loop-n.invariant.1 in
    ap length (c.write_past-2.ensures k.ancestors (end_up c.loop-n-test.false k)) ∙ ends_length _ _ k.ancestors _ ∙ c.loop-n.invariant.0

pub returns : goal.returns
unfolding no_parent
returns c =
    let k = c.loop-n.invariant.1 in
    let h = c.loop-n-test.false in
    walk_end h k _ (c.write_past-2.ensures k.ancestors (end_up h k))
