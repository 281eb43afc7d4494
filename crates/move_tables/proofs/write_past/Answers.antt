-- `move_tables::write_past` meets its contract. The invariant: `Ending`, and the output's length.
use mathlib.Core.Path.{refl, ◌∙◌}
use native.Mathlib.Omega.{arith}
use lib.ListN.{length-set}
use Rattle.ast.specs.Records.{comment_width, node_width}
use Rattle.move_tables.specs.Ancestors.{left}
use Rattle.move_tables.specs.Walk.{writes}
use Rattle.move_tables.proofs.Endings.{ending_start, ending_below, ending_on, ending_done, ending_is}
use Rattle.move_tables.proofs.write_past.Goals as goal

pub loop-a-init : goal.loop-a-init
unfolding left comment_width
loop-a-init c = rw c.into_iter-a-iterator.ensures.into_iter_gives ((c.args.n, c.requires.0), tt, refl, ending_start _ c.requires.0 _)

pub bounds-out-k : goal.bounds-out-k
unfolding node_width
bounds-out-k c = omega (arith, ending_below c.in-Some.ensures.steps c.loop-a.invariant.3, c.requires.0.holds.few, c.requires.1, c.loop-a.invariant.2)

pub loop-a-preserved : goal.loop-a-preserved
unfolding writes node_width
loop-a-preserved c =
    let goes = c.in-Some.ensures.goes.on tt in
    (goes.0, goes.1, simp length-set c.loop-a.invariant.2, ending_on c.in-Some.ensures.steps c.loop-a.invariant.3)

pub returns : goal.returns
unfolding left comment_width
returns c = λ ancestors is. ending_done c.in-None.ensures.steps.0 c.loop-a.invariant.3 ∙ ending_is _ c.requires.0 _ ancestors is
