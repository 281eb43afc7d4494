-- `move_tables::check_past` meets its contract. The invariant: `Ending`.
use mathlib.Core.Path.{◌∙◌}
use Rattle.ast.specs.Records.{node_width}
use Rattle.move_tables.specs.Ancestors.{left}
use Rattle.move_tables.proofs.Climbing.{holds_less}
use Rattle.move_tables.proofs.Endings.{ending_start, ending_below, ending_on, ending_done, ending_is}
use Rattle.move_tables.proofs.check_past.Goals as goal

pub loop-a-init : goal.loop-a-init
unfolding left node_width
loop-a-init c = rw c.into_iter-a-iterator.ensures.into_iter_gives ((c.args.n, c.requires), tt, ending_start _ c.requires _)

pub lower_bad-lowest-requires : goal.lower_bad-lowest-requires
lower_bad-lowest-requires c = holds_less (ending_below c.in-Some.ensures.steps c.loop-a.invariant.2) c.requires.holds

pub loop-a-preserved : goal.loop-a-preserved
loop-a-preserved c =
    let goes = c.in-Some.ensures.goes.on tt in
    (goes.0, goes.1, rw c.lower_bad-lowest.ensures (ending_on c.in-Some.ensures.steps c.loop-a.invariant.2))

pub returns : goal.returns
unfolding left node_width
returns c = λ ancestors is. ending_done c.in-None.ensures.steps.0 c.loop-a.invariant.2 ∙ ending_is _ c.requires _ ancestors is
