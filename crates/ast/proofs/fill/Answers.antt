-- `ast::fill` meets its contract.
use native.Mathlib.Omega.{arith}
use Rattle.ast.proofs.ClearLaws.{clear_none, clear_step, clear_done, cleared_part}
use Rattle.ast.proofs.fill.Goals as goal

pub loop-slot-init : goal.loop-slot-init
loop-slot-init g c = clear_none _ _

pub loop-slot-preserved : goal.loop-slot-preserved
loop-slot-preserved g c =
    let l = c.loop-slot in
    clear_step _ l.slot-index l.slot-items (omega (arith, c.loop-slot-test.true, l.auto.slot-items)) l.invariant

pub returns : goal.returns
returns g c =
    let l = c.loop-slot in
    let done = clear_done c.args.value l.slot-index l.slot-items (omega (arith, c.loop-slot-test.false, l.auto.slot-items)) l.invariant in
    cleared_part _ _ _ _ c.requires done
