-- `move_tables::Table::bad_parent` meets its contract. The invariant: what is found from here on is what is found from the start.
use mathlib.Core.Path.{sym, ◌∙◌}
use native.Mathlib.Omega.{arith}
use borrow.Author.Tests.{not-true, not-false}
use Rattle.ast.specs.Records.{no_parent}
use Rattle.move_tables.proofs.Climbing.{holds_less, scan_start, scan_few, scan_stands, scan_bad, scan_on, scan_done}
use mathlib.Core.Bool.{not}
use mathlib.Core.Path.{ap}
use Rattle.move_tables.proofs.Table.bad_parent.Goals as goal

pub loop-n-init : goal.loop-n-init
unfolding no_parent
loop-n-init g c = scan_start _

pub parent-p-requires : goal.parent-p-requires
parent-p-requires g c = (omega arith, holds_less c.loop-n-test.true c.requires)

pub reaches-requires : goal.reaches-requires
reaches-requires g c = (omega arith, (c.loop-n.n, scan_stands c.loop-n-test.true c.loop-n.invariant c.requires))

pub returns-then-not-reaches : goal.returns-then-not-reaches
returns-then-not-reaches g c =
    let s = c.loop-n.invariant in
    let e = sym (c.reaches.ensures _ s.ancestors (scan_few c.loop-n-test.true s c.requires) s.is) ∙ not-true c.reaches.result (ap not c.if-not-reaches.true) in
    scan_bad c.loop-n-test.true s (rw c.parent-p.ensures at e)

pub loop-n-preserved : goal.loop-n-preserved
loop-n-preserved g c =
    let s = c.loop-n.invariant in
    let e = sym (c.reaches.ensures _ s.ancestors (scan_few c.loop-n-test.true s c.requires) s.is) ∙ not-false c.reaches.result (ap not c.if-not-reaches.false) in
    scan_on c.loop-n-test.true s (rw c.parent-p.ensures at e)

pub returns : goal.returns
returns g c = scan_done c.loop-n-test.false c.loop-n.invariant
