-- `cursor::copy` meets its contract. The invariant: so many bytes are copied, and the rest is as it was.
use mathlib.Core.Path.{refl}
use native.Mathlib.Omega.{arith}
use lib.ListN.{length-set}
use Rattle.cursor.proofs.Bytes.{copy_step, copy_done}
use Rattle.cursor.proofs.copy.Goals as goal

pub loop-i-init : goal.loop-i-init
loop-i-init c = (omega arith, refl, refl)

pub bounds-out-i : goal.bounds-out-i
bounds-out-i c = omega (arith, c.loop-i-test.true, c.loop-i.invariant.1, c.requires)

pub loop-i-smaller : goal.loop-i-smaller
loop-i-smaller c = omega (arith, c.loop-i-test.true)

pub loop-i-preserved : goal.loop-i-preserved
loop-i-preserved c =
    let l = c.loop-i in
    (omega (arith, c.loop-i-test.true), simp length-set l.invariant.1, copy_step _ _ _ _ c.requires c.loop-i-test.true l.invariant.2)

pub shape_of-out : goal.shape_of-out
shape_of-out c = c.loop-i.invariant.1

pub returns : goal.returns
returns c = copy_done _ _ _ _ c.loop-i.invariant.0 c.loop-i-test.false c.loop-i.invariant.2
