-- `cursor::spaces` meets its contract. The invariant: the spaces left, from here, make what all of them make.
use mathlib.Core.Path.{refl}
use lib.ListN.{length-set}
use Rattle.cursor.proofs.Bytes.{spaces_all, spaces_none, spaces_turn, spaces_full}
use Rattle.cursor.proofs.spaces.Goals as goal

pub loop-init : goal.loop-init
loop-init c = (refl, spaces_all _ _ _)

pub returns-then-out-length : goal.returns-then-out-length
returns-then-out-length c = spaces_full _ _ _ c.args.at _ _ c.loop.invariant.1 c.loop-test.true c.if-out-length.true

pub loop-preserved : goal.loop-preserved
loop-preserved c =
    let l = c.loop in
    (simp length-set l.invariant.0, spaces_turn _ _ _ c.args.at _ _ l.invariant.1 c.loop-test.true c.if-out-length.false)

pub returns : goal.returns
returns c = spaces_none _ _ _ c.args.at _ _ c.loop.invariant.1 c.loop-test.false
