-- `replay::pass_prints` meets its contract.
use mathlib.Core.Path.{◌≡◌, refl}
use Prim.Native.Nat.{suc, ◌+◌}
use native.Mathlib.Omega.{arith}
use Rattle.replay.specs.List.{PassesParts}
use Rattle.replay.proofs.pass_prints.Goals as goal

pub loop-init : goal.loop-init
unfolding PassesParts
loop-init g c = refl

pub loop-preserved : goal.loop-preserved
unfolding PassesParts
loop-preserved g c =
    let e : c.loop.counter + 1 ≡ suc c.loop.counter = omega arith in
    rw e (_, c.loop.invariant, c.in_ok-pass_part.ensures)
