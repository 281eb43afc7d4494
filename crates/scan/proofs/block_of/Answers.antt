-- `scan::block_of` meets its contract. The invariant: the scan stands within the comment, behind a star or not.
use mathlib.Core.Path.{◌≡◌, sym}
use mathlib.Core.Logic.{⊎_elim}
use Prim.Native.Nat.{◌+◌, ◌-◌}
use native.Mathlib.Omega.{arith}
use Rattle.token.proofs.Numbers.{lt_or_le}
use Rattle.token.proofs.Reach.{reach_end}
use Rattle.scan.proofs.ScanLaws.{block_first, block_close, block_on}
use Rattle.scan.proofs.block_of.Goals as goal
use Rattle.scan.proofs.block_of.Goals.{else-text-i-eq47-via-then-text-i-eq47+else-text-i-eq42, else-text-i-eq47-via-else-text-i-eq47}

pub loop-i-init : goal.loop-i-init
loop-i-init c h = block_first c.requires h

pub returns-then-text-i-eq42 : goal.returns-then-text-i-eq42
returns-then-text-i-eq42 c =
    sym (block_close _ (c.loop-i.invariant (omega arith)) c.loop-i-test.true c.if-text-i-eq47.true c.if-text-i-eq42.true)

pub loop-i-preserved : goal.loop-i-preserved
loop-i-preserved c h =
    let e : c.loop-i.i + 1 - 1 ≡ c.loop-i.i = omega arith in
    rw e (block_on _ (c.loop-i.invariant (omega arith)) c.loop-i-test.true
    (λ x y. elim c.else-text-i-eq47.branch [
      | else-text-i-eq47-via-then-text-i-eq47+else-text-i-eq42 w ↦ w.if-text-i-eq42.false y
      | else-text-i-eq47-via-else-text-i-eq47 w ↦ w.if-text-i-eq47.false x
    ]))

pub returns : goal.returns
returns c =
    ⊎_elim
    (λ h. sym (reach_end (c.loop-i.invariant (c.loop-i.auto.i-end h)) c.loop-i-test.false))
    (λ h. sym (reach_end c.requires h))
    (lt_or_le 2 _)
