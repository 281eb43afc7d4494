-- `utf8::ill_formed` meets its contract. The invariant: the bytes from `at` on decide.
use mathlib.Core.Path.{refl, sym, ◌∙◌}
use Prim.Native.Nat.{◌+◌}
use native.Mathlib.Omega.{arith}
use lib.ListN.{drop_of_length-le}
use Rattle.utf8.specs.Utf8.{ill_from, ill_formed}
use Rattle.utf8.proofs.Utf8Laws.{ascii_part}
use Rattle.utf8.proofs.ill_formed.Goals as goal

pub loop-at-init : goal.loop-at-init
unfolding ill_formed
loop-at-init c = (omega arith, refl)

pub loop-at-preserved-then-is_ascii : goal.loop-at-preserved-then-is_ascii
loop-at-preserved-then-is_ascii c =
    (omega arith, c.loop-at.invariant.1 ∙ ascii_part _ c.loop-at.at (c.loop-at.at + c.min.result) (omega arith) (omega arith) c.if-is_ascii.ensures.cases)

pub returns-in-Err : goal.returns-in-Err
returns-in-Err c = sym (c.loop-at.invariant.1 ∙ c.in-Err.ensures.1)

pub loop-at-smaller : goal.loop-at-smaller
loop-at-smaller c = omega (arith, c.in-Ok.ensures.behind)

pub loop-at-preserved : goal.loop-at-preserved
loop-at-preserved c = (c.in-Ok.ensures.within, c.loop-at.invariant.1 ∙ c.in-Ok.ensures.onward)

pub returns : goal.returns
unfolding ill_from
returns c = sym (rw (drop_of_length-le _ c.loop-at-test.false) at c.loop-at.invariant.1)
