-- `move_tables::lay` meets its contract.
use mathlib.Core.Path.{refl}
use native.Mathlib.Nat.{mul-le-mul_right}
use native.Mathlib.Omega.{arith}
use Rattle.ast.specs.Records.{node_width}
use Rattle.move_tables.proofs.Copying.{placed}
use Rattle.steps.proofs.Cells.{clears}
use Rattle.move_tables.proofs.lay.Goals as goal

pub overflow_mul-needed : goal.overflow_mul-needed
unfolding node_width
overflow_mul-needed g c = let m = mul-le-mul_right g.row.NEW c.requires.few in omega (arith, m, c.requires.short')

pub returns-then-out-needed : goal.returns-then-out-needed
returns-then-out-needed g c = (c.if-out-needed.true, c.refuse.ensures)

pub returns : goal.returns
returns g c = (refl, c.if-out-needed.false, placed _ c.requires.wide' c.if-out-needed.false c.copy.ensures (clears _ _ _ c.clear.ensures))
