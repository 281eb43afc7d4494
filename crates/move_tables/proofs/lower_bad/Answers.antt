-- `move_tables::lower_bad` meets its contract.
use mathlib.Core.Path.{◌≡◌, refl}
use mathlib.Core.Bool.{Bool, true, false, cond}
use Prim.Native.Nat.{ℕ, min}
use native.Mathlib.Omega.{arith}
use Rattle.std.proofs.Math.Nat.{min-eq_left, min-eq_right}
use lib.Dec.{ltb}
use borrow.Author.Rules.{rules}
use borrow.Author.Tests.{eq-eqb, ne_eqb, ltb-true, ltb-false}
use Rattle.ast.specs.Records.{node_width}
use Rattle.move_tables.specs.Walk.{lower_bad}
use Rattle.move_tables.proofs.lower_bad.Goals as goal

lower_is : (a b : ℕ) → min a b ≡ cond (ltb a b) a b
lower_is a b = by (ltb a b) refl
  where
    by : (x : Bool) → ltb a b ≡ x → min a b ≡ cond x a b
    by true e = min-eq_left (omega (arith, ltb-true a b e))
    by false e = min-eq_right (ltb-false a b e)

pub bounds-table-at : goal.bounds-table-at
unfolding node_width
bounds-table-at c = search rules

pub returns-then-table-at : goal.returns-then-table-at
unfolding lower_bad node_width
returns-then-table-at c = rw (eq-eqb _ _ c.if-table-at.true)

pub returns-else-table-at : goal.returns-else-table-at
unfolding lower_bad node_width
returns-else-table-at c = rw (ne_eqb _ _ c.if-table-at.false, c.min.ensures) (lower_is c.args.a c.args.bad)
