-- `scan::find` meets its contract. The invariant: no byte from `at` on and before `i` passes.
use Prim.Native.Nat.{ℕ, ◌<◌, ◌≤◌}
use mathlib.Core.Bool.{false}
use lib.ListN.{get_or}
use Rattle.scan.proofs.find.Given as goal

abbrev pub invariant-loop-i : goal.invariant-loop-i
invariant-loop-i g l = (j : ℕ) → l.at ≤ j → j < l.i → goal.F-post g l.test (get_or l.text j 0) false
