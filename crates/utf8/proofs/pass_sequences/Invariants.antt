-- `utf8::pass_sequences` meets its contract. The invariant: the bytes from `at` on decide.
use mathlib.Core.Path.{◌≡◌}
use Prim.Native.Nat.{◌≤◌, ◌-◌}
use lib.ListN.{length, drop}
use Rattle.utf8.specs.Utf8.{ill_from}
use Rattle.utf8.proofs.pass_sequences.Given as goal

abbrev pub invariant-loop-at : goal.invariant-loop-at
invariant-loop-at l = (l.at ≤ length l.text) × (ill_from (drop l.from l.text) l.from 0 ≡ ill_from (drop l.at l.text) l.at 0)

abbrev pub decreases-loop-at : goal.decreases-loop-at
decreases-loop-at l = length l.text - l.at
