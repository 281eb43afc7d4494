-- `scan::block_of` meets its contract. The invariant: the scan stands within the comment, behind a star or not.
use Prim.Native.Nat.{◌-◌, ◌≤◌}
use lib.ListN.{length, get_or}
use Rattle.std.specs.Prelude.{None}
use Rattle.token.specs.Automaton.{Reached}
use Rattle.scan.proofs.ScanLaws.{behind}
use Rattle.scan.proofs.block_of.Given as goal

abbrev pub invariant-loop-i : goal.invariant-loop-i
invariant-loop-i l = l.i ≤ length l.text → Reached l.text (behind (get_or l.text (l.i - 1) 0)) l.i None
