-- `cursor::copy` meets its contract. The invariant: so many bytes are copied, and the rest is as it was.
use mathlib.Core.Path.{◌≡◌}
use Prim.Native.Nat.{◌≤◌, ◌-◌}
use lib.ListN.{length}
use Rattle.cursor.proofs.Bytes.{copied}
use Rattle.cursor.proofs.copy.Given as goal

abbrev pub invariant-loop-i : goal.invariant-loop-i
invariant-loop-i l = (l.i ≤ length l.bytes) × (length l.out ≡ length l.initial.out) × (l.out ≡ copied l.i l.bytes l.initial.out)

abbrev pub decreases-loop-i : goal.decreases-loop-i
decreases-loop-i l = length l.bytes - l.i
