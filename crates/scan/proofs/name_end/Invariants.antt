-- `scan::name_end` meets its contract. The invariant: the scan stands at the end of a piece of the identifier.
use Prim.Native.Nat.{◌≤◌, ◌<◌, ◌-◌}
use lib.ListN.{length, get_or}
use Rattle.token.specs.declared.Token.TheVariants as T
use Rattle.std.specs.Prelude.{Some}
use Rattle.token.specs.Run.{class_of}
use Rattle.token.specs.Automaton.{State, Reached}
use Rattle.scan.proofs.name_end.Given as goal

abbrev pub invariant-loop-i : goal.invariant-loop-i
invariant-loop-i l = Reached l.text State.named l.i (Some (T.Identifier, l.i)) × (l.at ≤ l.i) × (l.i < length l.text → 36 ≤ class_of (get_or l.text l.i 0))

abbrev pub decreases-loop-i : goal.decreases-loop-i
decreases-loop-i l = length l.text - l.i
