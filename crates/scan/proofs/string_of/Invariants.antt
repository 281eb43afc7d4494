-- `scan::string_of` meets its contract. The invariant: the scan stands within the string.
use Prim.Native.Nat.{◌-◌}
use lib.ListN.{length}
use Rattle.std.specs.Prelude.{None}
use Rattle.token.specs.Automaton.{State, Reached}
use Rattle.scan.proofs.string_of.Given as goal

abbrev pub invariant-loop-double : goal.invariant-loop-double
invariant-loop-double l = Reached l.text (State.in_string l.double) l.i None

abbrev pub decreases-loop-double : goal.decreases-loop-double
decreases-loop-double l = length l.text - l.i
