-- `scan::word_from` meets its contract. The invariant: the scan stands within a word, and the number is that of the bytes from `at` on, made from the number given.
use mathlib.Core.Path.{◌≡◌}
use Prim.Native.Nat.{◌-◌, ◌≤◌}
use lib.ListN.{length}
use lib.Seq.{slice}
use Rattle.token.specs.declared.Token.TheVariants as T
use Rattle.std.specs.Prelude.{Some}
use Rattle.token.specs.Automaton.{State, Reached}
use Rattle.token.specs.WordNumber.{number_from}
use Rattle.scan.proofs.word_from.Given as goal

abbrev pub invariant-loop-i : goal.invariant-loop-i
invariant-loop-i l = Reached l.text State.named l.i (Some (T.Identifier, l.i)) × (l.at ≤ l.i) × (l.now ≡ number_from l.number (slice l.at l.i l.text))

abbrev pub decreases-loop-i : goal.decreases-loop-i
decreases-loop-i l = length l.text - l.i
