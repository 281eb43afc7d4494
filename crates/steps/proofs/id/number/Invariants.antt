-- `steps::id::number` meets its contract. The invariant: the value so far and the digits behind it make the number.
use mathlib.Core.Path.{◌≡◌}
use Prim.Native.Nat.{◌<◌, ◌^◌}
use lib.ListN.{drop}
use Rattle.parser.specs.Definitions.{decimal}
use Rattle.steps.proofs.id.number.Given as goal

abbrev pub invariant-loop-digit : goal.invariant-loop-digit
invariant-loop-digit l = (l.value < 2 ^ 64) × (decimal 0 l.digits ≡ decimal l.value (drop l.digit-index l.digits))
