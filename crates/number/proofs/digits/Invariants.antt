-- `number::digits` meets its contract. The invariant: the value so far and the digits behind it make the number.
use mathlib.Core.Path.{◌≡◌}
use lib.ListN.{drop}
use Rattle.number.specs.Value.{digits}
use Rattle.number.proofs.digits.Given as goal

abbrev pub invariant-loop-byte : goal.invariant-loop-byte
invariant-loop-byte l = digits l.base 0 l.bytes ≡ digits l.base l.value (drop l.byte-index l.bytes)
