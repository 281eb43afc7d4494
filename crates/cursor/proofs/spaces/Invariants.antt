-- `cursor::spaces` meets its contract. The invariant: the spaces left, from here, make what all of them make.
use mathlib.Core.Path.{◌≡◌}
use Prim.Native.Nat.{◌-◌}
use lib.ListN.{length}
use Rattle.cursor.specs.Onto.{spaces_out}
use Rattle.cursor.proofs.Bytes.{up_to}
use Rattle.cursor.proofs.spaces.Given as goal

abbrev pub invariant-loop : goal.invariant-loop
invariant-loop l = (length l.out ≡ length l.initial.out) × (spaces_out l.count l.at l.initial.out ≡ spaces_out (l.count - l.counter) (up_to l.at l.length) l.out)
