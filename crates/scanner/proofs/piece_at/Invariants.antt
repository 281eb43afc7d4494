-- `scanner::piece_at` meets its contract. The invariant: what is first from here is what was first at the start.
use mathlib.Core.Path.{◌≡◌}
use Prim.Native.Nat.{◌-◌}
use lib.ListN.{length}
use Rattle.scanner.specs.Piece.{piece_at}
use Rattle.scanner.proofs.piece_at.Given as goal

abbrev pub invariant-loop-from : goal.invariant-loop-from
invariant-loop-from l = piece_at l.text l.at ≡ piece_at l.text l.from

abbrev pub decreases-loop-from : goal.decreases-loop-from
decreases-loop-from l = length l.text - l.from
