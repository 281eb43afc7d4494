-- `ast::fill` meets its contract. The invariant: with the values left filled, all are.
use mathlib.Core.Path.{◌≡◌}
use lib.ListN.{length, replicate}
use Rattle.ast.proofs.ClearLaws.{rest}
use Rattle.ast.proofs.fill.Given as goal

abbrev pub invariant-loop-slot : goal.invariant-loop-slot
invariant-loop-slot g l = rest l.value l.slot-index l.slot-items ≡ replicate (length l.initial.slot-items) l.value
