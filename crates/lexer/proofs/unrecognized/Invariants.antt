-- `lexer::unrecognized` meets its contract. The invariant: the cuts behind the offset decide.
use mathlib.Core.Path.{◌≡◌}
use Prim.Native.Nat.{◌-◌}
use lib.ListN.{length, drop}
use Rattle.lexer.specs.Cuts.{cuts, unrecognized}
use Rattle.lexer.proofs.unrecognized.Given as goal

abbrev pub invariant-loop-at : goal.invariant-loop-at
invariant-loop-at l = unrecognized (cuts (drop l.from l.text)) l.from ≡ unrecognized (cuts (drop l.at l.text)) l.at

abbrev pub decreases-loop-at : goal.decreases-loop-at
decreases-loop-at l = length l.text - l.at
