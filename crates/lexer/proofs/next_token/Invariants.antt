-- `lexer::next_token` meets its contract. The invariant: what is next from here is what was next at the start.
use mathlib.Core.Path.{◌≡◌}
use Prim.Native.Nat.{◌-◌}
use lib.ListN.{length}
use Rattle.lexer.specs.Location.{Placed}
use Rattle.lexer.specs.Tokens.{next}
use Rattle.lexer.proofs.next_token.Given as goal

abbrev pub invariant-loop-from : goal.invariant-loop-from
invariant-loop-from l = Placed l.from × (next l.text l.initial.from ≡ next l.text l.from)

abbrev pub decreases-loop-from : goal.decreases-loop-from
decreases-loop-from l = length l.text - l.from.at
