-- The lexer may stand where it does; each token leads it further into the text.
use Rattle.std.proofs.Common.{length, ◌-◌}
use Rattle.lexer.specs.Location.{Placed}
use Rattle.tokens.proofs.write_tokens.Given as goal

abbrev pub invariant-loop-token : goal.invariant-loop-token
invariant-loop-token l = Placed l.from

abbrev pub decreases-loop-token : goal.decreases-loop-token
decreases-loop-token l = length l.text - l.from.at
