-- The lexer may stand where it does.
use Rattle.lexer.specs.Location.{Placed}
use Rattle.replay_tokens.proofs.same_tokens.Given as goal

abbrev pub invariant-loop-row : goal.invariant-loop-row
invariant-loop-row l = Placed l.from
