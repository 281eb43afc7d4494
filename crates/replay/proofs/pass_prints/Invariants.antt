-- The loop of `replay::pass_prints`: a part is passed in each turn.
use Rattle.replay.specs.List.{PassesParts}
use Rattle.replay.proofs.pass_prints.Given as goal

abbrev pub invariant-loop : goal.invariant-loop
invariant-loop g l = PassesParts l.counter (g.R.Read.remaining l.initial.input) (g.R.Read.remaining l.input)
