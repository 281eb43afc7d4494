-- The loop of `replay::pass_bytes`: 4,096 bytes are passed in each turn.
use Rattle.std.proofs.Common.{◌*◌}
use Rattle.input.specs.Known.{Passes}
use Rattle.replay.proofs.pass_bytes.Given as goal

abbrev pub invariant-loop : goal.invariant-loop
invariant-loop g l = Passes (l.counter * 4096) (g.R.Read.remaining l.initial.input) (g.R.Read.remaining l.input)
