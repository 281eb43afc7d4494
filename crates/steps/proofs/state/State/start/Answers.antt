-- `steps::state::State::start` meets its contract.
use Rattle.steps.specs.Into.{start_at}
use Rattle.steps.proofs.AheadTests.{some_ahead, none_ahead}
use Rattle.steps.proofs.state.State.start.Goals as goal

pub returns-in-Some : goal.returns-in-Some
unfolding start_at
returns-in-Some c = rw (some_ahead _ c.in-Some.is)

pub returns-in-None : goal.returns-in-None
unfolding start_at
returns-in-None c = rw (none_ahead _ c.in-None.is)
