-- `steps::state::Parser::error` meets its contract.
use Rattle.steps.specs.Into.{refused}
use Rattle.steps.proofs.AheadTests.{some_ahead, none_ahead}
use Rattle.steps.proofs.state.Parser.error.Goals as goal

pub returns-in-Some : goal.returns-in-Some
unfolding refused
returns-in-Some c = λ t u. rw (some_ahead _ c.in-Some.is)

pub returns-in-None : goal.returns-in-None
unfolding refused
returns-in-None c = λ t u. rw (none_ahead _ c.in-None.is)
