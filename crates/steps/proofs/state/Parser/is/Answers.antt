-- `steps::state::Parser::is` meets its contract.
use Rattle.steps.specs.Into.{numbered}
use Rattle.steps.proofs.state.Parser.is.Goals as goal

pub returns : goal.returns
unfolding numbered
returns c = c.meets.ensures
