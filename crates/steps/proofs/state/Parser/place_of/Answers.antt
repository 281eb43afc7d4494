-- `steps::state::Parser::place_of` meets its contract.
use Rattle.steps.specs.Into.{place_of}
use Rattle.steps.proofs.state.Parser.place_of.Goals as goal

pub returns : goal.returns
unfolding place_of
returns c = c.saturating_sub.ensures
