-- `steps::state::Parser::parse_members` meets its contract.
use Rattle.steps.specs.Into.{numbered, take_in}
use Rattle.steps.specs.Reads.{Source}
use Rattle.steps.proofs.state.Parser.parse_members.Goals as goal

pub returns : goal.returns
unfolding numbered
returns g c = λ b m r f h i. c.parse_until.ensures b (λ (x : Source). take_in x.text) m r f h (λ s r t j. j) i
