-- `steps::state::Parser::meets` meets its contract.
use mathlib.Core.Path.{◌∙◌}
use Rattle.steps.proofs.AheadTests.{ahead_same}
use Rattle.steps.proofs.state.Parser.meets.Goals as goal

pub returns : goal.returns
returns c = c.eq.ensures ∙ ahead_same _ _
