-- `steps::state::Parser::is_comment` meets its contract.
use Rattle.steps.proofs.AheadTests.{or_yes, or_no}
use Rattle.steps.specs.Into.{is_comment}
use Rattle.token.specs.Code.{code}
use Rattle.steps.proofs.state.Parser.is_comment.Goals as goal

pub returns-then-is : goal.returns-then-is
unfolding is_comment code
returns-then-is c = or_yes _ c.is.ensures c.if-is.true

pub returns-else-is : goal.returns-else-is
unfolding is_comment code
returns-else-is c = or_no c.is.ensures c.if-is.false c.is-else-is.ensures
