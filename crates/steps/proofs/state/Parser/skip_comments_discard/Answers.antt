-- `steps::state::Parser::skip_comments_discard` meets its contract.
use mathlib.Core.Path.{sym}
use Rattle.std.specs.Prelude.{false}
use Rattle.steps.specs.Into.{passes}
use Rattle.steps.proofs.Bytes.{comment_some}
use Rattle.steps.proofs.state.Parser.skip_comments_discard.Goals as goal

pub skip_while-requires-clause-some : goal.skip_while-requires-clause-some
skip_while-requires-clause-some c = λ s h. comment_some _ (sym h)

pub returns : goal.returns
unfolding passes
returns c = c.skip_while.ensures false (λ s r h. h)
