-- `steps::state::Parser::skip_separators` meets its contract.
use mathlib.Core.Path.{sym}
use Rattle.std.specs.Prelude.{true}
use Rattle.steps.specs.Into.{passes}
use Rattle.steps.proofs.Bytes.{separator_some}
use Rattle.steps.proofs.state.Parser.skip_separators.Goals as goal

pub skip_while-requires-clause-some : goal.skip_while-requires-clause-some
skip_while-requires-clause-some c = λ s h. separator_some _ (sym h)

pub returns : goal.returns
unfolding passes
returns c = c.skip_while.ensures true (λ s r h. h)
