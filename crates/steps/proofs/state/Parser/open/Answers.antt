-- `steps::state::Parser::open` meets its contract.
use mathlib.Core.Path.{refl}
use Rattle.steps.specs.Into.{open_in, opened}
use Rattle.steps.proofs.Chain.{does}
use Rattle.steps.proofs.state.Parser.open.Goals as goal

pub returns : goal.returns
unfolding open_in opened
returns c = does (rw c.bump-self.ensures) refl refl refl
