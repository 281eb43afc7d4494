-- `steps::state::Parser::begin_node` meets its contract.
use mathlib.Core.Path.{refl}
use Rattle.steps.specs.Into.{begin_node_in}
use Rattle.steps.proofs.Chain.{begins, kept, last}
use Rattle.steps.proofs.state.Parser.begin_node.Goals as goal

pub returns : goal.returns
unfolding begin_node_in
returns c = last c.own.ensures (kept c.open.ensures _ (begins refl))
