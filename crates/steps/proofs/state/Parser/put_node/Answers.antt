-- `steps::state::Parser::put_node` meets its contract.
use mathlib.Core.Path.{refl}
use Rattle.steps.specs.Into.{node_in, put_node}
use Rattle.steps.proofs.Chain.{does}
use Rattle.steps.proofs.state.Parser.put_node.Goals as goal

pub returns : goal.returns
unfolding node_in put_node
returns c = does (rw (c.put_node.ensures, c.from.ensures, c.place_of-index.ensures)) refl refl refl
