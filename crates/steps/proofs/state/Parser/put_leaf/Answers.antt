-- `steps::state::Parser::put_leaf` meets its contract.
use mathlib.Core.Path.{refl}
use Rattle.steps.specs.Into.{leaf_in, put_node, put, opened, node_in, open_in, after}
use Rattle.steps.proofs.Chain.{begins, kept, last}
use Rattle.steps.proofs.state.Parser.put_leaf.Goals as goal

pub returns : goal.returns
unfolding leaf_in open_in node_in after put_node put opened
returns c = last c.put_node.ensures (kept c.open.ensures (node_in _ _ _ _ _ _) (begins refl))
