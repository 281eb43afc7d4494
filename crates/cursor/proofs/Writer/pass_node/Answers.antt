-- `Writer::pass_node` meets its contract.
use mathlib.Core.Path.{refl}
use Rattle.cursor.specs.Onto.{pass_node}
use Rattle.cursor.proofs.Writer.pass_node.Goals as goal

pub returns : goal.returns
unfolding pass_node
returns c = record { goes = rw c.bump-self.ensures; same = refl; lent = refl }
