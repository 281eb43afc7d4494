-- `Writer::pass_comment` meets its contract.
use mathlib.Core.Path.{refl}
use Rattle.cursor.specs.Onto.{pass_comment}
use Rattle.cursor.proofs.Writer.pass_comment.Goals as goal

pub returns : goal.returns
unfolding pass_comment
returns c = record { goes = rw c.bump-self.ensures; same = refl; lent = refl }
