-- `Writer::kind_number` meets its contract.
use mathlib.Core.Path.{◌∙◌}
use Rattle.cursor.proofs.Bytes.{kind_there}
use Rattle.cursor.proofs.Writer.kind_number.Goals as goal

pub returns : goal.returns
returns c = c.kind_number.ensures ∙ kind_there _ _
