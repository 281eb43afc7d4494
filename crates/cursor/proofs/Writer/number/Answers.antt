-- `Writer::number` meets its contract.
use mathlib.Core.Path.{◌∙◌}
use Rattle.ast.specs.Records.{node_width}
use Rattle.cursor.proofs.Bytes.{number_there}
use Rattle.cursor.proofs.Writer.number.Goals as goal

pub returns : goal.returns
returns c = c.number.ensures ∙ number_there node_width _ _ _
