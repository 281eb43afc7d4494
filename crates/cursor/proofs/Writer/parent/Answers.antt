-- `Writer::parent` meets its contract.
use mathlib.Core.Path.{◌∙◌}
use native.Mathlib.Omega.{arith}
use Rattle.ast.specs.Records.{node_width}
use Rattle.cursor.proofs.Bytes.{parent_there}
use Rattle.cursor.proofs.Writer.parent.Goals as goal

pub returns : goal.returns
unfolding node_width
returns c = c.parent.ensures ∙ parent_there node_width _ _ (omega arith)
