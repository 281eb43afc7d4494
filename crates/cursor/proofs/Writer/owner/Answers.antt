-- `Writer::owner` meets its contract.
use mathlib.Core.Path.{◌∙◌}
use native.Mathlib.Omega.{arith}
use Rattle.ast.specs.Records.{comment_width}
use Rattle.cursor.proofs.Bytes.{parent_there}
use Rattle.cursor.proofs.Writer.owner.Goals as goal

pub returns : goal.returns
unfolding comment_width
returns c = c.owner.ensures ∙ parent_there comment_width _ _ (omega arith)
