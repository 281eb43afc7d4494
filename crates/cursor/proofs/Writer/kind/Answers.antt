-- `Writer::kind` meets its contract.
use mathlib.Core.Path.{ap, ◌∙◌}
use Rattle.ast.specs.KindNumber.{kind_of}
use Rattle.cursor.proofs.Bytes.{kind_there}
use Rattle.cursor.proofs.Writer.kind.Goals as goal

pub returns : goal.returns
returns c = c.kind.ensures ∙ ap kind_of (kind_there _ _)
