-- `Writer::put_token` meets its contract.
use mathlib.Core.Path.{◌∙◌}
use native.Mathlib.Omega.{arith}
use Rattle.ast.specs.Column as C
use Rattle.ast.specs.Records.{node_width}
use Rattle.cursor.proofs.Bytes.{number_in, token_is}
use Rattle.cursor.proofs.Chain.{begins, kept, last}
use Rattle.cursor.proofs.Writer.put_token.Goals as goal

pub returns : goal.returns
unfolding node_width
returns c =
    let r = c.part-part.ensures in
    let e = token_is _ _ _ _ _ _ (r.0 ∙ number_in node_width _ _ C.Start (omega arith)) (r.1 ∙ number_in node_width _ _ C.End (omega arith)) in
    last c.pass_node.ensures (kept c.put_part.ensures _ (begins e))
