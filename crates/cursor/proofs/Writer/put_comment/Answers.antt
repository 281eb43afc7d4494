-- `Writer::put_comment` meets its contract.
use mathlib.Core.Path.{◌∙◌}
use native.Mathlib.Omega.{arith}
use Rattle.token.specs.Regex.{bytes as ascii}
use Rattle.ast.specs.Column as C
use Rattle.ast.specs.Records.{comment_width}
use Rattle.cursor.specs.Onto.{say_out}
use Rattle.cursor.proofs.Bytes.{number_in, comment_is}
use Rattle.cursor.proofs.Chain.{begins, kept, last}
use Rattle.cursor.proofs.Writer.put_comment.Goals as goal

pub returns : goal.returns
unfolding comment_width say_out ascii
returns c =
    let r = c.part-note.ensures in
    let e = comment_is _ _ _ _ _ _ _ (r.0 ∙ number_in comment_width _ _ C.Start (omega arith)) (r.1 ∙ number_in comment_width _ _ C.End (omega arith)) in
    last c.pass_comment.ensures (kept c.put.ensures _ (kept c.put_part.ensures _ (kept c.put_spaces.ensures _ (begins e))))
