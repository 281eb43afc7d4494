-- `Writer::start_line` meets its contract.
use mathlib.Core.Path.{refl}
use Rattle.cursor.specs.Onto.{Reached, then, ◌⨟◌, comments_out, spaces_out, pass_node}
use Rattle.cursor.specs.Writes.{source}
use Rattle.cursor.proofs.Bytes.{comments_nothing}
use Rattle.cursor.proofs.Chain.{Left, begins, kept, skipped, last}
use Rattle.cursor.proofs.Writer.start_line.Goals.{then-owner-self, else-owner-self}
use Rattle.cursor.proofs.Writer.start_line.Goals as goal

pub returns : goal.returns
returns c =
    let s = c.args.self.now in
    let x = source s in
    let t = c.if-owner-self.self in
    let Z : Reached = then (comments_out x.text x.comments x.total s.at.node x.indent s.at s.out.now) (spaces_out x.indent ⨟ pass_node) in
    let v : Left Z s ((spaces_out x.indent ⨟ pass_node) t.at t.out.now) t
    = elim c.if-owner-self.branch [
      | then-owner-self w ↦ rw w.self-is (kept w.put_comments.ensures _ (begins refl))
      | else-owner-self w ↦ rw w.self-is (skipped _ (comments_nothing _ _ _ _ _ _ c.owner.ensures w.if-owner-self.false) (begins refl))
    ] in
    last c.pass_node.ensures (kept c.put_spaces.ensures _ v)
