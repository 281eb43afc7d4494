-- `write_definitions::write_member` meets its contract.
use Rattle.cursor.proofs.Chain.{begins, so, line_start, kept, skipped, last, parented}
use Rattle.write_fields.proofs.Shapes.{annotations_none, assigned_none}
use Rattle.write_definitions.proofs.Shapes.{member_is}
use Rattle.write_definitions.proofs.write_member.Goals as goal

pub returns-then-parent-owner : goal.returns-then-parent-owner
returns-then-parent-owner c =
    let v = kept c.put_token.ensures _ (kept c.start_line.ensures _ (so _ (line_start _ _ _ _) (begins (member_is _ _ _ _ _ _ _ _)))) in
    let e = parented v c.parent.ensures in
    let f = c.if-parent-owner.true in
    last c.put.ensures (skipped _ (annotations_none _ _ _ _ _ e f _) (skipped _ (assigned_none _ _ _ _ _ e f _) v))

pub returns : goal.returns
returns c =
    last c.put-2.ensures
    (kept c.write_annotations.ensures _
    (kept c.write_initializer.ensures _
    (kept c.put_token.ensures _ (kept c.start_line.ensures _ (so _ (line_start _ _ _ _) (begins (member_is _ _ _ _ _ _ _ _)))))))
