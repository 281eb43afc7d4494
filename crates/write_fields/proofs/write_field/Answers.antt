-- `write_fields::write_field` meets its contract.
use Rattle.cursor.proofs.Chain.{begins, so, line_start, kept, skipped, last, parented}
use Rattle.write_fields.proofs.Shapes.{field_is, annotations_none}
use Rattle.write_fields.proofs.write_field.Goals as goal

pub returns-then-parent-owner : goal.returns-then-parent-owner
returns-then-parent-owner c =
    let v = kept c.write_field_head.ensures _ (kept c.start_line.ensures _ (so _ (line_start _ _ _ _) (begins (field_is _ _ _ _ _ _ _ _ c.number-flags.ensures)))) in
    last c.put.ensures (skipped _ (annotations_none _ _ _ _ _ (parented v c.parent.ensures) c.if-parent-owner.true _) v)

pub returns : goal.returns
returns c =
    last c.put-2.ensures
    (kept c.write_annotations.ensures _
    (kept c.write_field_head.ensures _ (kept c.start_line.ensures _ (so _ (line_start _ _ _ _) (begins (field_is _ _ _ _ _ _ _ _ c.number-flags.ensures))))))
