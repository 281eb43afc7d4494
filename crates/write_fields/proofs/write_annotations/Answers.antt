-- `write_fields::write_annotations` meets its contract.
use Rattle.cursor.proofs.Chain.{begins, last, ends, yes, no, when, unless}
use Rattle.write_fields.proofs.Shapes.{annotations_is}
use Rattle.write_fields.proofs.write_annotations.Goals.{else-parent-owner-via-then-parent-owner+else-is, else-parent-owner-via-else-parent-owner}
use Rattle.write_fields.proofs.write_annotations.Goals as goal

pub returns-then-is : goal.returns-then-is
returns-then-is c =
    last c.write_annotation_block.ensures
    (when _ _ _ _ c.is.ensures c.if-is.true (yes _ _ _ _ _ c.parent.ensures c.if-parent-owner.true (begins (annotations_is _ _ _ _ _ _))))

pub returns-else-parent-owner : goal.returns-else-parent-owner
returns-else-parent-owner c =
    elim c.else-parent-owner.branch [
      | else-parent-owner-via-then-parent-owner+else-is w ↦
          ends (unless _ _ _ _ w.is.ensures w.if-is.false (yes _ _ _ _ _ c.parent.ensures w.if-parent-owner.true (begins (annotations_is _ _ _ _ _ _))))
      | else-parent-owner-via-else-parent-owner w ↦ ends (no _ _ _ _ _ c.parent.ensures w.if-parent-owner.false (begins (annotations_is _ _ _ _ _ _)))
    ]
