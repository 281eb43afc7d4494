-- `write_fields::write_default` meets its contract.
use Rattle.cursor.proofs.Chain.{begins, kept, last, ends, when, unless}
use Rattle.write_fields.proofs.Shapes.{assigned_is}
use Rattle.write_fields.proofs.write_default.Goals as goal

pub returns-then-has_value : goal.returns-then-has_value
returns-then-has_value c = last c.write_element.ensures (kept c.put.ensures _ (when _ _ _ _ c.has_value.ensures c.if-has_value.true (begins (assigned_is _ _ _ _ _ _))))

pub returns-else-has_value : goal.returns-else-has_value
returns-else-has_value c = ends (unless _ _ _ _ c.has_value.ensures c.if-has_value.false (begins (assigned_is _ _ _ _ _ _)))
