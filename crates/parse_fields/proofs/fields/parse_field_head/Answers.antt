-- `parse_fields::fields::parse_field_head` meets its contract.
use Rattle.steps.proofs.Chain.{begins, kept, on, off, last}
use Rattle.parse_fields.proofs.Forms.{field_head_is}
use Rattle.parse_fields.proofs.fields.parse_field_head.Goals as goal

pub returns-in_err-parse_type : goal.returns-in_err-parse_type
returns-in_err-parse_type c = off c.parse_type.ensures c.in_err-parse_type.was c.from_residual.ensures _ (kept c.skip_required.ensures _ (begins (field_head_is _ _ _ _ _ _)))

pub returns : goal.returns
returns c = last c.parse_field_name.ensures (on c.parse_type.ensures c.in_ok-parse_type.was _ (kept c.skip_required.ensures _ (begins (field_head_is _ _ _ _ _ _))))
