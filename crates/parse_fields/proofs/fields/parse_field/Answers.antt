-- `parse_fields::fields::parse_field` meets its contract.
use mathlib.Core.Path.{sym, ap, ◌∙◌}
use Prim.Native.Nat.{ℕ}
use Rattle.steps.specs.Into.{sum}
use Rattle.steps.proofs.Chain.{begins, so, kept, on, off, last}
use Rattle.parse_fields.proofs.Forms.{field_is}
use Rattle.steps.proofs.Shapes.{noted}
use Rattle.parse_fields.proofs.fields.parse_field.Goals as goal

pub returns-in_err-parse_field_id : goal.returns-in_err-parse_field_id
returns-in_err-parse_field_id c =
    off c.parse_field_id.ensures c.in_err-parse_field_id.was c.from_residual.ensures _ (kept c.begin_node.ensures _ (begins (field_is _ _ _ _ _ _ _ c.start.ensures)))

pub returns-in_err-parse_field_head : goal.returns-in_err-parse_field_head
returns-in_err-parse_field_head c =
    off c.parse_field_head.ensures c.in_err-parse_field_head.was c.from_residual-in_err-parse_field_head.ensures _
    (on c.parse_field_id.ensures c.in_ok-parse_field_id.was _ (kept c.begin_node.ensures _ (begins (field_is _ _ _ _ _ _ _ c.start.ensures))))

pub returns-in_err-parse_field_tail : goal.returns-in_err-parse_field_tail
returns-in_err-parse_field_tail c =
    off c.parse_field_tail.ensures c.in_err-parse_field_tail.was c.from_residual-in_err-parse_field_tail.ensures _
    (on c.parse_field_head.ensures c.in_ok-parse_field_head.was _
    (on c.parse_field_id.ensures c.in_ok-parse_field_id.was _ (kept c.begin_node.ensures _ (begins (field_is _ _ _ _ _ _ _ c.start.ensures)))))

pub returns : goal.returns
returns c =
    let f = c.sum-flags.ensures ∙ ap (λ (n : ℕ). sum n c.args.flag) c.required_flag.ensures in
    last c.put_node.ensures
    (so _ (noted _ _ _ _ _ _ _ _ (sym f))
    (on c.parse_field_tail.ensures c.in_ok-parse_field_tail.was _
    (on c.parse_field_head.ensures c.in_ok-parse_field_head.was _
    (on c.parse_field_id.ensures c.in_ok-parse_field_id.was _ (kept c.begin_node.ensures _ (begins (field_is _ _ _ _ _ _ _ c.start.ensures)))))))
