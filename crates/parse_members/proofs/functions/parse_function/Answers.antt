-- `parse_members::functions::parse_function` meets its contract.
use mathlib.Core.Path.{sym, ap₂, ◌∙◌}
use Rattle.steps.specs.Into.{sum}
use Rattle.steps.proofs.Chain.{begins, so, kept, on, off, last}
use Rattle.steps.proofs.Shapes.{noted}
use Rattle.parse_members.proofs.Forms.{function_is}
use Rattle.token.specs.Code.{code}
use Rattle.parse_members.proofs.functions.parse_function.Goals as goal

pub returns-in_err-parse_function_head : goal.returns-in_err-parse_function_head
returns-in_err-parse_function_head c =
    off c.parse_function_head.ensures c.in_err-parse_function_head.was c.from_residual.ensures _ (kept c.begin_node.ensures _ (begins (function_is _ _ _ _ _ _)))

pub returns-in_err-parse_fields : goal.returns-in_err-parse_fields
unfolding code
returns-in_err-parse_fields c =
    off c.parse_fields.ensures c.in_err-parse_fields.was c.from_residual-in_err-parse_fields.ensures _
    (on c.parse_function_head.ensures c.in_ok-parse_function_head.was _ (kept c.begin_node.ensures _ (begins (function_is _ _ _ _ _ _))))

pub returns-in_err-parse_function_tail : goal.returns-in_err-parse_function_tail
unfolding code
returns-in_err-parse_function_tail c =
    off c.parse_function_tail.ensures c.in_err-parse_function_tail.was c.from_residual-in_err-parse_function_tail.ensures _
    (on c.parse_fields.ensures c.in_ok-parse_fields.was _
    (on c.parse_function_head.ensures c.in_ok-parse_function_head.was _ (kept c.begin_node.ensures _ (begins (function_is _ _ _ _ _ _)))))

pub returns : goal.returns
unfolding code
returns c =
    let f = c.sum.ensures ∙ ap₂ sum c.flag_if-oneway.ensures c.flag_if-throws.ensures in
    last c.put_node.ensures
    (so _ (noted _ _ _ _ _ _ _ _ (sym f))
    (on c.parse_function_tail.ensures c.in_ok-parse_function_tail.was _
    (on c.parse_fields.ensures c.in_ok-parse_fields.was _
    (on c.parse_function_head.ensures c.in_ok-parse_function_head.was _ (kept c.begin_node.ensures _ (begins (function_is _ _ _ _ _ _)))))))
