-- `parse_members::functions::parse_function_head` meets its contract.
use Rattle.token.specs.Code.{code}
use Rattle.steps.proofs.Chain.{begins, kept, on, off, last}
use Rattle.parse_members.proofs.Forms.{function_head_is}
use Rattle.parse_members.proofs.functions.parse_function_head.Goals as goal

pub returns-in_err-parse_return_type : goal.returns-in_err-parse_return_type
unfolding code
returns-in_err-parse_return_type c =
    off c.parse_return_type.ensures c.in_err-parse_return_type.was c.from_residual.ensures _ (kept c.accept.ensures.goes _ (begins (function_head_is _ _ _ _ _ _)))

pub returns : goal.returns
unfolding code
returns c = last c.parse_name.ensures (on c.parse_return_type.ensures c.in_ok-parse_return_type.was _ (kept c.accept.ensures.goes _ (begins (function_head_is _ _ _ _ _ _))))
