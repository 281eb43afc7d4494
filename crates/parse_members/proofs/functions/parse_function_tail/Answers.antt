-- `parse_members::functions::parse_function_tail` meets its contract.
use mathlib.Core.Path.{refl}
use Rattle.steps.proofs.Chain.{begins, kept, on, off, last}
use Rattle.parse_members.specs.Into.{function_tail_in}
use Rattle.parse_members.proofs.functions.parse_function_tail.Goals as goal

pub returns-in_err-parse_throws : goal.returns-in_err-parse_throws
unfolding function_tail_in
returns-in_err-parse_throws c = off c.parse_throws.ensures c.in_err-parse_throws.was c.from_residual.ensures _ (begins refl)

pub returns : goal.returns
unfolding function_tail_in
returns c = last c.parse_annotations.ensures (kept c.skip_trivia.ensures _ (on c.parse_throws.ensures c.in_ok-parse_throws.was _ (begins refl)))
