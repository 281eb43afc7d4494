-- `parse_members::functions::parse_functions` meets its contract.
use mathlib.Core.Path.{refl}
use Rattle.steps.specs.Reads.{Source}
use Rattle.steps.proofs.Turns.{shortens_by}
use Rattle.parse_members.proofs.Bytes.{function_falls}
use Rattle.steps.proofs.Chain.{begins, last}
use Rattle.parse_members.specs.Into.{function_in, functions_in}
use Rattle.token.specs.Code.{code}
use Rattle.parse_members.proofs.functions.parse_functions.Goals as goal

pub parse_between-requires-clause-falls : goal.parse_between-requires-clause-falls
parse_between-requires-clause-falls c = λ s r t h. shortens_by (λ x. function_falls x.text x.base c.args.parent) h

pub returns : goal.returns
unfolding functions_in code
returns c = last (c.parse_between.ensures (λ (x : Source). function_in x.text x.base c.args.parent) (λ x. function_falls x.text x.base c.args.parent) (λ s r t h. h)) (begins refl)
