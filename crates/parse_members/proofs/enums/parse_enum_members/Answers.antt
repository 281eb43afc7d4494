-- `parse_members::enums::parse_enum_members` meets its contract.
use mathlib.Core.Path.{refl}
use Rattle.steps.specs.Reads.{Source}
use Rattle.steps.proofs.Turns.{shortens_by}
use Rattle.parse_members.proofs.Bytes.{member_falls}
use Rattle.steps.proofs.Chain.{begins, last}
use Rattle.parse_members.specs.Into.{member_in, enum_members_in}
use Rattle.token.specs.Code.{code}
use Rattle.parse_members.proofs.enums.parse_enum_members.Goals as goal

pub parse_between-requires-clause-falls : goal.parse_between-requires-clause-falls
parse_between-requires-clause-falls c = λ s r t h. shortens_by (λ x. member_falls x.text x.base c.args.parent) h

pub returns : goal.returns
unfolding enum_members_in code
returns c = last (c.parse_between.ensures (λ (x : Source). member_in x.text x.base c.args.parent) (λ x. member_falls x.text x.base c.args.parent) (λ s r t h. h)) (begins refl)
