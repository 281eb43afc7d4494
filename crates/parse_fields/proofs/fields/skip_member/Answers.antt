-- `parse_fields::fields::skip_member` meets its contract.
use mathlib.Core.Path.{refl}
use Rattle.steps.proofs.Chain.{begins, kept, last}
use Rattle.parse_fields.specs.Into.{skip_member_in}
use Rattle.parse_fields.proofs.fields.skip_member.Goals as goal

pub returns : goal.returns
unfolding skip_member_in
returns c = last c.skip_comments.ensures (kept c.skip_separators.ensures _ (begins refl))
