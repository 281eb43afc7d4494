-- `parse_fields::fields::parse_between` meets its contract.
use mathlib.Core.Path.{refl}
use Rattle.steps.specs.Reads.{Source}
use Rattle.steps.proofs.Turns.{rests_by}
use Rattle.parse_fields.proofs.Bytes.{skip_member_rests}
use Rattle.steps.proofs.Chain.{begins, on, off, last}
use Rattle.parse_fields.specs.Into.{members_in, skip_member_in}
use Rattle.parse_fields.proofs.fields.parse_between.Goals as goal

pub returns-in_err-expect : goal.returns-in_err-expect
unfolding members_in
returns-in_err-expect g c = λ m f h. off c.expect.ensures c.in_err-expect.was c.from_residual.ensures _ (begins refl)

pub parse_members-requires-clause-rests : goal.parse_members-requires-clause-rests
parse_members-requires-clause-rests g c = λ s t h. rests_by (λ x. skip_member_rests x.text) h

pub returns : goal.returns
unfolding members_in
returns g c = λ m f h. last (c.parse_members.ensures (λ (x : Source). skip_member_in x.text) m (λ x. skip_member_rests x.text) f (λ s t i. i) h) (on c.expect.ensures c.in_ok-expect.was _ (begins refl))
