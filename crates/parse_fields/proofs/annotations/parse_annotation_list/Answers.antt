-- `parse_fields::annotations::parse_annotation_list` meets its contract.
use mathlib.Core.Path.{refl}
use mathlib.Core.Bool.{false}
use Rattle.steps.specs.Reads.{Source}
use Rattle.steps.specs.Into.{skip_in}
use Rattle.steps.proofs.Bytes.{skip_rests}
use Rattle.steps.proofs.Turns.{rests_by, shortens_by}
use Rattle.parse_fields.proofs.Bytes.{annotation_falls}
use Rattle.steps.proofs.Chain.{begins, last}
use Rattle.parse_fields.specs.Into.{annotation_in, annotation_list_in}
use Rattle.token.specs.Code.{code}
use Rattle.parse_fields.proofs.annotations.parse_annotation_list.Goals as goal

pub parse_members-requires-clause-rests : goal.parse_members-requires-clause-rests
parse_members-requires-clause-rests c = λ s t h. rests_by (λ x. skip_rests x.text false) h

pub parse_members-requires-clause-falls : goal.parse_members-requires-clause-falls
parse_members-requires-clause-falls c = λ s r t h. shortens_by (λ x. annotation_falls x.text x.base c.args.parent) h

pub returns : goal.returns
unfolding annotation_list_in code
returns c = last (c.parse_members.ensures (λ (x : Source). skip_in x.text false) (λ (x : Source). annotation_in x.text x.base c.args.parent) (λ x. skip_rests x.text false) (λ x. annotation_falls x.text x.base c.args.parent) (λ s t h. h) (λ s r t h. h)) (begins refl)
