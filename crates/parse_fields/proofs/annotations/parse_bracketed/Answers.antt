-- `parse_fields::annotations::parse_bracketed` meets its contract.
use mathlib.Core.Path.{refl}
use Rattle.steps.proofs.Chain.{begins, kept, last}
use Rattle.parse_fields.specs.Into.{bracketed_in}
use Rattle.parse_fields.proofs.annotations.parse_bracketed.Goals as goal

pub returns : goal.returns
unfolding bracketed_in
returns c = last c.parse_annotation_list.ensures (kept c.advance.ensures _ (begins refl))
