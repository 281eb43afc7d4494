-- `parse_fields::fields::skip_required` meets its contract.
use mathlib.Core.Path.{refl}
use Rattle.steps.proofs.Chain.{begins, ends, last, when, unless}
use Rattle.parse_fields.proofs.Forms.{skip_required_is}
use borrow.Author.Tests.{eq-eqb, ne_eqb}
use Rattle.parse_fields.proofs.fields.skip_required.Goals as goal

pub returns-then-required_flag-ne0 : goal.returns-then-required_flag-ne0
returns-then-required_flag-ne0 c = last c.advance.ensures (unless _ _ _ _ refl (ne_eqb _ _ c.if-required_flag-ne0.true) (begins (skip_required_is _ _ _ _ c.required_flag.ensures)))

pub returns-else-required_flag-ne0 : goal.returns-else-required_flag-ne0
returns-else-required_flag-ne0 c = ends (when _ _ _ _ refl (eq-eqb _ _ c.if-required_flag-ne0.false) (begins (skip_required_is _ _ _ _ c.required_flag.ensures)))
