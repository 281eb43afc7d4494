-- `parse_fields::fields::parse_fields` meets its contract.
use mathlib.Core.Path.{refl}
use Rattle.steps.specs.Reads.{Source}
use Rattle.steps.proofs.Turns.{shortens_by}
use Rattle.parse_fields.proofs.Bytes.{field_falls}
use Rattle.steps.proofs.Chain.{begins, last}
use Rattle.parse_fields.specs.Into.{field_in, fields_in}
use Rattle.parse_fields.proofs.fields.parse_fields.Goals as goal

pub parse_between-requires-clause-falls : goal.parse_between-requires-clause-falls
parse_between-requires-clause-falls c = λ s r t h. shortens_by (λ x. field_falls x.text c.args.list.flag x.base c.args.parent) h

pub returns : goal.returns
unfolding fields_in
returns c = last (c.parse_between.ensures (λ (x : Source). field_in x.text c.args.list.flag x.base c.args.parent) (λ x. field_falls x.text c.args.list.flag x.base c.args.parent) (λ s r t h. h)) (begins refl)
