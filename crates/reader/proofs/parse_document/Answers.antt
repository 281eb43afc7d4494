-- `reader::parse_document` meets its contract.
use mathlib.Core.Path.{refl}
use Rattle.steps.specs.Into.{numbered}
use Rattle.steps.specs.Reads.{Source}
use Rattle.steps.proofs.Turns.{rests_by, shortens_by}
use Rattle.reader.proofs.Bytes.{between_rests, rest_falls}
use Rattle.steps.proofs.Chain.{begins, last}
use Rattle.reader.specs.Into.{between_in, document_in, over_in, rest_in}
use Rattle.reader.proofs.parse_document.Goals as goal

pub parse_until-requires-clause-rests : goal.parse_until-requires-clause-rests
parse_until-requires-clause-rests c = λ s t h. rests_by (λ x. between_rests x.text) h

pub parse_until-requires-clause-falls : goal.parse_until-requires-clause-falls
parse_until-requires-clause-falls c = λ s r t h. shortens_by (λ x. rest_falls x.text) h

pub returns : goal.returns
unfolding document_in numbered
returns c =
    last (c.parse_until.ensures (λ (x : Source). between_in x.text) (λ (x : Source). over_in) (λ (x : Source). rest_in x.text) (λ x. between_rests x.text) (λ x. rest_falls x.text) (λ s t h. h) (λ s r t h. h) (λ s r t h. h)) (begins refl)
