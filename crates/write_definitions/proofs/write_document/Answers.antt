-- `write_definitions::write_document` meets its contract.
use mathlib.Core.Path.{refl, sym, ap, ◌∙◌}
use lib.Dec.{ltb}
use Rattle.ast.specs.Records.{node_width, room}
use Rattle.cursor.specs.Writes.{Source}
use Rattle.cursor.proofs.Chain.{begins, last}
use Rattle.write_definitions.specs.Onto.{definition_out, document_from, document_out}
use Rattle.write_definitions.proofs.write_document.Goals as goal

pub returns : goal.returns
unfolding document_out document_from room node_width
returns c =
    last
    (c.repeat.ensures (λ x p. ltb p.node x.count) (λ x. definition_out x.text x.nodes x.count x.comments x.total x.indent)
    (λ x. document_from x.text x.nodes x.count x.comments x.total x.indent)
    (λ x. record { none = λ p o. refl; more = λ n p o. refl })
    (λ s r e h. h ∙ ap (λ (x : Source). ltb s.now.at.node x.count) (sym e)) (λ s t h. h))
    (begins refl)
