-- `write_definitions::write_members` meets its contract.
use mathlib.Core.Path.{refl}
use lib.Dec.{eqb}
use Rattle.ast.specs.KindNumber.{number_of}
use Rattle.ast.specs.Records.{node_width, room}
use Rattle.cursor.specs.Onto.{kind_at}
use Rattle.cursor.proofs.Chain.{begins, last}
use Rattle.write_definitions.specs.Onto.{one_out, members_from}
use Rattle.write_definitions.proofs.write_members.Goals as goal

pub returns : goal.returns
unfolding members_from room node_width
returns g c = λ f. let k = number_of c.args.kind in
    last
    (c.repeat.ensures (λ x p. eqb (kind_at x.nodes x.count p.node) k) (λ x. one_out x.text x.nodes x.count x.comments x.total x.indent k)
    (λ x. members_from x.text x.nodes x.count x.comments x.total x.indent k)
    (λ x. record { none = λ p o. refl; more = λ n p o. refl })
    (λ s r e h. h) f)
    (begins refl)
