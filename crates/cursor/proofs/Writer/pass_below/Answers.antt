-- `Writer::pass_below` meets its contract.
use mathlib.Core.Path.{refl}
use Rattle.ast.specs.Records.{node_width, room}
use Rattle.cursor.specs.Onto.{below, parent_at, pass_node, pass_below_from, pass_below}
use Rattle.cursor.proofs.Chain.{begins, last}
use Rattle.cursor.proofs.Writer.pass_below.Goals as goal

pub returns : goal.returns
unfolding pass_below pass_below_from room node_width
returns c =
    let a = c.args.owner in
    last
    (c.repeat.ensures (λ x p. below a (parent_at node_width x.nodes x.count p.node)) (λ x. pass_node) (λ x. pass_below_from x.nodes x.count a)
    (λ x. record { none = λ p o. refl; more = λ n p o. refl })
    (λ s r e h. h) (λ s t h. h))
    (begins refl)
