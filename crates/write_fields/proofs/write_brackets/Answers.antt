-- `write_fields::write_brackets` meets its contract.
use mathlib.Core.Path.{refl}
use lib.Dec.{eqb}
use Rattle.ast.specs.Records.{node_width}
use Rattle.cursor.specs.Onto.{parent_at}
use Rattle.cursor.proofs.Chain.{begins, kept, last}
use Rattle.write_fields.specs.Onto.{each_out}
use Rattle.write_fields.proofs.write_brackets.Goals as goal

pub returns : goal.returns
unfolding each_out
returns g c = λ m f. let a = c.args.w.now.at.node in
    last c.put-2.ensures
    (kept
    (c.write_each.ensures (λ x p. eqb (parent_at node_width x.nodes x.count p.node) a) m (λ x. each_out x.nodes x.count a (m x))
    (λ x. record { none = λ first p o. refl; more = λ first n p o. refl })
    (λ s r e h. h) f)
    _ (kept c.put.ensures _ (kept c.pass_node.ensures _ (begins refl))))
