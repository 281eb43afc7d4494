-- `write_fields::write_params` meets its contract.
use mathlib.Core.Path.{refl}
use mathlib.Core.Bool.{cond, false}
use lib.Dec.{eqb}
use Rattle.ast.specs.Column as C
use Rattle.ast.specs.Kind as K
use Rattle.ast.specs.Records.{node_width}
use Rattle.cursor.specs.Onto.{◌⨟◌, kind_at, number_at, reached}
use Rattle.cursor.proofs.Chain.{begins, last}
use Rattle.write_fields.specs.Onto.{comma_out, is_of, param_out, params_from, params_out}
use Rattle.write_fields.proofs.Shapes.{both_is}
use Rattle.write_fields.proofs.write_params.Goals as goal

pub returns : goal.returns
unfolding params_out params_from
returns c =
    let a = c.args.thrown in
    last
    (c.write_each.ensures (λ x p. cond (eqb (kind_at x.nodes x.count p.node) K.Field) (is_of a (number_at node_width x.nodes p.node C.Flags)) false)
    (λ x. param_out x.text x.nodes x.count x.comments x.total)
    (λ x. params_from x.text x.nodes x.count x.comments x.total a)
    (λ x. record {
      none = λ first p o. refl;
      more = λ first n p o.
          both_is (eqb (kind_at x.nodes x.count p.node) K.Field) (is_of a (number_at node_width x.nodes p.node C.Flags))
          ((comma_out first ⨟ (param_out x.text x.nodes x.count x.comments x.total ⨟ params_from x.text x.nodes x.count x.comments x.total a false n)) p o) (reached p o);
    })
    (λ s r e h. h) (λ s t h. h))
    (begins refl)
