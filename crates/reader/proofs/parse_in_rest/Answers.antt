-- `reader::parse_in_rest` meets its contract.
use mathlib.Core.Path.{refl}
use Rattle.ast.specs.Records.{node_width}
use Rattle.reader.proofs.Whole.{rest_is}
use Rattle.reader.proofs.parse_in_rest.Goals as goal

pub returns : goal.returns
unfolding node_width
returns c = record {
  goes = rest_is _ _ _ _ _ _ _ _ _ c.rest_at-at.ensures.0 c.parse_from.ensures;
  same = refl;
  lent = refl;
  wide = refl;
}
