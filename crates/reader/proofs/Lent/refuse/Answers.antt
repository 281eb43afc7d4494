-- `reader::Lent::refuse` meets its contract.
use mathlib.Core.Path.{refl, sym, ◌∙◌}
use borrow.Author.Rules.{rules}
use Rattle.reader.proofs.Lent.refuse.Goals as goal

pub returns : goal.returns
returns g c =
    let w = c.wipe.ensures in
    let n = sym w.nodes_lent in
    let k = sym w.comments_lent in
    record {
      says = refl;
      nodes = (search rules) ∙ w.nodes;
      comments = (search rules) ∙ w.comments;
      out = c.clear.ensures;
      nodes_lent = refl;
      comments_lent = refl;
      out_lent = refl;
    }
