-- `reader::Tables::wipe` meets its contract.
use mathlib.Core.Path.{refl, ◌∙◌}
use Rattle.steps.proofs.Cells.{clears, wipe_all}
use Rattle.reader.proofs.Tables.wipe.Goals as goal

pub returns : goal.returns
returns c =
    let s = c.args.self.now in
    record {
      nodes = clears 0 s.nodes.now c.clear.new.list c.clear.ensures ∙ wipe_all s.nodes.now;
      comments = clears 0 s.comments.now c.clear-2.new.list c.clear-2.ensures ∙ wipe_all s.comments.now;
      nodes_lent = refl;
      comments_lent = refl;
    }
