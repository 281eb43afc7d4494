-- `reader::Tables::refuse` meets its contract.
use Rattle.lexer.specs.Refusal.{said_by}
use Rattle.reader.specs.Into.{refusing}
use Rattle.reader.proofs.Tables.refuse.Goals as goal

pub returns : goal.returns
unfolding refusing said_by
returns c =
    let w = c.wipe.ensures in
    record {
      goes = rw (w.nodes, w.comments);
      nodes = w.nodes_lent;
      comments = w.comments_lent;
    }
