-- `reader::Tables::refuse_at` meets its contract.
use Rattle.reader.specs.Into.{refusing_at}
use Rattle.reader.proofs.Whole.{gives}
use Rattle.reader.proofs.Tables.refuse_at.Goals as goal

pub returns : goal.returns
unfolding refusing_at
returns c = gives c.refuse.ensures (rw (c.saturating_sub-length.ensures, ← c.index_of-end.ensures, ← c.index_of-place.ensures, c.end_rule-kind.ensures))
