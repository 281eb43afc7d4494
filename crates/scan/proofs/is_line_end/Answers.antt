-- `scan::is_line_end` meets its contract.
use borrow.Author.Tests.{eq-eqb, ne_eqb}
use Rattle.scan.proofs.is_line_end.Goals as goal

pub returns-then-k-eq-LINE_FEED : goal.returns-then-k-eq-LINE_FEED
returns-then-k-eq-LINE_FEED c = rw (eq-eqb _ _ c.if-k-eq-LINE_FEED.true)

pub returns : goal.returns
returns c = rw (ne_eqb _ _ c.if-k-eq-LINE_FEED.false)
