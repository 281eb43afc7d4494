-- `scan::is_letter` meets its contract.
use borrow.Author.Tests.{le-leb, lt-leb}
use Rattle.scan.proofs.is_letter.Goals as goal

pub returns-then-k-lt-E : goal.returns-then-k-lt-E
returns-then-k-lt-E c = rw (lt-leb 8 _ c.if-k-lt-E.true)

pub returns : goal.returns
returns c = rw (le-leb 8 _ c.if-k-lt-E.false)
