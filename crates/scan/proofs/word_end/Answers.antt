-- `scan::word_end` meets its contract.
use Rattle.scan.proofs.WordLaws.{word_ends, word_dot}
use Rattle.scan.proofs.word_end.Goals as goal

pub returns-then-goes_on : goal.returns-then-goes_on
returns-then-goes_on c = word_dot _ _ _ c.if-goes_on.ensures.1 c.requires.3 c.if-goes_on.ensures.0 c.requires.1 _ c.name_of.ensures

pub returns : goal.returns
returns c = word_ends _ _ _ c.if-goes_on.ensures _ c.kind_of.ensures
