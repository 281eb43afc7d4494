-- `replay::Tally::with` meets its contract.
use Rattle.replay.proofs.Tally.with.Goals as goal

pub returns : goal.returns
returns c = (c.one_more_if.ensures, c.one_more_if-2.ensures)
