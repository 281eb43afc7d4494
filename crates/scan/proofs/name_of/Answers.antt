-- `scan::name_of` meets its contract.
use Rattle.scan.proofs.WordLaws.{name_word}
use Rattle.scan.proofs.name_of.Goals as goal

pub returns : goal.returns
returns c = name_word c.args.text.now c.args.at _ c.name_end-end.ensures.0 c.kind_of.result c.kind_of.ensures
