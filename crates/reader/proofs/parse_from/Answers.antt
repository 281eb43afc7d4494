-- `reader::parse_from` meets its contract.
use mathlib.Core.Path.{sym}
use borrow.Author.Rules.{rules}
use Rattle.reader.proofs.Whole.{handed}
use Rattle.reader.proofs.parse_from.Goals as goal

pub returns : goal.returns
returns c =
    let w = c.parse_definition-parsed.ensures in
    let lent = sym w.lent in
    let wide = sym w.wide in
    handed _ _ _ _ _ _ _ w.goes (search rules) (search rules)
