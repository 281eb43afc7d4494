-- `reader::parse_text` meets its contract.
use mathlib.Core.Path.{sym}
use borrow.Author.Rules.{rules}
use Rattle.reader.proofs.Whole.{all_read, handed}
use Rattle.reader.proofs.parse_text.Goals as goal

pub returns : goal.returns
returns c =
    let w = all_read c.advance.ensures c.parse_document-parsed.ensures in
    let lent = sym w.lent in
    let wide = sym w.wide in
    handed _ _ _ _ _ _ _ w.goes (search rules) (search rules)
