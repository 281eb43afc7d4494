-- `lexer::location::ends_line` meets its contract.
use mathlib.Core.Path.{sym}
use Rattle.lexer.proofs.PlaceLaws.{ends_other, ends_last, ends_return}
use Rattle.lexer.proofs.location.ends_line.Goals as goal

pub returns-then-text-at-ne13 : goal.returns-then-text-at-ne13
returns-then-text-at-ne13 c = let a = c.args in sym (ends_other a.text.now a.at c.if-text-at-ne13.true)

pub returns-then-text-next : goal.returns-then-text-next
returns-then-text-next c = let a = c.args in sym (ends_last a.text.now a.at c.if-text-next.true)

pub returns : goal.returns
returns c = let a = c.args in sym (ends_return a.text.now a.at c.if-text-at-ne13.false)
