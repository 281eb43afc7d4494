-- `utf8::has_tails` meets its contract: each of the first bytes is a tail byte.
use mathlib.Core.Path.{sym, ◌∙◌}
use borrow.Author.Rules.{rules}
use borrow.Author.Tests.{lt-leb, tests}
use lib.ListN.{take}
use Rattle.std.proofs.lemmas.Iterator.{YieldsList-from_slice, cases_from_all}
use Rattle.utf8.proofs.Utf8Laws.{IsTail, NoTail, tails_short, tails_met}
use Rattle.utf8.proofs.has_tails.Goals as goal

pub returns-then-count-text : goal.returns-then-count-text
returns-then-count-text c =
    tails_met _ _ _ c.if-count-text.true
    (cases_from_all _ _ _ IsTail NoTail c.all.ensures.ran (YieldsList-from_slice (take c.args.count c.args.text.now) cc) (λ x q k. search (rules, tests)) (λ x q k. search (rules, tests)))

pub returns-else-count-text : goal.returns-else-count-text
returns-else-count-text c = lt-leb _ _ c.if-count-text.false ∙ sym (tails_short _ _ c.if-count-text.false)
