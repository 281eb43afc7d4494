-- `reader::end_rule` meets its contract.
use borrow.Author.Tests.{eq-eqb, ne_eqb}
use Rattle.lexer.proofs.KindNumbers.{number_once}
use Rattle.reader.specs.Into.{ended}
use Rattle.reader.proofs.end_rule.Goals as goal

pub returns-in_default : goal.returns-in_default
unfolding ended
returns-in_default c = rw (ne_eqb _ _ (λ e. c.in_default.not-UnexpectedEOF (number_once _ _ e)))

pub returns-then-end-len : goal.returns-then-end-len
unfolding ended
returns-then-end-len c = rw (c.in-UnexpectedEOF.is, eq-eqb _ _ c.if-end-len.true)

pub returns-else-end-len : goal.returns-else-end-len
unfolding ended
returns-else-end-len c = rw (c.in-UnexpectedEOF.is, ne_eqb _ _ c.if-end-len.false)
