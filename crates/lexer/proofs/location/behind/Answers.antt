-- `lexer::location::behind` meets its contract.
use native.Mathlib.Omega.{arith}
use Rattle.lexer.specs.Location.{behind}
use Rattle.lexer.proofs.location.behind.Goals as goal

pub overflow_add-result : goal.overflow_add-result
overflow_add-result c = omega (arith, c.requires.0.lines)

pub returns-then-ends : goal.returns-then-ends
unfolding behind
returns-then-ends c = rw c.if-ends.true

pub returns : goal.returns
unfolding behind
returns c = rw c.if-ends.false
