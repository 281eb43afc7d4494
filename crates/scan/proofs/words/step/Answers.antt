-- `scan::words::step` meets its contract: the table is `trie`.
use native.Mathlib.Omega.{arith}
use Rattle.token.specs.Tables.{trie}
use Rattle.scan.proofs.Arms.{base_small, step_then, step_else}
use Rattle.scan.proofs.words.step.Goals as goal

pub bounds-next : goal.bounds-next
unfolding trie
bounds-next c = omega (arith, base_small c.args.number (omega arith))

pub overflow_cast-result : goal.overflow_cast-result
unfolding trie
overflow_cast-result c = omega (arith, base_small c.args.number (omega arith))

pub returns-then-next-number : goal.returns-then-next-number
unfolding trie
returns-then-next-number c = step_then c.args.number c.args.k c.if-next-number.true

pub returns-else-next-number : goal.returns-else-next-number
unfolding trie
returns-else-next-number c = step_else c.args.number c.args.k c.if-next-number.false
