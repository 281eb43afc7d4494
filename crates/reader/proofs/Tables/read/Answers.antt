-- `reader::Tables::read` meets its contract.
use mathlib.Core.Path.{sym, ◌∙◌}
use native.Mathlib.Omega.{arith}
use Rattle.lexer.proofs.CheckLaws.{too_long, ill}
use Rattle.lexer.proofs.Places.{ill_small}
use Rattle.reader.proofs.Whole.{gives, read_long, read_ill}
use Rattle.reader.proofs.Meant.{parsing_means}
use Rattle.reader.proofs.Tables.read.Goals as goal

pub returns-then-text-gt-LIMIT : goal.returns-then-text-gt-LIMIT
returns-then-text-gt-LIMIT c = gives (rw c.at.ensures at c.refuse.ensures) (read_long _ _ _ (too_long _ c.if-text-gt-LIMIT.true))

pub overflow_cast-at : goal.overflow_cast-at
overflow_cast-at c = omega (arith, ill_small _ _ (sym c.ill_formed.ensures ∙ c.in-Some.is), c.if-text-gt-LIMIT.false)

pub returns-in-Some : goal.returns-in-Some
returns-in-Some c = gives (rw c.at-in-Some.ensures at c.refuse-in-Some.ensures) (read_ill _ _ _ _ (ill _ c.if-text-gt-LIMIT.false _ (sym c.ill_formed.ensures ∙ c.in-Some.is)))

pub returns : goal.returns
returns c = gives c.parse.ensures (parsing_means _ _ _ c.if-text-gt-LIMIT.false (sym c.ill_formed.ensures ∙ c.in_default.is))
