-- `parse_members::functions::flag_if` meets its contract.
use mathlib.Core.Path.{sym, ◌∙◌}
use Rattle.parse_members.specs.Into.{flag_if}
use Rattle.parse_members.proofs.functions.flag_if.Goals as goal

pub returns-then-is : goal.returns-then-is
unfolding flag_if
returns-then-is c = rw (sym c.is.ensures ∙ c.if-is.true)

pub returns-else-is : goal.returns-else-is
unfolding flag_if
returns-else-is c = rw (sym c.is.ensures ∙ c.if-is.false)
