-- `scan::mark_of` meets its contract: each arm is one class.
use mathlib.Core.Path.{sym, ap}
use borrow.Author.Rules.{rules}
use borrow.Author.Tests.{ne_eqb}
use Rattle.token.specs.Automaton.{opened, whole_byte, openings}
use Rattle.scan.proofs.Arms.{mark_other}
use Rattle.scan.proofs.mark_of.Goals as goal

pub returns-in-37 : goal.returns-in-37
unfolding opened whole_byte openings
returns-in-37 c = ap opened (sym c.in-37.is)

pub returns-in-39 : goal.returns-in-39
unfolding opened whole_byte openings
returns-in-39 c = ap opened (sym c.in-39.is)

pub returns-in-40 : goal.returns-in-40
unfolding opened whole_byte openings
returns-in-40 c = ap opened (sym c.in-40.is)

pub returns-in-46 : goal.returns-in-46
unfolding opened whole_byte openings
returns-in-46 c = ap opened (sym c.in-46.is)

pub returns-in-47 : goal.returns-in-47
unfolding opened whole_byte openings
returns-in-47 c = ap opened (sym c.in-47.is)

pub returns-in-48 : goal.returns-in-48
unfolding opened whole_byte openings
returns-in-48 c = ap opened (sym c.in-48.is)

pub returns-in-49 : goal.returns-in-49
unfolding opened whole_byte openings
returns-in-49 c = ap opened (sym c.in-49.is)

pub returns-in-50 : goal.returns-in-50
unfolding opened whole_byte openings
returns-in-50 c = ap opened (sym c.in-50.is)

pub returns-in-51 : goal.returns-in-51
unfolding opened whole_byte openings
returns-in-51 c = ap opened (sym c.in-51.is)

pub returns-in-52 : goal.returns-in-52
unfolding opened whole_byte openings
returns-in-52 c = ap opened (sym c.in-52.is)

pub returns-in-53 : goal.returns-in-53
unfolding opened whole_byte openings
returns-in-53 c = ap opened (sym c.in-53.is)

pub returns-in-54 : goal.returns-in-54
unfolding opened whole_byte openings
returns-in-54 c = ap opened (sym c.in-54.is)

pub returns-in-55 : goal.returns-in-55
unfolding opened whole_byte openings
returns-in-55 c = ap opened (sym c.in-55.is)

pub returns-in-56 : goal.returns-in-56
unfolding opened whole_byte openings
returns-in-56 c = ap opened (sym c.in-56.is)

pub returns-in-57 : goal.returns-in-57
unfolding opened whole_byte openings
returns-in-57 c = ap opened (sym c.in-57.is)

pub returns-in_default : goal.returns-in_default
returns-in_default c = sym (mark_other c.args.k (search rules) (rw (ne_eqb _ _ c.in_default.in_default-own.rest.0.0.0.0.0.0.0.0.0.0.0.0.0.0.1, ne_eqb _ _ c.in_default.in_default-own.rest.0.0.0.0.0.0.0.0.0.0.0.0.0.1, ne_eqb _ _ c.in_default.in_default-own.rest.0.0.0.0.0.0.0.0.0.0.0.0.1, ne_eqb _ _ c.in_default.in_default-own.rest.0.0.0.0.0.0.0.0.0.0.0.1, ne_eqb _ _ c.in_default.in_default-own.rest.0.0.0.0.0.0.0.0.0.0.1, ne_eqb _ _ c.in_default.in_default-own.rest.0.0.0.0.0.0.0.0.0.1, ne_eqb _ _ c.in_default.in_default-own.rest.0.0.0.0.0.0.0.0.1, ne_eqb _ _ c.in_default.in_default-own.rest.0.0.0.0.0.0.0.1, ne_eqb _ _ c.in_default.in_default-own.rest.0.0.0.0.0.0.1, ne_eqb _ _ c.in_default.in_default-own.rest.0.0.0.0.0.1, ne_eqb _ _ c.in_default.in_default-own.rest.0.0.0.0.1, ne_eqb _ _ c.in_default.in_default-own.rest.0.0.0.1, ne_eqb _ _ c.in_default.in_default-own.rest.0.0.1, ne_eqb _ _ c.in_default.in_default-own.rest.0.1, ne_eqb _ _ c.in_default.in_default-own.rest.1)))
