-- `lexer::check` meets its contract.
use mathlib.Core.Path.{sym, ◌∙◌}
use native.Mathlib.Omega.{arith}
use Rattle.lexer.specs.Refusal.{said_by}
use Rattle.lexer.proofs.Places.{ill_small, unknown_small}
use Rattle.lexer.proofs.CheckLaws.{too_long, ill, unknown, fine}
use Rattle.lexer.proofs.check.Goals as goal

pub returns-then-text-gt-LIMIT : goal.returns-then-text-gt-LIMIT
unfolding said_by
returns-then-text-gt-LIMIT c = rw c.at.ensures (sym (too_long _ c.if-text-gt-LIMIT.true))

pub overflow_cast-at : goal.overflow_cast-at
overflow_cast-at c = omega (arith, ill_small _ _ (sym c.ill_formed.ensures ∙ c.in-Some.is), c.if-text-gt-LIMIT.false)

pub returns-in-Some : goal.returns-in-Some
unfolding said_by
returns-in-Some c = rw c.at-in-Some.ensures (sym (ill _ c.if-text-gt-LIMIT.false _ (sym c.ill_formed.ensures ∙ c.in-Some.is)))

pub overflow_cast-at-in-Some-unrecognized : goal.overflow_cast-at-in-Some-unrecognized
overflow_cast-at-in-Some-unrecognized c = omega (arith, unknown_small _ 0 _ (sym c.unrecognized.ensures ∙ c.in-Some-unrecognized.is), c.if-text-gt-LIMIT.false)

pub returns-in-Some-unrecognized : goal.returns-in-Some-unrecognized
unfolding said_by
returns-in-Some-unrecognized c =
    rw c.at-in-Some-unrecognized.ensures (sym (unknown _ c.if-text-gt-LIMIT.false _ (sym c.ill_formed.ensures ∙ c.in_default.is) (sym c.unrecognized.ensures ∙ c.in-Some-unrecognized.is)))

pub returns : goal.returns
unfolding said_by
returns c = sym (fine _ c.if-text-gt-LIMIT.false (sym c.ill_formed.ensures ∙ c.in_default.is) (sym c.unrecognized.ensures ∙ c.in_default-unrecognized.is))
