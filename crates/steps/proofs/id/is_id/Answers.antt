-- `steps::id::is_id` meets its contract.
use mathlib.Core.Path.{sym, ap, ◌∙◌}
use native.Mathlib.Omega.{arith}
use borrow.Author.Tests.{eqb-true, eqb-false}
use Rattle.std.specs.Option.{is_some}
use Rattle.steps.proofs.Digits.{id_none, id_minus, id_plus, id_plain, some_by}
use Rattle.steps.proofs.id.is_id.Goals as goal

pub returns-then-is_empty : goal.returns-then-is_empty
returns-then-is_empty c = id_none _ (eqb-true _ _ (sym c.is_empty.ensures ∙ c.if-is_empty.true))

pub returns-in-45 : goal.returns-in-45
returns-in-45 c = id_minus _ (eqb-false _ _ (sym c.is_empty.ensures ∙ c.if-is_empty.false)) c.in-45.is

pub returns-in-43 : goal.returns-in-43
returns-in-43 c = c.is_some.ensures ∙ ap is_some c.number.ensures ∙ some_by _ _ ∙ id_plus _ (eqb-false _ _ (sym c.is_empty.ensures ∙ c.if-is_empty.false)) c.in-43.is

pub returns-in_default : goal.returns-in_default
returns-in_default c =
    c.is_some-in_default.ensures ∙ ap is_some c.number-in_default.ensures ∙ some_by _ _
    ∙ id_plain _ (eqb-false _ _ (sym c.is_empty.ensures ∙ c.if-is_empty.false)) (λ e. omega arith) (λ e. omega arith)
