-- `enum_members::Walker::number_definitions` meets its contract.
use mathlib.Core.Path.{refl}
use Rattle.std.proofs.lemmas.Result.{err_from_is_err_and}
use Rattle.enum_members.specs.Walk.{definition_in}
use Rattle.enum_members.proofs.Chain.{turn_on, turn_off, walked}
use Rattle.enum_members.proofs.Walker.number_definitions.Goals as goal

pub loop-n-init : goal.loop-n-init
loop-n-init c = record { goes = rw (c.into_iter-n-iterator.ensures.into_iter_gives, c.siblings-n-items.ensures) refl; same = refl; lent = refl }

pub loop-n-preserved : goal.loop-n-preserved
loop-n-preserved c = turn_on (λ x. definition_in x.text x.nodes) c.in-Some.ensures.steps c.loop-n.invariant c.in_ok-number_definition.ensures

pub returns-in_err-number_definition : goal.returns-in_err-number_definition
returns-in_err-number_definition c =
    let p = err_from_is_err_and c.from_residual.result c.from_residual.ensures.1 in
    rw (p.1, p.2) (turn_off (λ x. definition_in x.text x.nodes) c.in-Some.ensures.steps c.loop-n.invariant c.in_err-number_definition.ensures)

pub returns : goal.returns
returns c = walked (λ x. definition_in x.text x.nodes) c.in-None.ensures.steps.0 c.loop-n.invariant
