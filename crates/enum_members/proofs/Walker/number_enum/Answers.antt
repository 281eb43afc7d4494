-- `enum_members::Walker::number_enum` meets its contract.
use mathlib.Core.Path.{refl}
use Rattle.std.proofs.lemmas.Result.{err_from_is_err_and}
use Rattle.enum_members.specs.Walk.{child_in, members_in}
use Rattle.enum_members.proofs.Chain.{turn_on, turn_off, walked}
use Rattle.enum_members.proofs.Walker.number_enum.Goals as goal

pub loop-child-init : goal.loop-child-init
unfolding members_in
loop-child-init c = record { goes = rw (c.into_iter-child-iterator.ensures.into_iter_gives, c.children-child-items.ensures) refl; same = refl; lent = refl }

pub loop-child-preserved : goal.loop-child-preserved
loop-child-preserved c = turn_on (λ x. child_in x.text x.nodes) c.in-Some.ensures.steps c.loop-child.invariant c.in_ok-number_child.ensures

pub returns-in_err-number_child : goal.returns-in_err-number_child
returns-in_err-number_child c =
    let p = err_from_is_err_and c.from_residual.result c.from_residual.ensures.1 in
    rw (p.1, p.2) (turn_off (λ x. child_in x.text x.nodes) c.in-Some.ensures.steps c.loop-child.invariant c.in_err-number_child.ensures)

pub returns : goal.returns
returns c = walked (λ x. child_in x.text x.nodes) c.in-None.ensures.steps.0 c.loop-child.invariant
