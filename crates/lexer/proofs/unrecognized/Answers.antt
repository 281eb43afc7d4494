-- `lexer::unrecognized` meets its contract. The invariant: the cuts behind the offset decide.
use mathlib.Core.Path.{refl, sym, ◌∙◌}
use native.Mathlib.Omega.{arith}
use Rattle.lexer.proofs.CutLaws.{unrecognized_end, unrecognized_miss}
use Rattle.lexer.specs.Extent.{Onward}
use Rattle.lexer.proofs.unrecognized.Goals as goal

pub loop-at-init : goal.loop-at-init
loop-at-init c = refl

pub extent-requires : goal.extent-requires
extent-requires c = (c.loop-at-test.true)

pub returns-in_default : goal.returns-in_default
returns-in_default c = sym (c.loop-at.invariant ∙ unrecognized_miss _ c.loop-at.at c.loop-at-test.true (rw c.in_default.is at c.extent.ensures))

pub overflow_add-at : goal.overflow_add-at
overflow_add-at c = let o : Onward c.args.text.now c.loop-at.at c.in-Some.n = rw c.in-Some.is at c.extent.ensures in omega (arith, o)

pub loop-at-smaller : goal.loop-at-smaller
loop-at-smaller c = let o : Onward c.args.text.now c.loop-at.at c.in-Some.n = rw c.in-Some.is at c.extent.ensures in omega (arith, o)

pub loop-at-preserved : goal.loop-at-preserved
loop-at-preserved c =
    let o : Onward c.args.text.now c.loop-at.at c.in-Some.n = rw c.in-Some.is at c.extent.ensures in
    c.loop-at.invariant ∙ o.onward

pub returns : goal.returns
returns c = sym (c.loop-at.invariant ∙ unrecognized_end _ c.loop-at.at c.loop-at-test.false)
