-- `utf8::pass_sequences` meets its contract. The invariant: the bytes from `at` on decide.
use mathlib.Core.Path.{refl, sym, ◌∙◌}
use Prim.Native.Nat.{◌≤◌, ◌+◌}
use native.Mathlib.Omega.{arith}
use borrow.Author.Rules.{rules}
use lib.ListN.{length}
use Rattle.utf8.proofs.Utf8Laws.{ascii_step, ill_step, ill_here, width_fits}
use Rattle.utf8.proofs.pass_sequences.Goals as goal
use Rattle.utf8.proofs.pass_sequences.Goals.{In-Some}

-- the sequence at `at` fits
fits : (c : In-Some)
    → c.loop-at.at + c.in-Some.n ≤ length c.args.text.now
fits c =
    width_fits _ c.loop-at.at _ (omega arith) (sym c.in-Some.ensures.1)

pub loop-at-init : goal.loop-at-init
loop-at-init c = (search rules, refl)

pub loop-at-preserved-then-text-at-lt128 : goal.loop-at-preserved-then-text-at-lt128
loop-at-preserved-then-text-at-lt128 c =
    (search rules, c.loop-at.invariant.1 ∙ ascii_step _ c.loop-at.at (omega arith) c.if-text-at-lt128.true)

pub returns-in_default : goal.returns-in_default
returns-in_default c =
    (c.loop-at-test.true, c.loop-at.invariant.1 ∙ ill_here _ c.loop-at.at (omega arith) (sym c.in_default.ensures))

pub overflow_add-at-else-text-at-lt128 : goal.overflow_add-at-else-text-at-lt128
overflow_add-at-else-text-at-lt128 c = omega (arith, fits (goal.at.overflow_add-at-else-text-at-lt128 c).In-Some)

pub loop-at-smaller : goal.loop-at-smaller
loop-at-smaller c = omega (arith, fits c, c.in-Some.ensures.0)

pub loop-at-preserved : goal.loop-at-preserved
loop-at-preserved c =
    (fits c, c.loop-at.invariant.1 ∙ ill_step _ c.loop-at.at c.in-Some.n (omega arith) (sym c.in-Some.ensures.1) (λ e. omega (arith, c.in-Some.ensures.0)))

pub returns : goal.returns
returns c = record { behind = c.loop-at-test.false; within = c.loop-at.invariant.0; onward = c.loop-at.invariant.1 }
