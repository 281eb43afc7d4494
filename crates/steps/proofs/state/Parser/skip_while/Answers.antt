-- `steps::state::Parser::skip_while` meets its contract.
use mathlib.Core.Path.{refl, sym, ◌∙◌}
use Rattle.steps.proofs.Chain.{begins, so, kept, ends}
use Rattle.steps.proofs.Turns.{skip_stop, skip_pass, fewer_by}
use Rattle.steps.proofs.state.Parser.skip_while.Goals as goal

pub loop-self-init : goal.loop-self-init
loop-self-init g c = λ b e. begins refl

pub loop-self-smaller : goal.loop-self-smaller
loop-self-smaller g c = fewer_by c.advance.ensures (c.requires.some _ (rw c.loop-self-test.true at c.is_passed.ensures))

pub loop-self-preserved : goal.loop-self-preserved
loop-self-preserved g c = λ b e. kept c.advance.ensures _ (so _ (skip_pass _ _ _ _ _ (sym (e _ _ c.is_passed.ensures) ∙ c.loop-self-test.true)) (c.loop-self.invariant b e))

pub returns : goal.returns
returns g c = λ b e. ends (so _ (skip_stop _ _ _ _ _ (sym (e _ _ c.is_passed.ensures) ∙ c.loop-self-test.false)) (c.loop-self.invariant b e))
