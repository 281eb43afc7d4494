-- `steps::state::Parser::skip_comments` meets its contract.
use mathlib.Core.Path.{refl, sym, ap, ◌∙◌}
use native.Mathlib.Omega.{arith}
use Prim.Native.Nat.{ℕ}
use lib.Dec.{eqb}
use Rattle.steps.proofs.Bytes.{comment_some}
use Rattle.steps.proofs.Chain.{begins, so, kept, ends}
use Rattle.steps.proofs.Turns.{comments_wait, comments_only, fewer_by, waiting_by}
use Rattle.steps.proofs.state.Parser.skip_comments.Goals as goal

pub loop-self-init : goal.loop-self-init
loop-self-init c = begins refl

pub loop-self-smaller : goal.loop-self-smaller
loop-self-smaller c =
    let h = waiting_by c.wait.ensures in
    let l = fewer_by c.advance.ensures (ap (λ (n : ℕ). eqb n 255) h.0 ∙ comment_some _ (sym c.is_comment.ensures ∙ c.loop-self-test.true)) in
    omega (arith, l, h.1)

pub loop-self-preserved : goal.loop-self-preserved
loop-self-preserved c =
    kept c.advance.ensures _ (kept c.wait.ensures _ (so _ (comments_wait _ _ _ _ _ (sym c.is_comment.ensures ∙ c.loop-self-test.true)) c.loop-self.invariant))

pub returns : goal.returns
returns c = ends (so _ (comments_only _ _ _ _ _ (sym c.is_comment.ensures ∙ c.loop-self-test.false) refl) c.loop-self.invariant)
