-- `steps::state::Parser::skip_trivia` meets its contract.
use mathlib.Core.Path.{refl, sym, ap, ◌∙◌}
use native.Mathlib.Omega.{arith}
use Prim.Native.Nat.{ℕ}
use lib.Dec.{eqb}
use Rattle.steps.proofs.Bytes.{comment_some, separator_some}
use Rattle.steps.proofs.Chain.{begins, so, kept, ends}
use Rattle.steps.proofs.Turns.{comments_wait, comments_stop, comments_pass, fewer_by, waiting_by}
use Rattle.steps.proofs.state.Parser.skip_trivia.Goals.{then-is_comment, else-is_comment+else-not-is_separator}
use Rattle.steps.proofs.state.Parser.skip_trivia.Goals as goal

pub loop-self-init : goal.loop-self-init
loop-self-init c = begins refl

pub returns-then-not-is_separator : goal.returns-then-not-is_separator
returns-then-not-is_separator c =
    let e = sym c.is_comment.ensures ∙ c.if-is_comment.false in
    ends (so _ (comments_stop _ _ _ _ _ e refl (sym c.is_separator.ensures ∙ c.if-not-is_separator.true)) c.loop-self.invariant)

pub loop-self-smaller : goal.loop-self-smaller
loop-self-smaller c =
    let e = sym c.is_comment.ensures in
    elim c.if-is_comment.branch [
      | then-is_comment w ↦
          let h = waiting_by w.wait.ensures in
          let l = fewer_by (rw w.self-is at c.advance.ensures) (ap (λ (n : ℕ). eqb n 255) h.0 ∙ comment_some _ (e ∙ w.if-is_comment.true)) in
          omega (arith, l, h.1)
      | else-is_comment+else-not-is_separator w ↦
          (fewer_by (rw w.self-is at c.advance.ensures) (separator_some _ (sym w.is_separator.ensures ∙ w.if-not-is_separator.false)))
    ]

pub loop-self-preserved : goal.loop-self-preserved
loop-self-preserved c =
    let l = c.loop-self in
    let e = sym c.is_comment.ensures in
    elim c.if-is_comment.branch [
      | then-is_comment w ↦ kept (rw w.self-is at c.advance.ensures) _ (kept w.wait.ensures _ (so _ (comments_wait _ _ _ _ _ (e ∙ w.if-is_comment.true)) l.invariant))
      | else-is_comment+else-not-is_separator w ↦
          kept (rw w.self-is at c.advance.ensures) _
          (so _ (comments_pass _ _ _ _ _ (e ∙ w.if-is_comment.false) refl (sym w.is_separator.ensures ∙ w.if-not-is_separator.false)) l.invariant)
    ]
