-- `scan::goes_on` meets its contract.
use mathlib.Core.Path.{sym, ap, ◌∙◌}
use mathlib.Core.Bool.{◌&&◌}
use borrow.Author.Tests.{eqb-true, ltb-true, ltb-false}
use lib.Dec.{leb, ltb}
use Rattle.scan.proofs.ScanLaws.{name_stop, dot_end, dot_next}
use Rattle.scan.proofs.goes_on.Goals as goal
use Rattle.scan.proofs.goes_on.Goals.{then-class_at-eq-DOT, else-class_at-eq-DOT}

pub returns-then-i-text : goal.returns-then-i-text
returns-then-i-text c =
    elim c.if-class_at-eq-DOT.branch [
      | then-class_at-eq-DOT w ↦ dot_next c.requires.2 c.requires.0 c.requires.1 (sym c.class_at.ensures ∙ w.if-class_at-eq-DOT.true) (ltb-true _ _ (sym w.value-is ∙ c.if-i-text.true)) c.is_letter.result (c.is_letter.ensures ∙ ap (λ k. leb 8 k && ltb k 36) c.class_at-then-i-text.ensures)
      | else-class_at-eq-DOT w ↦ absurd (w.if-class_at-eq-DOT.false (eqb-true _ _ (sym w.value-is ∙ c.if-i-text.true)))
    ]

pub returns-else-i-text : goal.returns-else-i-text
returns-else-i-text c =
    rw c.if-i-text.false
    (elim c.if-class_at-eq-DOT.branch [
      | then-class_at-eq-DOT w ↦ dot_end c.requires.2 c.requires.0 c.requires.1 (sym c.class_at.ensures ∙ w.if-class_at-eq-DOT.true) (ltb-false _ _ (sym w.value-is ∙ c.if-i-text.false))
      | else-class_at-eq-DOT w ↦ name_stop c.requires.2 c.requires.0 c.requires.1 (λ e. w.if-class_at-eq-DOT.false (c.class_at.ensures ∙ e))
    ])
