-- `scan::signed_of` meets its contract.
use mathlib.Core.Path.{sym, ◌∙◌}
use Rattle.token.proofs.Reach.{reach_end}
use Rattle.scan.proofs.ScanLaws.{signed_digit, signed_stop, signed_point, signed_fraction, signed_none}
use Rattle.scan.proofs.signed_of.Goals as goal

pub returns-then-text-le1 : goal.returns-then-text-le1
returns-then-text-le1 c = sym (reach_end c.requires c.if-text-le1.true)

pub whole_of-requires : goal.whole_of-requires
whole_of-requires c = (signed_digit c.requires c.if-text-le1.false (rw c.class_at-k.ensures at c.if-k-lt-E.true))

pub returns-then-k-ne-DOT : goal.returns-then-k-ne-DOT
returns-then-k-ne-DOT c = sym (signed_stop c.requires c.if-text-le1.false (rw c.class_at-k.ensures at c.if-k-lt-E.false) (λ e. c.if-k-ne-DOT.true (c.class_at-k.ensures ∙ e)))

pub returns-then-text-le2 : goal.returns-then-text-le2
returns-then-text-le2 c = sym (reach_end (signed_point c.requires c.if-text-le1.false (sym c.class_at-k.ensures ∙ c.if-k-ne-DOT.false)) c.if-text-le2.true)

pub fraction_of-requires : goal.fraction_of-requires
fraction_of-requires c = (signed_fraction (signed_point c.requires c.if-text-le1.false (sym c.class_at-k.ensures ∙ c.if-k-ne-DOT.false)) c.if-text-le2.false (rw c.class_at.ensures at c.if-class_at-lt-E.true))

pub returns : goal.returns
returns c = sym (signed_none (signed_point c.requires c.if-text-le1.false (sym c.class_at-k.ensures ∙ c.if-k-ne-DOT.false)) c.if-text-le2.false (rw c.class_at.ensures at c.if-class_at-lt-E.false))
