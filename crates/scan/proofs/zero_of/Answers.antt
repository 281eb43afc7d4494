-- `scan::zero_of` meets its contract.
use mathlib.Core.Path.{sym, ap, ◌∙◌}
use Rattle.token.specs.declared.Token.TheVariants as T
use Rattle.std.specs.Prelude.{Some}
use Rattle.token.proofs.Reach.{reach_end}
use Rattle.scan.proofs.ScanLaws.{zero_below, zero_above, hex_end, hex_digit_law, hex_none}
use Rattle.scan.proofs.zero_of.Goals as goal

pub returns-then-text-le1 : goal.returns-then-text-le1
returns-then-text-le1 c = sym (reach_end c.requires c.if-text-le1.true)

pub whole_of-requires : goal.whole_of-requires
whole_of-requires c = (zero_below c.requires c.if-text-le1.false (rw c.class_at-k.ensures at c.if-k-lt-X.true))

pub whole_of-requires-then-k-ge-NO_X : goal.whole_of-requires-then-k-ge-NO_X
whole_of-requires-then-k-ge-NO_X c = (zero_above c.requires c.if-text-le1.false (rw c.class_at-k.ensures at c.if-k-ge-NO_X.true))

pub returns-then-text-le2 : goal.returns-then-text-le2
returns-then-text-le2 c = sym (hex_end c.requires c.if-text-le1.false (rw c.class_at-k.ensures at c.if-k-lt-X.false) (rw c.class_at-k.ensures at c.if-k-ge-NO_X.false) c.if-text-le2.true)

pub returns-then-class_at-lt-X : goal.returns-then-class_at-lt-X
returns-then-class_at-lt-X c = ap (λ n. Some (T.HexLiteral, n)) c.run.ensures ∙ sym (hex_digit_law c.requires c.if-text-le1.false (rw c.class_at-k.ensures at c.if-k-lt-X.false) (rw c.class_at-k.ensures at c.if-k-ge-NO_X.false) c.if-text-le2.false (rw c.class_at.ensures at c.if-class_at-lt-X.true))

pub returns : goal.returns
returns c = sym (hex_none c.requires c.if-text-le1.false (rw c.class_at-k.ensures at c.if-k-lt-X.false) (rw c.class_at-k.ensures at c.if-k-ge-NO_X.false) c.if-text-le2.false (rw c.class_at.ensures at c.if-class_at-lt-X.false))
