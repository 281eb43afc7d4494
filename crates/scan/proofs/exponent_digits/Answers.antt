-- `scan::exponent_digits` meets its contract.
use mathlib.Core.Path.{sym, ap, ◌∙◌}
use Rattle.token.specs.declared.Token.TheVariants as T
use Rattle.std.specs.Prelude.{Some}
use Rattle.token.proofs.Reach.{reach_end}
use Rattle.scan.proofs.ScanLaws.{exponent_digit_law, exponent_none}
use Rattle.scan.proofs.exponent_digits.Goals as goal

pub returns-then-text-at : goal.returns-then-text-at
returns-then-text-at c = sym (reach_end c.requires c.if-text-at.true)

pub returns-then-class_at-lt-E : goal.returns-then-class_at-lt-E
returns-then-class_at-lt-E c = ap (λ n. Some (T.DoubleLiteral, n)) c.run_above.ensures ∙ sym (exponent_digit_law c.requires c.if-text-at.false (rw c.class_at.ensures at c.if-class_at-lt-E.true))

pub returns : goal.returns
returns c = sym (exponent_none c.requires c.if-text-at.false (rw c.class_at.ensures at c.if-class_at-lt-E.false))
