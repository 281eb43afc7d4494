-- `scan::token_of` meets its contract.
use mathlib.Core.Path.{refl, sym, ◌∙◌}
use native.Mathlib.Omega.{arith}
use Rattle.token.proofs.Reach.{reach_start}
use Rattle.token.proofs.Words.{scan_plain}
use Rattle.token.proofs.WordNumber.{no_word_first}
use Rattle.scan.proofs.ScanLaws.{first_letter, first_zero, first_digit, scan_nil}
use Rattle.scan.proofs.WordLaws.{word_scan}
use Rattle.scan.proofs.token_of.Goals as goal

pub returns-then-text-eq0 : goal.returns-then-text-eq0
returns-then-text-eq0 c = sym (scan_nil c.args.text.now c.if-text-eq0.true)

pub sign_of-requires : goal.sign_of-requires
sign_of-requires c = (omega arith, c.class_at-k.ensures, c.if-k-ge-DOT.true, (reach_start c.args.text.now (λ j. omega (arith, c.type_inv.text j))))

pub returns-then-k-ge-DOT : goal.returns-then-k-ge-DOT
returns-then-k-ge-DOT c = c.sign_of.ensures ∙ sym (scan_plain c.args.text.now _ ((no_word_first c.args.text.now).1 (rw c.class_at-k.ensures at c.if-k-ge-DOT.true)) refl)

pub word_of-requires : goal.word_of-requires
word_of-requires c = (omega arith, c.class_at-k.ensures, c.if-k-ge-E.true, c.if-k-ge-DOT.false, (reach_start c.args.text.now (λ j. omega (arith, c.type_inv.text j))))

pub returns-then-k-ge-E : goal.returns-then-k-ge-E
returns-then-k-ge-E c = word_scan c.args.text.now 1 (first_letter (reach_start c.args.text.now (λ j. omega (arith, c.type_inv.text j))) (omega arith) (rw c.class_at-k.ensures at c.if-k-ge-E.true) (rw c.class_at-k.ensures at c.if-k-ge-DOT.false)) _ c.word_of.ensures

pub zero_of-requires : goal.zero_of-requires
zero_of-requires c = (first_zero (reach_start c.args.text.now (λ j. omega (arith, c.type_inv.text j))) (omega arith) (sym c.class_at-k.ensures ∙ c.if-k-eq0.true))

pub returns-then-k-eq0 : goal.returns-then-k-eq0
returns-then-k-eq0 c = c.zero_of.ensures ∙ sym (scan_plain c.args.text.now _ ((no_word_first c.args.text.now).0 (rw c.class_at-k.ensures at c.if-k-ge-E.false)) refl)

pub whole_of-requires : goal.whole_of-requires
whole_of-requires c = (first_digit (reach_start c.args.text.now (λ j. omega (arith, c.type_inv.text j))) (omega arith) (rw c.class_at-k.ensures at c.if-k-ge-E.false) (λ e. c.if-k-eq0.false (c.class_at-k.ensures ∙ e)))

pub returns : goal.returns
returns c = c.whole_of.ensures ∙ sym (scan_plain c.args.text.now _ ((no_word_first c.args.text.now).0 (rw c.class_at-k.ensures at c.if-k-ge-E.false)) refl)
