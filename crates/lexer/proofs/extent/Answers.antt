-- `lexer::extent` meets its contract.
use mathlib.Core.Path.{sym, ◌∙◌}
use mathlib.Core.Bool.{and-eq-true_iff}
use native.Mathlib.Omega.{arith}
use borrow.Author.Tests.{leb-true, ltb-true}
use lib.Dec.{leb, ltb}
use Rattle.token.proofs.Words.{scan_word}
use Rattle.lexer.proofs.ExtentLaws.{extent_hit, extent_mark, extent_none}
use Rattle.lexer.proofs.extent.Goals as goal

pub returns-then-k-eq-NONE : goal.returns-then-k-eq-NONE
returns-then-k-eq-NONE c = extent_none c.args.text.now c.args.at c.requires (λ j. omega (arith, c.type_inv.text j)) _ c.class_at-k.ensures c.if-k-eq-NONE.true

pub returns-then-k-ge-MARK : goal.returns-then-k-ge-MARK
returns-then-k-ge-MARK c =
    extent_mark c.args.text.now c.args.at c.requires (λ j. omega (arith, c.type_inv.text j)) _ c.class_at-k.ensures c.if-k-ge-MARK.true c.if-k-eq-NONE.false

pub word_extent-requires : goal.word_extent-requires
word_extent-requires c =
    let l = (and-eq-true_iff (leb 8 c.class_at-k.result) (ltb c.class_at-k.result 36)).0 (sym c.is_letter.ensures ∙ c.if-is_letter.true) in
    (c.requires, rw c.class_at-k.ensures at (leb-true 8 c.class_at-k.result l.0), rw c.class_at-k.ensures at (ltb-true c.class_at-k.result 36 l.1))

pub returns-then-is_letter : goal.returns-then-is_letter
returns-then-is_letter c = extent_hit c.args.text.now c.args.at c.requires _ _ (scan_word _ _ c.word_extent.ensures)

pub returns : goal.returns
returns c = extent_hit c.args.text.now c.args.at c.requires _ _ (sym c.scan_token.ensures ∙ c.in_ok-n.was)
