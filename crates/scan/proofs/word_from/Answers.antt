-- `scan::word_from` meets its contract. The invariant: the scan stands within a word, and the number is that of the bytes from `at` on, made from the number given.
use mathlib.Core.Path.{sym, ◌∙◌}
use native.Mathlib.Omega.{arith}
use Rattle.token.specs.WordNumber.{no_keyword}
use Rattle.token.proofs.Reach.{reach_end}
use Rattle.token.proofs.WordNumber.{from_below}
use Rattle.scan.proofs.ScanLaws.{letter_on}
use Rattle.scan.proofs.WordLaws.{number_none, number_on, word_cut, word_ends}
use mathlib.Core.Path.{◌≡◌, ap}
use Prim.Native.Nat.{ℕ, ◌+◌}
use lib.ListN.{length}
use Rattle.std.specs.Prelude.{Some}
use Rattle.scan.proofs.word_from.Goals as goal

pub loop-i-init : goal.loop-i-init
loop-i-init c = (c.requires.0, omega arith, number_none c.args.text.now c.args.number c.args.at)

pub name_of-requires-then-now-eq-NO_KEYWORD : goal.name_of-requires-then-now-eq-NO_KEYWORD
name_of-requires-then-now-eq-NO_KEYWORD c = letter_on c.loop-i.invariant.0 c.loop-i-test.true (rw c.class_at-k.ensures at c.if-k-ge-DOT.false)

pub returns-then-now-eq-NO_KEYWORD : goal.returns-then-now-eq-NO_KEYWORD
returns-then-now-eq-NO_KEYWORD c =
    let t = c.args.text.now in
    let e = number_on t c.args.number c.args.at c.loop-i.i c.loop-i.now c.loop-i.invariant.2 c.loop-i.invariant.1 c.loop-i-test.true c.step-now.result (rw c.class_at-k.ensures at c.step-now.ensures) in
    word_cut t c.args.number c.args.at (c.loop-i.i + 1) no_keyword (letter_on c.loop-i.invariant.0 c.loop-i-test.true (rw c.class_at-k.ensures at c.if-k-ge-DOT.false)) (omega (arith, c.loop-i.invariant.1)) (sym c.if-now-eq-NO_KEYWORD.true ∙ e) c.name_of-then-now-eq-NO_KEYWORD.result c.name_of-then-now-eq-NO_KEYWORD.ensures

pub class_at-k-requires : goal.class_at-k-requires
class_at-k-requires c = (c.loop-i-test.true)

pub word_end-requires : goal.word_end-requires
word_end-requires c = (c.loop-i-test.true, rw c.class_at-k.ensures at c.if-k-ge-DOT.true, c.loop-i.invariant.0, rw c.loop-i.invariant.2 (from_below c.args.number _ c.requires.1))

pub returns-then-k-ge-DOT : goal.returns-then-k-ge-DOT
returns-then-k-ge-DOT c = word_cut c.args.text.now c.args.number c.args.at c.loop-i.i c.loop-i.now c.loop-i.invariant.0 c.loop-i.invariant.1 c.loop-i.invariant.2 c.word_end.result c.word_end.ensures

pub step-now-requires : goal.step-now-requires
step-now-requires c = (c.if-k-ge-DOT.false)

pub loop-i-preserved : goal.loop-i-preserved
loop-i-preserved c = (letter_on c.loop-i.invariant.0 c.loop-i-test.true (rw c.class_at-k.ensures at c.if-k-ge-DOT.false), omega (arith, c.loop-i.invariant.1), number_on c.args.text.now c.args.number c.args.at c.loop-i.i c.loop-i.now c.loop-i.invariant.2 c.loop-i.invariant.1 c.loop-i-test.true c.step-now.result (rw c.class_at-k.ensures at c.step-now.ensures))

pub returns : goal.returns
returns c =
    let e : length c.args.text.now ≡ c.loop-i.i = omega (arith, c.loop-i.invariant.0.inside) in
    ap (λ (n : ℕ). Some (c.kind_of.result, n)) e
    ∙ word_cut c.args.text.now c.args.number c.args.at c.loop-i.i c.loop-i.now c.loop-i.invariant.0 c.loop-i.invariant.1 c.loop-i.invariant.2 _ (word_ends c.args.text.now c.loop-i.now c.loop-i.i (reach_end c.loop-i.invariant.0 c.loop-i-test.false) c.kind_of.result c.kind_of.ensures)
