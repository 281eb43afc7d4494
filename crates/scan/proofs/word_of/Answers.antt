-- `scan::word_of` meets its contract.
use native.Mathlib.Omega.{arith}
use lib.ListN.{get_or}
use Rattle.token.specs.WordNumber.{start, step}
use Rattle.token.proofs.WordNumber.{step_below}
use Rattle.scan.proofs.ScanLaws.{first_letter}
use Rattle.scan.proofs.WordLaws.{number_none, number_on, word_cut}
use Rattle.scan.proofs.word_of.Goals as goal

pub step-number-requires : goal.step-number-requires
step-number-requires c = (c.requires.3)

pub word_from-requires : goal.word_from-requires
unfolding step
word_from-requires c = (first_letter c.requires.4 c.requires.0 (rw c.requires.1 at c.requires.2) (rw c.requires.1 at c.requires.3), rw (c.step-number.ensures, c.requires.1) (step_below start (get_or c.args.text.now 0 0) (omega arith)))

pub returns : goal.returns
returns c = let t = c.args.text.now in word_cut t start 0 1 c.step-number.result (first_letter c.requires.4 c.requires.0 (rw c.requires.1 at c.requires.2) (rw c.requires.1 at c.requires.3)) (omega arith) (number_on t start 0 0 start (number_none t start 0) (omega arith) c.requires.0 c.step-number.result (rw c.requires.1 at c.step-number.ensures)) c.word_from.result c.word_from.ensures
