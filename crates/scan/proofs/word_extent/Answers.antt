-- `scan::word_extent` meets its contract: the part of the text from the offset on is scanned.
use native.Mathlib.Omega.{arith}
use Rattle.scan.proofs.Part.{part}
use Rattle.scan.proofs.FirstByte.{letter_at}
use Rattle.scan.proofs.word_extent.Goals as goal

pub name_end-requires : goal.name_end-requires
name_end-requires c =
    (rw (part c.args.text.now c.args.at) (letter_at c.args.text.now c.args.at (λ j. omega (arith, c.type_inv.text j)) c.requires.0 c.requires.1 c.requires.2))

pub returns : goal.returns
returns c = let a = c.args in rw (part a.text.now a.at) at c.name_end.ensures.0
