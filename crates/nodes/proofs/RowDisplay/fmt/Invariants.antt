-- The loop of `Row`'s `fmt`: the numbers so far are written.
use Rattle.std.proofs.Common.{◌∷◌, get_or, take}
use Rattle.std.specs.Fmt.{HasWritten, IsPlainFormatter}
use Rattle.nodes.specs.Text.{row_text}
use Rattle.nodes.proofs.RowDisplay.fmt.Given as goal

abbrev pub invariant-loop-number : goal.invariant-loop-number
invariant-loop-number g l =
    IsPlainFormatter l.fn.f → HasWritten g.W.Write.write_str_gives l.fn.f (row_text (get_or l.self.0.now 0 0 ∷ take l.number-index l.rest)) l.f
