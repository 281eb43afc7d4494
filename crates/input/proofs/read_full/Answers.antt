-- `input::read_full` meets its contract.
use Rattle.std.proofs.Common.{rules, subst}
use Rattle.std.specs.Io.KnownBytes.{Consumes}
use Rattle.std.proofs.KnownBytes.{Consumes-trans}
use Rattle.input.proofs.Parts.{filled}
use Rattle.input.proofs.read_full.Goals as goal

pub loop-done-preserved : goal.loop-done-preserved
loop-done-preserved g c =
    let before = c.loop-done.invariant in
    let read = c.in_ok-n.ensures in
    (search rules, search rules, subst (Consumes _ _) (filled _ _ _ _ before.0 read.bound.0) (Consumes-trans _ _ _ _ _ before.2 read.bytes.0))
