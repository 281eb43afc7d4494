-- `file::run` meets its contract.
use mathlib.Core.Path.{sym, ap, ◌∙◌}
use borrow.Author.Rules.{rules}
use Rattle.file.specs.Run.{Memory, bytes_of}
use Rattle.file.proofs.Stored.{handed, started}
use Rattle.file.proofs.Kept.{run_kept}
use Rattle.file.proofs.run.Goals as goal

pub returns : goal.returns
returns c =
    let w = c.run.ensures in
    let s = sym w.space in
    let n = sym w.nodes in
    let k = sym w.comments in
    let o = sym w.out in
    let e = handed _ (w.goes ∙ started _ _ _ _ _ _ _ _ c.min-size.ensures) (search rules) (search rules) (search rules) (search rules) in
    (e, run_kept _ _ _ _ (ap (λ (m : Memory). bytes_of m.file) e))
