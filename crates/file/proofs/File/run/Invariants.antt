-- `file::File::run` meets its contract. The invariant: the requests left make what all of them make.
use lib.ListN.{length}
use Rattle.file.specs.Run.{requests_of, runs}
use Rattle.file.specs.Calls.{held}
use Rattle.file.proofs.Stored.{Left}
use Rattle.file.proofs.File.run.Given as goal

abbrev pub invariant-loop-numbers : goal.invariant-loop-numbers
invariant-loop-numbers l =
    let s = l.fn.self in
    let k = l.fn.lent in
    Left l.indent l.left (runs l.indent (requests_of l.requests) (held s k)) s l.self k l.lent

abbrev pub decreases-loop-numbers : goal.decreases-loop-numbers
decreases-loop-numbers l = length l.left
