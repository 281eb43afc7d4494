-- `file::File::call` meets its contract.
use mathlib.Core.Bool.{true, false}
use Rattle.file.proofs.Stored.{call_is}
use Rattle.file.proofs.File.call.Goals as goal

pub returns-then-request : goal.returns-then-request
returns-then-request c = call_is _ _ true c.if-request.true c.print.ensures

pub returns-else-request : goal.returns-else-request
returns-else-request c = call_is _ _ false c.if-request.false (c.read.ensures _)
