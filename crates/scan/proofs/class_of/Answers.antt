-- `scan::class_of` meets its contract: the table is `classes`.
use mathlib.Core.Path.{refl}
use Rattle.token.specs.Run.{class_of}
use Rattle.token.specs.Tables.{classes}
use Rattle.scan.proofs.class_of.Goals as goal

pub returns : goal.returns
unfolding class_of classes
returns c = refl
