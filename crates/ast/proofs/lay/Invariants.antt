-- `ast::lay` meets its contract. The invariant: what is still to be laid makes what was to be laid at the start.
use mathlib.Core.Path.{◌≡◌}
use Rattle.ast.specs.Laid.{laid_with}
use Rattle.ast.proofs.LaidLaws.{laid_from}
use Rattle.ast.proofs.lay.Given as goal

abbrev pub invariant-loop-i : goal.invariant-loop-i
invariant-loop-i g l = laid_from l.rest l.i l.values l.list ≡ laid_with l.rest l.values l.initial.list
