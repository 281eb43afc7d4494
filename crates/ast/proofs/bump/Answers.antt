-- `ast::bump` meets its contract.
use mathlib.Core.Path.{sym, ◌∙◌}
use native.Mathlib.Omega.{arith}
use Rattle.ast.proofs.Largest.{bump_least}
use Rattle.ast.proofs.bump.Goals as goal

pub returns : goal.returns
returns c = c.saturating_add.ensures ∙ sym (bump_least c.args.n (omega arith))
