-- `lexer::mark` meets its contract.
use mathlib.Core.Bool.{false}
use native.Mathlib.Omega.{arith}
use Rattle.lexer.specs.Marked.{marked}
use Rattle.lexer.proofs.PlaceLaws.{placed_behind}
use Rattle.lexer.proofs.mark.Goals as goal

pub returns-in_default : goal.returns-in_default
unfolding marked
returns-in_default c =
    rw (← c.mark_of.ensures, c.in_default.is)

pub until-loc-requires : goal.until-loc-requires
until-loc-requires c = (c.requires.0, rw c.behind-behind.ensures (placed_behind false c.args.from c.requires.0 (omega (arith, c.requires.1))))

pub returns : goal.returns
unfolding marked
returns c =
    rw (c.until-loc.ensures, c.behind-behind.ensures, ← c.mark_of.ensures, c.in-Some.is)
