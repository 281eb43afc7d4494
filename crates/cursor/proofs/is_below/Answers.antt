-- `cursor::is_below` meets its contract.
use mathlib.Core.Path.{◌≡◌, refl}
use mathlib.Core.Bool.{Bool, true, false, not, cond}
use borrow.Author.Tests.{lt-ltb, le-ltb, lt-leb}
use Rattle.ast.specs.Records.{no_parent}
use Rattle.cursor.specs.Onto.{below}
use Rattle.cursor.proofs.is_below.Goals as goal

negation : (b : Bool) → not b ≡ cond b false true
negation true = refl
negation false = refl

pub returns-then-owner-parent : goal.returns-then-owner-parent
unfolding below no_parent
returns-then-owner-parent c = rw (le-ltb _ _ c.if-owner-parent.true) (negation _)

pub returns-else-owner-parent : goal.returns-else-owner-parent
unfolding below
returns-else-owner-parent c = rw (lt-ltb _ _ c.if-owner-parent.false, lt-leb _ _ c.if-owner-parent.false)
