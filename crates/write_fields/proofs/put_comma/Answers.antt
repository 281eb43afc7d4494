-- `write_fields::put_comma` meets its contract.
use mathlib.Core.Path.{refl}
use Rattle.cursor.proofs.Chain.{begins, last, ends, when, unless}
use Rattle.write_fields.proofs.Shapes.{comma_is}
use Rattle.write_fields.proofs.put_comma.Goals as goal

pub returns-then-not-first : goal.returns-then-not-first
returns-then-not-first c = last c.put.ensures (unless _ _ _ _ refl c.if-not-first.true (begins (comma_is _ _ _)))

pub returns-else-not-first : goal.returns-else-not-first
returns-else-not-first c = ends (when _ _ _ _ refl c.if-not-first.false (begins (comma_is _ _ _)))
