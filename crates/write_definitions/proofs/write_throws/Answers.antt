-- `write_definitions::write_throws` meets its contract.
use Rattle.cursor.proofs.Chain.{begins, kept, last, ends, less, more}
use Rattle.write_definitions.proofs.Shapes.{throws_is}
use Rattle.write_definitions.proofs.write_throws.Goals as goal

pub returns-then-flags-lt-THROWS : goal.returns-then-flags-lt-THROWS
returns-then-flags-lt-THROWS c = ends (less _ _ _ _ c.if-flags-lt-THROWS.true (begins (throws_is _ _ _ _ _ _ _ _)))

pub returns : goal.returns
returns c =
    last c.put-2.ensures (kept c.write_params.ensures _ (kept c.put.ensures _ (more _ _ _ _ c.if-flags-lt-THROWS.false (begins (throws_is _ _ _ _ _ _ _ _)))))
