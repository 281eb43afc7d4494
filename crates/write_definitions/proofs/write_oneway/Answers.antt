-- `write_definitions::write_oneway` meets its contract.
use mathlib.Core.Path.{refl}
use Rattle.cursor.proofs.Chain.{begins, last, ends, yes, no}
use Rattle.write_definitions.proofs.Shapes.{oneway_is}
use Rattle.write_definitions.proofs.write_oneway.Goals.{then-flags-eq-ONEWAY-via-then-flags-eq-ONEWAY, then-flags-eq-ONEWAY-via-else-flags-eq-ONEWAY+then-flags-eq-ONEWAY_THROWS}
use Rattle.write_definitions.proofs.write_oneway.Goals as goal

pub returns-then-flags-eq-ONEWAY : goal.returns-then-flags-eq-ONEWAY
returns-then-flags-eq-ONEWAY c =
    elim c.then-flags-eq-ONEWAY.branch [
      | then-flags-eq-ONEWAY-via-then-flags-eq-ONEWAY w ↦ last c.put.ensures (yes _ _ _ _ _ refl w.if-flags-eq-ONEWAY.true (begins (oneway_is _ _ _)))
      | then-flags-eq-ONEWAY-via-else-flags-eq-ONEWAY+then-flags-eq-ONEWAY_THROWS w ↦
          last c.put.ensures (yes _ _ _ _ _ refl w.if-flags-eq-ONEWAY_THROWS.true (no _ _ _ _ _ refl w.if-flags-eq-ONEWAY.false (begins (oneway_is _ _ _))))
    ]

pub returns-else-flags-eq-ONEWAY_THROWS : goal.returns-else-flags-eq-ONEWAY_THROWS
returns-else-flags-eq-ONEWAY_THROWS c =
    ends (no _ _ _ _ _ refl c.if-flags-eq-ONEWAY_THROWS.false (no _ _ _ _ _ refl c.if-flags-eq-ONEWAY.false (begins (oneway_is _ _ _))))
