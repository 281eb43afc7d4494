-- `parse_definitions::define` meets its contract.
use mathlib.Core.Path.{refl}
use Rattle.ast.specs.Records.{no_parent}
use Rattle.steps.proofs.Chain.{begins, kept, on, off, last}
use Rattle.parse_definitions.proofs.Forms.{define_is}
use Rattle.parse_definitions.proofs.define.Goals as goal

pub returns-in_err-inside : goal.returns-in_err-inside
returns-in_err-inside g c =
    λ m f. off (f _ _ _ _ c.in_err-inside.ensures) refl c.from_residual.ensures _ (kept c.advance.ensures _ (kept c.begin_node.ensures _ (begins (define_is _ _ _ _ _ _ _))))

pub returns : goal.returns
unfolding no_parent
returns g c =
    λ m f. last c.put_node.ensures
    (on (f _ _ _ _ c.in_ok-inside.ensures) refl _ (kept c.advance.ensures _ (kept c.begin_node.ensures _ (begins (define_is _ _ _ _ _ _ _)))))
