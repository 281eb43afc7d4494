-- `steps::state::Parser::enclose` meets its contract.
use mathlib.Core.Path.{refl}
use Rattle.steps.specs.Into.{enclosed_in}
use Rattle.steps.proofs.Chain.{begins, kept, on, off, last}
use Rattle.steps.proofs.state.Parser.enclose.Goals as goal

pub returns-in_err-inside : goal.returns-in_err-inside
unfolding enclosed_in
returns-in_err-inside g c = λ m f. off (f _ _ _ _ c.in_err-inside.ensures) refl c.from_residual.ensures _ (kept c.open.ensures _ (begins refl))

pub returns : goal.returns
unfolding enclosed_in
returns g c = λ m f. last c.put_node.ensures (on (f _ _ _ _ c.in_ok-inside.ensures) refl _ (kept c.open.ensures _ (begins refl)))
