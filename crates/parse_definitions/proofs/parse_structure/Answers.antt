-- `parse_definitions::parse_structure` meets its contract.
use mathlib.Core.Path.{refl}
use Prim.Native.Nat.{ℕ}
use Rattle.steps.specs.Reads.{Source}
use Rattle.steps.proofs.Chain.{begins, last}
use Rattle.parse_definitions.specs.Into.{structure_body_in, structure_in}
use Rattle.parse_definitions.proofs.parse_structure.Goals as goal

pub returns : goal.returns
unfolding structure_in
returns c = last (c.define.ensures (λ (q : ℕ) (x : Source). structure_body_in x.text x.base q) (λ s n r t h. h)) (begins refl)
