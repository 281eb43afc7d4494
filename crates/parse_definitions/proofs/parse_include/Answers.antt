-- `parse_definitions::parse_include` meets its contract.
use mathlib.Core.Path.{refl}
use Prim.Native.Nat.{ℕ}
use Rattle.steps.specs.Reads.{Source}
use Rattle.steps.proofs.Chain.{begins, last}
use Rattle.parse_definitions.specs.Into.{include_in, included_in}
use Rattle.parse_definitions.proofs.parse_include.Goals as goal

pub returns : goal.returns
unfolding include_in
returns c = last (c.define.ensures (λ (q : ℕ) (x : Source). included_in x.text x.base q) (λ s n r t h. h)) (begins refl)
