-- `parse_definitions::parse_namespace` meets its contract.
use mathlib.Core.Path.{refl}
use Prim.Native.Nat.{ℕ}
use Rattle.steps.specs.Reads.{Source}
use Rattle.steps.proofs.Chain.{begins, last}
use Rattle.parse_definitions.specs.Into.{namespace_in, scoped_name_in}
use Rattle.parse_definitions.proofs.parse_namespace.Goals as goal

pub returns : goal.returns
unfolding namespace_in
returns c = last (c.define.ensures (λ (q : ℕ) (x : Source). scoped_name_in x.text x.base q) (λ s n r t h. h)) (begins refl)
