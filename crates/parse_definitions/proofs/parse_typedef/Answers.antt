-- `parse_definitions::parse_typedef` meets its contract.
use mathlib.Core.Path.{refl}
use Prim.Native.Nat.{ℕ}
use Rattle.steps.specs.Reads.{Source}
use Rattle.steps.proofs.Chain.{begins, last}
use Rattle.parse_definitions.specs.Into.{typed_name_in, typedef_in}
use Rattle.parse_definitions.proofs.parse_typedef.Goals as goal

pub returns : goal.returns
unfolding typedef_in
returns c = last (c.define.ensures (λ (q : ℕ) (x : Source). typed_name_in x.text 14 x.base q) (λ s n r t h. h)) (begins refl)
