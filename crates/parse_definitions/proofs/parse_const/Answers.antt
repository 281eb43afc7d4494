-- `parse_definitions::parse_const` meets its contract.
use mathlib.Core.Path.{refl}
use Prim.Native.Nat.{ℕ}
use Rattle.steps.specs.Reads.{Source}
use Rattle.steps.proofs.Chain.{begins, on, off, last}
use Rattle.parse_definitions.specs.Into.{const_in, constant_in}
use Rattle.parse_definitions.proofs.parse_const.Goals as goal

pub returns-in_err-define : goal.returns-in_err-define
unfolding const_in
returns-in_err-define c = off (c.define.ensures (λ (q : ℕ) (x : Source). constant_in x.text x.base q) (λ s n r t h. h)) c.in_err-define.was c.from_residual.ensures _ (begins refl)

pub returns : goal.returns
unfolding const_in
returns c = last c.skip_trivia.ensures (on (c.define.ensures (λ (q : ℕ) (x : Source). constant_in x.text x.base q) (λ s n r t h. h)) c.in_ok-define.was _ (begins refl))
