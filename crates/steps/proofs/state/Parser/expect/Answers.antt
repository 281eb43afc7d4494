-- `steps::state::Parser::expect` meets its contract.
use mathlib.Core.Path.{refl, sym, ◌∙◌}
use Rattle.steps.specs.Into.{expect_in, take_in, advance_in}
use Rattle.steps.proofs.Chain.{begins, halts, last, when, unless}
use Rattle.parser.proofs.KindLaws.{code_below}
use Rattle.steps.proofs.Bytes.{some_by}
use Prim.Native.Nat.{ℕ}
use lib.Dec.{eqb}
use Rattle.token.specs.Code.{code}
use Rattle.steps.proofs.state.Parser.expect.Goals as goal

pub returns-then-not-is : goal.returns-then-not-is
unfolding expect_in
returns-then-not-is c = halts _ _ c.error.ensures (unless _ _ _ _ c.is.ensures c.if-not-is.true (begins refl))

pub returns : goal.returns
unfolding expect_in take_in advance_in
returns c =
    let e = sym c.is.ensures ∙ c.if-not-is.false in
    last c.advance.ensures (unless _ _ _ _ refl (some_by (λ (n : ℕ). eqb n (code c.args.token)) (code_below c.args.token) _ e) (when _ _ _ _ c.is.ensures c.if-not-is.false (begins refl)))
