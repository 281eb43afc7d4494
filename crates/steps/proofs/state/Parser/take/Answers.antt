-- `steps::state::Parser::take` meets its contract.
use mathlib.Core.Path.{refl}
use Rattle.lexer.specs.declared.error.ErrorKind.TheVariants as V
use Rattle.steps.specs.Into.{take_in, advance_in}
use Rattle.steps.proofs.Chain.{begins, halts, last, when, unless}
use Rattle.steps.proofs.AheadTests.{some_ahead, none_ahead}
use Rattle.steps.proofs.state.Parser.take.Goals as goal

pub returns-in-Some : goal.returns-in-Some
unfolding take_in advance_in
returns-in-Some c = last c.advance.ensures (unless _ _ _ _ refl (some_ahead _ c.in-Some.is) (begins refl))

pub returns-in-None : goal.returns-in-None
unfolding take_in
returns-in-None c = halts _ V.UnexpectedEOF c.error.ensures (when _ _ _ _ refl (none_ahead _ c.in-None.is) (begins refl))
