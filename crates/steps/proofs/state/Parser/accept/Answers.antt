-- `steps::state::Parser::accept` meets its contract.
use mathlib.Core.Path.{refl}
use Rattle.steps.specs.Into.{accept_in, advance_in}
use Rattle.steps.proofs.Chain.{begins, ends, last, when, unless}
use Rattle.steps.proofs.state.Parser.accept.Goals as goal

pub returns-then-accepts : goal.returns-then-accepts
unfolding accept_in advance_in
returns-then-accepts c = record { was = c.is-accepts.ensures; goes = last c.advance.ensures (when _ _ _ _ c.is-accepts.ensures c.if-accepts.true (begins refl)) }

pub returns-else-accepts : goal.returns-else-accepts
unfolding accept_in
returns-else-accepts c = record { was = c.is-accepts.ensures; goes = ends (unless _ _ _ _ c.is-accepts.ensures c.if-accepts.false (begins refl)) }
