-- `steps::state::Parser::wait` meets its contract.
use mathlib.Core.Path.{◌≡◌, refl}
use mathlib.Core.Bool.{cond}
use Rattle.ast.specs.KindNumber.{number_of}
use Rattle.token.specs.Code.{code}
use Rattle.steps.specs.Into.{wait_in, waits, put_waiting}
use Rattle.steps.proofs.Chain.{does}
use Rattle.steps.proofs.state.Parser.wait.Goals.{then-is, else-is}
use Rattle.steps.proofs.state.Parser.wait.Goals as goal

pub returns : goal.returns
unfolding wait_in waits put_waiting code
returns c =
    let k : number_of c.if-is.kind ≡ cond c.is.result 32 33 =
    elim c.if-is.branch [ then-is w ↦ rw (w.kind-is, w.if-is.true) | else-is w ↦ rw (w.kind-is, w.if-is.false) ] in
    does (rw (c.bump-self.ensures, c.put_comment.ensures, c.from.ensures, k, c.is.ensures)) refl refl refl
