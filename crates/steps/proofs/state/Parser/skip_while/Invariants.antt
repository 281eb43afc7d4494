-- `steps::state::Parser::skip_while` meets its contract.
use Rattle.std.specs.Prelude.{◌≡◌, Bool}
use Rattle.steps.specs.Into.{code_of, passes, skip_in, bytes_left}
use Rattle.steps.proofs.Chain.{Left}
use Rattle.steps.proofs.state.Parser.skip_while.Given as goal

-- The invariant: from here the loop does what it does from the start. The measure is the bytes left.
abbrev pub invariant-loop-self : goal.invariant-loop-self
invariant-loop-self g l =
    (b : Bool) → ((s : _) (r : _) → goal.F-post g l.fn.is_passed s r → r ≡ passes (code_of s.now.state) b) →
    let s = l.fn.self in
    let t = l.self in
    Left (skip_in s.text.now b s.state s.nodes.now s.comments.now) s (skip_in s.text.now b t.state t.nodes.now t.comments.now) t

abbrev pub decreases-loop-self : goal.decreases-loop-self
decreases-loop-self g l = bytes_left l.self.text.now l.self.state
