-- `steps::state::Parser::skip_trivia` meets its contract.
use mathlib.Core.Bool.{true}
use Rattle.steps.specs.Into.{skip_comments_in, bytes_left}
use Rattle.steps.proofs.Chain.{Left}
use Rattle.steps.proofs.state.Parser.skip_trivia.Given as goal

-- The invariant: from here the loop does what it does from the start. The measure is the bytes left.
abbrev pub invariant-loop-self : goal.invariant-loop-self
invariant-loop-self l =
    let s = l.fn.self in
    let t = l.self in
    Left (skip_comments_in s.text.now true s.state s.nodes.now s.comments.now) s (skip_comments_in s.text.now true t.state t.nodes.now t.comments.now) t

abbrev pub decreases-loop-self : goal.decreases-loop-self
decreases-loop-self l = bytes_left l.self.text.now l.self.state
