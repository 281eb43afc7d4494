-- `steps::state::Parser::own` meets its contract.
use Rattle.steps.specs.Into.{done, own_in, owns, owners}
use Rattle.steps.proofs.Chain.{Left}
use Prim.Native.Nat.{◌+◌, ◌-◌, ◌≤◌}
use Rattle.steps.proofs.state.Parser.own.Given as goal

-- The invariant: what is still to be owned here leads where all that was to be owned leads.
abbrev pub invariant-loop-i : goal.invariant-loop-i
invariant-loop-i l =
    let s = l.fn.self in
    let t = l.self in
    (l.i ≤ l.i-end) × Left (own_in l.owner s.state s.nodes.now s.comments.now) s (done (owns t.state) t.nodes.now (owners (l.first + l.i) (l.i-end - l.i) l.owner t.comments.now)) t
