-- `steps::state::Parser::parse_until` meets its contract. The invariant: from here the loop does what it does from the start. The measure is the bytes left.
use Rattle.steps.specs.Into.{M, Falls, Rests, closes_at, loop_in, numbered}
use Rattle.steps.specs.Reads.{Source, source, Does, Reads, left_of}
use Rattle.steps.proofs.Chain.{Left}
use Rattle.steps.proofs.state.Parser.parse_until.Given as goal

abbrev pub invariant-loop-closer : goal.invariant-loop-closer
invariant-loop-closer g l =
    (b e m : Source → M) → ((x : Source) → Rests x.text (b x)) → ((x : Source) → Falls x.text (m x))
    → ((s : _) (t : _) → goal.B-post g l.fn.between s tt t → Does b s.now t.now) → ((s : _) (r : _) (t : _) → goal.E-post g l.fn.end s r t → Reads e s.now t.now r)
    → ((s : _) (r : _) (t : _) → goal.F-post g l.fn.member s r t → Reads m s.now t.now r) →
    let s = l.fn.self in
    let t = l.self in
    let x = source s in
    Left (loop_in x.text (closes_at (numbered l.fn.closer)) (b x) (e x) (m x) s.state s.nodes.now s.comments.now) s
    (loop_in x.text (closes_at (numbered l.fn.closer)) (b x) (e x) (m x) t.state t.nodes.now t.comments.now) t

abbrev pub decreases-loop-closer : goal.decreases-loop-closer
decreases-loop-closer g l = left_of l.self
