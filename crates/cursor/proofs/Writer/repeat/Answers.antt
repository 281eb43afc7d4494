-- `Writer::repeat` meets its contract. The invariant: the turns left, from here, make what all of them make.
use mathlib.Core.Path.{refl}
use Rattle.cursor.specs.Writes.{source}
use Rattle.cursor.proofs.Chain.{counted, turn, over, so, kept, ends, when, unless, tested}
use Rattle.cursor.proofs.Writer.repeat.Goals as goal

pub loop-init : goal.loop-init
loop-init g c = λ b k m r f h. counted (m (source c.args.self.now)) _ _ refl refl

pub returns-then-not-test : goal.returns-then-not-test
returns-then-not-test g c =
    λ b k m r f h. let x = source c.args.self.now in
    let v = c.loop.invariant b k m r f h in
    ends
    (unless _ _ _ _ (tested v b (f _ _ v.same c.test.ensures)) c.if-not-test.true (so _ ((r x).more _ _ _) (turn (m x) _ _ c.loop-test.true v)))

pub loop-preserved : goal.loop-preserved
loop-preserved g c =
    λ b k m r f h. let x = source c.args.self.now in
    let v = c.loop.invariant b k m r f h in
    kept (h _ _ c.step.ensures) _
    (when _ _ _ _ (tested v b (f _ _ v.same c.test.ensures)) c.if-not-test.false (so _ ((r x).more _ _ _) (turn (m x) _ _ c.loop-test.true v)))

pub returns : goal.returns
returns g c = λ b k m r f h. let x = source c.args.self.now in ends (so _ ((r x).none _ _) (over (m x) _ _ c.loop-test.false (c.loop.invariant b k m r f h)))
