-- `write_fields::write_each` meets its contract.
use mathlib.Core.Path.{refl}
use mathlib.Core.Bool.{true}
use Rattle.ast.specs.Records.{node_width, room}
use Rattle.cursor.specs.Writes.{source}
use Rattle.cursor.proofs.Chain.{counted, turn, over, so, kept, ends, when, unless, tested}
use Rattle.write_fields.proofs.write_each.Goals as goal

pub loop-init : goal.loop-init
unfolding room node_width
loop-init g c = λ b k m r f h. counted (m (source c.args.w.now) true) _ _ refl refl

pub returns-then-not-test : goal.returns-then-not-test
unfolding room node_width
returns-then-not-test g c =
    λ b k m r f h. let x = source c.args.w.now in
    let v = c.loop.invariant b k m r f h in
    ends
    (unless _ _ _ _ (tested v b (f _ _ v.same c.test.ensures)) c.if-not-test.true (so _ ((r x).more _ _ _ _) (turn (m x _) _ _ c.loop-test.true v)))

pub loop-preserved : goal.loop-preserved
unfolding room node_width
loop-preserved g c =
    λ b k m r f h. let x = source c.args.w.now in
    let v = c.loop.invariant b k m r f h in
    kept (h _ _ c.write.ensures) _
    (kept c.put_comma.ensures _
    (when _ _ _ _ (tested v b (f _ _ v.same c.test.ensures)) c.if-not-test.false (so _ ((r x).more _ _ _ _) (turn (m x _) _ _ c.loop-test.true v))))

pub returns : goal.returns
unfolding room node_width
returns g c = λ b k m r f h. let x = source c.args.w.now in ends (so _ ((r x).none _ _ _) (over (m x _) _ _ c.loop-test.false (c.loop.invariant b k m r f h)))
