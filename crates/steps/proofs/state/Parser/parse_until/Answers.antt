-- `steps::state::Parser::parse_until` meets its contract. The invariant: from here the loop does what it does from the start. The measure is the bytes left.
use mathlib.Core.Path.{refl}
use native.Mathlib.Omega.{arith}
use Rattle.steps.specs.Into.{closes_at, numbered}
use Rattle.steps.specs.Reads.{source}
use Rattle.steps.proofs.Chain.{begins, so, kept, on, off, last, when, unless}
use Rattle.steps.proofs.LoopForms.{loop_is}
use Rattle.steps.proofs.state.Parser.parse_until.Goals as goal

pub loop-closer-init : goal.loop-closer-init
loop-closer-init g c = λ b e m r f h i j. begins refl

pub returns-then-meets : goal.returns-then-meets
unfolding closes_at
returns-then-meets g c =
    λ b e m r f h i j. let x = source c.args.self.now in
    last (i _ _ _ c.end.ensures)
    (when _ _ _ _ c.meets.ensures c.if-meets.true
    (kept (h _ _ c.between.ensures) _ (so _ (loop_is x.text (closes_at (numbered c.args.closer)) (b x) (e x) (m x) (r x) (f x) _ _ _) (c.loop-closer.invariant b e m r f h i j))))

pub loop-closer-smaller : goal.loop-closer-smaller
loop-closer-smaller g c = omega (arith, c.requires.rests _ _ c.between.ensures, c.requires.falls _ _ _ c.in_ok-member.ensures refl)

pub loop-closer-preserved : goal.loop-closer-preserved
unfolding closes_at
loop-closer-preserved g c =
    λ b e m r f h i j. let x = source c.args.self.now in
    on (j _ _ _ c.in_ok-member.ensures) refl _
    (unless _ _ _ _ c.meets.ensures c.if-meets.false
    (kept (h _ _ c.between.ensures) _ (so _ (loop_is x.text (closes_at (numbered c.args.closer)) (b x) (e x) (m x) (r x) (f x) _ _ _) (c.loop-closer.invariant b e m r f h i j))))

pub returns-in_err-member : goal.returns-in_err-member
unfolding closes_at
returns-in_err-member g c =
    λ b e m r f h i j. let x = source c.args.self.now in
    off (j _ _ _ c.in_err-member.ensures) refl c.from_residual.ensures _
    (unless _ _ _ _ c.meets.ensures c.if-meets.false
    (kept (h _ _ c.between.ensures) _ (so _ (loop_is x.text (closes_at (numbered c.args.closer)) (b x) (e x) (m x) (r x) (f x) _ _ _) (c.loop-closer.invariant b e m r f h i j))))
