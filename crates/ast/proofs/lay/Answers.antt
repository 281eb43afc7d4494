-- `ast::lay` meets its contract.
use mathlib.Core.Path.{◌≡◌, refl, sym, ◌∙◌}
use Prim.Native.Nat.{◌<◌}
use native.Mathlib.Omega.{arith}
use borrow.Author.Tests.{ltb-true, ltb-false}
use lib.ListN.{length, get_or}
use Rattle.std.proofs.lemmas.List.{get_or_past, get_or_read_under}
use Rattle.ast.proofs.LaidLaws.{lay_step, lay_done, lay_all}
use Rattle.ast.proofs.lay.Goals as goal
use Rattle.ast.proofs.lay.Goals.{in-Some, in-None}

pub loop-i-init : goal.loop-i-init
loop-i-init g c = lay_all _ _ _

pub loop-i-preserved : goal.loop-i-preserved
loop-i-preserved g c =
    let l = c.loop-i in
    let z = c.args.rest in
    let vs = c.args.values.now in
    let n : c.match-get.slot ≡ get_or vs l.i z = elim c.match-get.branch [ in-Some w ↦ w.slot-is ∙ get_or_read_under vs l.i (length vs) _ z w.in-Some.ensures.lookup.1 (ltb-true l.i (length vs) (sym w.in-Some.ensures.lookup.0)) refl | in-None w ↦ w.slot-is ∙ sym (get_or_past vs l.i z (ltb-false l.i (length vs) (sym w.in-None.ensures.lookup.0))) ] in
    let h : l.i < length l.list = omega (arith, c.loop-i-test.true, l.auto.list) in
    rw n (lay_step z l.i vs l.list h) ∙ l.invariant

pub returns : goal.returns
returns g c = sym (lay_done _ _ _ _ (omega (arith, c.loop-i-test.false, c.loop-i.auto.list))) ∙ c.loop-i.invariant
