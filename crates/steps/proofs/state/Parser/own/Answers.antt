-- `steps::state::Parser::own` meets its contract.
use mathlib.Core.Path.{sym, ap, ◌∙◌}
use native.Mathlib.Omega.{arith}
use mathlib.Core.List.{List}
use Prim.Native.Nat.{ℕ}
use Rattle.steps.specs.Into.{done, own_in, owns}
use Rattle.steps.proofs.Chain.{begins, does}
use Rattle.steps.proofs.Turns.{own_start, own_step, own_done}
use Rattle.steps.proofs.state.Parser.own.Goals as goal

pub loop-i-init : goal.loop-i-init
unfolding own_in
loop-i-init c =
    let p = c.args.self.now in
    (omega arith, begins (ap (λ (u : List ℕ). done (owns p.state) p.nodes.now u) (own_start _ _ _ _)))

pub loop-i-preserved : goal.loop-i-preserved
loop-i-preserved c =
    let l = c.loop-i in
    let v = l.invariant.1 in (
      omega (arith, c.loop-i-test.true),
      record {
        goes = v.goes ∙ ap (λ (u : List ℕ). done (owns l.self.state) l.self.nodes.now u) (own_step _ _ _ _ _ _ c.loop-i-test.true c.put_owner.ensures);
        same = v.same;
        lent = v.lent;
        wide = v.wide;
      },
    )

pub returns : goal.returns
unfolding owns
returns c =
    let v = c.loop-i.invariant.1 in
    let t = c.loop-i.self in
    does (ap (λ (n : ℕ). done (record { loc = t.state.loc; last = t.state.last; next = t.state.next; owned = n; waiting = 0; token = t.state.token }) t.nodes.now t.comments.now) c.sum-self.ensures ∙ ap (λ (u : List ℕ). done (owns t.state) t.nodes.now u) (sym (own_done _ _ _ _ _ c.loop-i-test.false)) ∙ sym v.goes) v.same v.lent v.wide
