-- `utf8::width_at` meets its contract: the first byte says which bytes have to follow, and they are looked at one after the other.
use mathlib.Core.Path.{◌≡◌, sym, ap, ◌∙◌}
use mathlib.Core.Bool.{Bool, true, false, cond, ◌&&◌}
use mathlib.Core.List.{List, ◌∷◌}
use Prim.Native.Nat.{ℕ, suc, ◌+◌}
use native.Mathlib.Numerals.{add-one}
use native.Mathlib.Omega.{arith}
use borrow.Author.Tests.{le-leb, lt-leb}
use lib.Dec.{leb}
use lib.ListN.{drop, replicate}
use lib.Seq.{drop-cons}
use Rattle.token.specs.Regex.{to}
use Rattle.utf8.specs.Utf8.{tail, sequences, begins, width}
use Rattle.std.specs.Bool.{then_some}
use Rattle.utf8.specs.Passed.{IsWidth}
use Rattle.utf8.proofs.Utf8Laws.{begins_end, begins_step, rest_part}
use Rattle.utf8.proofs.width_at.Goals as goal
use Rattle.utf8.proofs.width_at.Goals.{After-has_tails, In_ok-low, In_ok-second, then-second-low-via-then-second-low, then-second-low-via-else-second-low+then-high-second}

-- by the first byte
led : (c : In_ok-low)
    → let a = c.args in
    let l = c.in_ok-low.field-0 in
    width sequences (drop a.at a.text.now)
    ≡ cond (begins (to l.0 l.1 ∷ replicate l.2 tail) (drop (a.at + 1) a.text.now)) (l.2 + 2) 0
led c =
    let a = c.args in
    rw (drop-cons a.text.now a.at 0 c.requires.0, add-one) (c.in_ok-low.ensures.1 (drop (suc a.at) a.text.now))

-- by the second byte
seconded : (c : In_ok-second)
    → let a = c.args in
    let l = c.in_ok-low.field-0 in
    let b = c.in_ok-second.field-0.now in
    width sequences (drop a.at a.text.now) ≡ cond (begins (to l.0 l.1 ∷ replicate l.2 tail) (drop (a.at + 1) a.text.now)) (l.2 + 2) 0 →
    width sequences (drop a.at a.text.now)
    ≡ cond (leb l.0 b && leb b l.1 && begins (replicate l.2 tail) (drop (a.at + 2) a.text.now)) (l.2 + 2) 0
seconded c h =
    let g = c.in_ok-second.ensures.lookup.3 in
    let e : c.args.at + 1 + 1 ≡ c.args.at + 2 = omega arith in
    h ∙ rw (begins_step _ _ _ _ _ g.0, g.1 0, e)

-- by the tail bytes
tailed : (c : After-has_tails)
    → let a = c.args in
    let l = c.in_ok-low.field-0 in
    let b = c.in_ok-second.field-0.now in
    width sequences (drop a.at a.text.now)
    ≡ cond (leb l.0 b && leb b l.1 && begins (replicate l.2 tail) (drop (a.at + 2) a.text.now)) (l.2 + 2) 0 →
    width sequences (drop a.at a.text.now) ≡ cond c.has_tails.result (l.2 + 2) 0
tailed c h = rw (le-leb _ _ c.if-second-low.false, le-leb _ _ c.if-high-second.false) at h ∙ ap (λ (b : Bool). cond b (c.in_ok-low.field-0.2 + 2) 0) (sym (c.has_tails.ensures ∙ rw rest_part))

-- by the test of these
answered : (w : List ℕ) (b : Bool) (n : ℕ) → width sequences w ≡ cond b (n + 2) 0 → IsWidth w (then_some b (n + 2))
answered w true n e = (omega arith, e)
answered w false n e = e

pub returns-in_err-second : goal.returns-in_err-second
returns-in_err-second c =
    rw c.from_residual-in_err-second.ensures (rw (begins_end _ _ _ _ _ c.in_err-second.ensures.lookup.3) at (led (goal.at.returns-in_err-second c).In_ok-low))

pub returns-then-second-low : goal.returns-then-second-low
returns-then-second-low c =
    let h = seconded (goal.at.returns-then-second-low c).In_ok-second (led (goal.at.returns-then-second-low c).In_ok-low) in
    elim c.then-second-low.branch [
      | then-second-low-via-then-second-low w ↦ rw (lt-leb _ _ w.if-second-low.true) at h
      | then-second-low-via-else-second-low+then-high-second w ↦ rw (le-leb _ _ w.if-second-low.false, lt-leb _ _ w.if-high-second.true) at h
    ]

pub returns : goal.returns
returns c =
    rw c.then_some.ensures (answered _ _ _ (tailed (goal.at.returns c).After-has_tails (seconded (goal.at.returns c).In_ok-second (led (goal.at.returns c).In_ok-low))))
