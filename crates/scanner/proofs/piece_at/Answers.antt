-- `scanner::piece_at` meets its contract. The invariant: what is first from here is what was first at the start.
use mathlib.Core.Path.{◌≡◌, sym, ◌∙◌}
use Prim.Native.Nat.{◌≤◌, ◌<◌, ◌+◌}
use native.Mathlib.Omega.{arith}
use lib.ListN.{length, drop, length-drop}
use Rattle.token.specs.Scan.{scan}
use Rattle.std.specs.Prelude.{Some}
use Rattle.lexer.proofs.CutLaws.{hit_fits}
use Rattle.scanner.proofs.PieceLaws.{piece_end, piece_miss, piece_hit}
use Rattle.scanner.proofs.piece_at.Goals as goal
use Rattle.scanner.proofs.piece_at.Goals.{In-Some}

-- the token that was found
hit : (c : In-Some)
    → scan (drop c.loop-from.from c.args.text.now)
    ≡ Some (c.in-Some.token, c.in-Some.n)
hit c =
    let t = c.args.text.now in
    sym c.scan_token-found.ensures ∙ c.in-Some.is

fits : (c : In-Some) → (0 < c.in-Some.n)
    × (c.loop-from.from + c.in-Some.n ≤ length c.args.text.now)
fits c =
    let t = c.args.text.now in
    let h = hit_fits (drop c.loop-from.from t) _ _ (hit c) in
    (h.0, omega (arith, h.1, length-drop c.loop-from.from t, c.loop-from-test.true))

pub scan_token-found-requires : goal.scan_token-found-requires
scan_token-found-requires c = (omega (arith, c.loop-from-test.true))

pub returns-in_default : goal.returns-in_default
returns-in_default c =
    let t = c.args.text.now in
    sym (c.loop-from.invariant ∙ piece_miss t c.loop-from.from c.loop-from-test.true (sym c.scan_token-found.ensures ∙ c.in_default.is))

pub overflow_add-end : goal.overflow_add-end
overflow_add-end c = omega (arith, (fits c).1)

pub loop-from-smaller : goal.loop-from-smaller
loop-from-smaller c = omega (arith, (fits (goal.at.loop-from-smaller c).In-Some).0, (fits (goal.at.loop-from-smaller c).In-Some).1)

pub loop-from-preserved : goal.loop-from-preserved
loop-from-preserved c =
    c.loop-from.invariant ∙ rw (← c.skipped.ensures, c.if-skipped.true) at (piece_hit _ c.loop-from.from _ _ (hit (goal.at.loop-from-preserved c).In-Some))

pub returns-else-skipped : goal.returns-else-skipped
returns-else-skipped c =
    sym (c.loop-from.invariant ∙ rw (← c.skipped.ensures, c.if-skipped.false) at (piece_hit _ c.loop-from.from _ _ (hit (goal.at.returns-else-skipped c).In-Some)))

pub returns : goal.returns
returns c = sym (c.loop-from.invariant ∙ piece_end _ c.loop-from.from c.loop-from-test.false)
