-- `lexer::next_token` meets its contract. The invariant: what is next from here is what was next at the start.
use mathlib.Core.Path.{◌≡◌, refl, sym, ap, ◌∙◌}
use mathlib.Core.Bool.{false}
use Prim.Native.Nat.{◌≤◌, ◌<◌, ◌+◌}
use native.Mathlib.Omega.{arith}
use borrow.Author.Rules.{rules}
use lib.ListN.{length, take, drop, length-drop}
use lib.Seq.{length-take-le}
use Rattle.token.specs.Scan.{scan}
use Rattle.std.specs.Prelude.{Some}
use Rattle.token.specs.Code.{is}
use Rattle.token.specs.declared.Token.TheVariants as T
use Rattle.lexer.specs.Location.{Placed, pass}
use Rattle.lexer.proofs.CutLaws.{slice, hit_fits, pass_at, next_end, next_miss, next_hit}
use Rattle.lexer.proofs.ByteLaws.{next_blank, next_line, next_mark, token_no_line}
use Rattle.lexer.proofs.PlaceLaws.{behind_at, placed_behind, pass_placed, pass_behind}
use Rattle.lexer.proofs.next_token.Goals as goal
use Rattle.lexer.proofs.next_token.Goals.{After-pass_lexeme-behind, In-Some}

-- the token that was found
hit : (c : In-Some)
    → scan (drop c.loop-from.from.at c.args.text.now)
    ≡ Some (c.in-Some.token, c.in-Some.n)
hit c =
    let t = c.args.text.now in
    sym c.scan_token-found.ensures ∙ c.in-Some.is

fits : (c : In-Some) → (0 < c.in-Some.n)
    × (c.loop-from.from.at + c.in-Some.n
    ≤ length c.args.text.now)
fits c =
    let t = c.args.text.now in
    let h = hit_fits (drop c.loop-from.from.at t) _ _ (hit c) in
    (h.0, omega (arith, h.1, length-drop c.loop-from.from.at t, c.if-text-at.false))

-- it is no line end, by its class
no_line : (c : In-Some) → is c.in-Some.token T.Newline ≡ false
no_line c =
    let t = c.args.text.now in
    let k = c.class_at-k.ensures in
    token_no_line t c.loop-from.from.at (λ j. omega (arith, c.type_inv.text j)) _ k
    (sym c.is_line_end.ensures ∙ c.if-is_line_end.false) _ _ (hit c)

-- where the lexer stands behind it, given what is known of the token
module _ (c : After-pass_lexeme-behind)
    (found : scan (drop c.loop-from.from.at c.args.text.now) ≡ Some (c.in-Some.token, c.in-Some.n))
    (inside : c.loop-from.from.at + c.in-Some.n ≤ length c.args.text.now)
    (plain : is c.in-Some.token T.Newline ≡ false) where
  passed : c.pass_lexeme-behind.result
      ≡ pass (take c.in-Some.n (drop c.loop-from.from.at c.args.text.now))
      c.in-Some.token
      (drop c.in-Some.n (drop c.loop-from.from.at c.args.text.now))
      c.loop-from.from
  passed =
      rw (slice c.args.text.now c.loop-from.from.at c.in-Some.n) at c.pass_lexeme-behind.ensures ∙ pass_behind _ _ _ _ c.loop-from.from plain

  length-of : length (take c.in-Some.n (drop c.loop-from.from.at c.args.text.now))
      ≡ c.in-Some.n
  length-of =
      length-take-le _ (drop c.loop-from.from.at c.args.text.now) (hit_fits (drop c.loop-from.from.at c.args.text.now) _ _ found).1

  placed : Placed c.pass_lexeme-behind.result
  placed =
      rw passed (pass_placed _ _ _ c.loop-from.from c.loop-from.invariant.0 (omega (arith, length-of, inside, c.requires.0)))

  moved : c.pass_lexeme-behind.result.at ≡ c.loop-from.from.at + c.in-Some.n
  moved =
      ap (λ x. x.at) passed ∙ pass_at _ _ _ c.loop-from.from ∙ omega (arith, length-of)

pub loop-from-init : goal.loop-from-init
loop-from-init c = (c.requires.1, refl)

pub returns-then-text-at : goal.returns-then-text-at
returns-then-text-at c =
    sym (c.loop-from.invariant.1 ∙ next_end _ c.loop-from.from c.if-text-at.true)

pub class_at-k-requires : goal.class_at-k-requires
class_at-k-requires c = (omega (arith, c.if-text-at.false))

pub behind-from-requires : goal.behind-from-requires
behind-from-requires c = (c.loop-from.invariant.0, omega (arith, c.if-text-at.false, c.requires.0))

pub loop-from-smaller-then-k-ge-MARK : goal.loop-from-smaller-then-k-ge-MARK
loop-from-smaller-then-k-ge-MARK c = omega (arith, ap (λ x. x.at) c.behind-from.ensures ∙ behind_at false c.loop-from.from, c.if-text-at.false)

pub loop-from-preserved-then-k-ge-MARK : goal.loop-from-preserved-then-k-ge-MARK
loop-from-preserved-then-k-ge-MARK c = (
  rw c.behind-from.ensures (placed_behind false c.loop-from.from c.loop-from.invariant.0 (omega (arith, c.if-text-at.false, c.requires.0))),
  rw c.behind-from.ensures (c.loop-from.invariant.1 ∙ next_blank _ c.loop-from.from (λ j. omega (arith, c.type_inv.text j)) c.if-text-at.false (sym c.class_at-k.ensures ∙ c.if-k-ne-BLANK.false)),
)

pub behind-from-requires-then-is_line_end : goal.behind-from-requires-then-is_line_end
behind-from-requires-then-is_line_end c = (c.loop-from.invariant.0, omega (arith, c.if-text-at.false, c.requires.0))

pub loop-from-smaller-then-is_line_end : goal.loop-from-smaller-then-is_line_end
loop-from-smaller-then-is_line_end c = omega (arith, ap (λ x. x.at) c.behind-from-then-is_line_end.ensures ∙ behind_at _ c.loop-from.from, c.if-text-at.false)

pub loop-from-preserved-then-is_line_end : goal.loop-from-preserved-then-is_line_end
loop-from-preserved-then-is_line_end c =
    let inside = c.if-text-at.false in (
      rw c.behind-from-then-is_line_end.ensures (placed_behind _ c.loop-from.from c.loop-from.invariant.0 (omega (arith, inside, c.requires.0))),
      rw (c.behind-from-then-is_line_end.ensures, c.ends_line.ensures) (c.loop-from.invariant.1 ∙ next_line _ c.loop-from.from (λ j. omega (arith, c.type_inv.text j)) inside _ c.class_at-k.ensures (sym c.is_line_end.ensures ∙ c.if-is_line_end.true)),
    )

pub mark-requires : goal.mark-requires
mark-requires c = (c.loop-from.invariant.0, omega (arith, c.if-text-at.false, c.requires.0))

pub returns-then-k-ne-BLANK : goal.returns-then-k-ne-BLANK
returns-then-k-ne-BLANK c =
    c.mark.ensures
    ∙ sym (c.loop-from.invariant.1 ∙ next_mark _ c.loop-from.from c.if-text-at.false (λ j. omega (arith, c.type_inv.text j)) _ c.class_at-k.ensures c.if-k-ge-MARK.true c.if-k-ne-BLANK.true)

pub scan_token-found-requires : goal.scan_token-found-requires
scan_token-found-requires c = (omega (arith, c.if-text-at.false))

pub returns-in_default : goal.returns-in_default
returns-in_default c =
    let t = c.args.text.now in
    let e : scan (drop c.loop-from.from.at t) ≡ _ = sym c.scan_token-found.ensures ∙ c.in_default.is in
    sym (c.loop-from.invariant.1 ∙ next_miss t c.loop-from.from c.if-text-at.false e)

pub overflow_add-end : goal.overflow_add-end
overflow_add-end c = omega (arith, (fits c).1)

pub slice_bounds-pass_lexeme-count : goal.slice_bounds-pass_lexeme-count
slice_bounds-pass_lexeme-count c = omega arith

pub slice_bounds-pass_lexeme-start : goal.slice_bounds-pass_lexeme-start
slice_bounds-pass_lexeme-start c = search rules

pub slice_bounds-pass_lexeme-end : goal.slice_bounds-pass_lexeme-end
slice_bounds-pass_lexeme-end c = let h = (fits c).1 in search rules

pub pass_lexeme-behind-requires : goal.pass_lexeme-behind-requires
pass_lexeme-behind-requires c =
    let t = c.args.text.now in
    let n = length-take-le _ (drop c.loop-from.from.at t) (hit_fits (drop c.loop-from.from.at t) _ _ (hit (goal.at.pass_lexeme-behind-requires c).In-Some)).1 in
    (c.loop-from.invariant.0, rw (slice t c.loop-from.from.at c.in-Some.n) (omega (arith, n, (fits (goal.at.pass_lexeme-behind-requires c).In-Some).1, c.requires.0)), no_line (goal.at.pass_lexeme-behind-requires c).In-Some)

pub loop-from-smaller : goal.loop-from-smaller
loop-from-smaller c = omega (arith, moved (goal.at.loop-from-smaller c).After-pass_lexeme-behind (hit (goal.at.loop-from-smaller c).In-Some) (fits (goal.at.loop-from-smaller c).In-Some).1 (no_line (goal.at.loop-from-smaller c).In-Some), (fits (goal.at.loop-from-smaller c).In-Some).0, (fits (goal.at.loop-from-smaller c).In-Some).1)

pub loop-from-preserved : goal.loop-from-preserved
loop-from-preserved c =
    (placed (goal.at.loop-from-preserved c).After-pass_lexeme-behind (hit (goal.at.loop-from-preserved c).In-Some) (fits (goal.at.loop-from-preserved c).In-Some).1 (no_line (goal.at.loop-from-preserved c).In-Some), c.loop-from.invariant.1 ∙ rw (← c.skipped.ensures, c.if-skipped.true) at (next_hit _ c.loop-from.from _ _ (hit (goal.at.loop-from-preserved c).In-Some) c.pass_lexeme-behind.result (passed (goal.at.loop-from-preserved c).After-pass_lexeme-behind (hit (goal.at.loop-from-preserved c).In-Some) (fits (goal.at.loop-from-preserved c).In-Some).1 (no_line (goal.at.loop-from-preserved c).In-Some))))

pub until-loc-requires : goal.until-loc-requires
until-loc-requires c =
    (c.loop-from.invariant.0, placed (goal.at.until-loc-requires c).After-pass_lexeme-behind (hit (goal.at.until-loc-requires c).In-Some) (fits (goal.at.until-loc-requires c).In-Some).1 (no_line (goal.at.until-loc-requires c).In-Some))

pub returns-else-skipped : goal.returns-else-skipped
returns-else-skipped c =
    rw c.until-loc.ensures
    (sym (c.loop-from.invariant.1 ∙ rw (← c.skipped.ensures, c.if-skipped.false) at (next_hit _ c.loop-from.from _ _ (hit (goal.at.returns-else-skipped c).In-Some) c.pass_lexeme-behind.result (passed (goal.at.returns-else-skipped c).After-pass_lexeme-behind (hit (goal.at.returns-else-skipped c).In-Some) (fits (goal.at.returns-else-skipped c).In-Some).1 (no_line (goal.at.returns-else-skipped c).In-Some)))))
