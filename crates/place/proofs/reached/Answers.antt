-- `place::reached` meets its contract. The invariant: the way left from here leads where the whole way leads.
use mathlib.Core.Path.{◌≡◌, sym, ap, ◌∙◌, subst}
use Prim.Native.Nat.{ℕ, ◌≤◌, ◌<◌, ◌-◌, ◌+◌}
use native.Mathlib.Omega.{arith}
use mathlib.Core.List.{List}
use lib.ListN.{length, take, drop, length-drop}
use lib.Seq.{drop-drop, length-take-le}
use Rattle.token.specs.Scan.{scan}
use Rattle.token.specs.declared.Token.TheVariants as T
use Rattle.lexer.specs.declared.location.Lexer.{Lexer}
use Rattle.lexer.specs.Location.{Placed, opening, span_of}
use Rattle.lexer.proofs.PlaceLaws.{opening_placed, pass_placed}
use Rattle.scan.proofs.Part.{part}
use Rattle.std.specs.Prelude.{min}
use Rattle.place.specs.Place.{length_of, walk, step}
use Rattle.place.proofs.WalkLaws.{step_length, step_at, walk_step, walk_none}
use Rattle.place.proofs.reached.Goals as goal

start : (t : List ℕ) (m : ℕ) → walk t T.Blank 0 m opening ≡ walk (drop 0 t) T.Blank 0 (m - 0) opening
start t m = let e : m - 0 ≡ m = omega arith in rw e

-- a step on the way
module _ (t : List ℕ) (m : ℕ) (s : Lexer) (h : s.at < m) (g : m ≤ length t) where
  abbrev rest : ℕ
  rest = m - s.at

  abbrev ahead : List ℕ
  ahead = drop s.at t

  abbrev n : ℕ
  n = min (length_of (scan ahead)) rest

  fits : rest ≤ length ahead
  fits = omega (arith, length-drop s.at t, g)

  long : (0 < n) × (n ≤ rest)
  long = step_length ahead rest (omega (arith, h)) fits

  at-is : (step ahead rest s).at ≡ s.at + n
  at-is = step_at ahead rest s (omega (arith, h)) fits

  further : (s.at < (step ahead rest s).at) × ((step ahead rest s).at ≤ m)
  further = (omega (arith, at-is, long.0), omega (arith, at-is, long.1, h))

  placed : Placed s → m ≤ 65536 → Placed (step ahead rest s)
  unfolding step
  placed p l = pass_placed _ _ _ s p (omega (arith, length-take-le n ahead (omega (arith, long.1, fits)), long.1, h, l))

  leads : walk ahead T.Blank 0 rest s ≡ walk (drop (step ahead rest s).at t) T.Blank 0 (m - (step ahead rest s).at) (step ahead rest s)
  leads =
      let a : rest - n ≡ m - (step ahead rest s).at = omega (arith, at-is, long.1) in
      walk_step ahead rest s (omega (arith, h)) fits
      ∙ ap (λ (x : List ℕ). walk x T.Blank 0 (rest - n) (step ahead rest s)) (drop-drop n s.at t ∙ ap (λ (x : ℕ). drop x t) (sym at-is))
      ∙ ap (λ (x : ℕ). walk (drop (step ahead rest s).at t) T.Blank 0 x (step ahead rest s)) a

  -- the same of what the code answers, which is given the part of the text from the lexer on
  module _ (r : Lexer) (e : r ≡ step (take (length t - s.at) ahead) rest s) where
    is : r ≡ step ahead rest s
    is = e ∙ ap (λ (x : List ℕ). step x rest s) (part t s.at)

    goes_further : (s.at < r.at) × (r.at ≤ m)
    goes_further = subst (λ (x : Lexer). (s.at < x.at) × (x.at ≤ m)) (sym is) further

    goes_on : Placed s → m ≤ 65536 → Placed r × (r.at ≤ m) × (walk ahead T.Blank 0 rest s ≡ walk (drop r.at t) T.Blank 0 (m - r.at) r)
    goes_on p l = subst (λ (x : Lexer). Placed x × (x.at ≤ m) × (walk ahead T.Blank 0 rest s ≡ walk (drop x.at t) T.Blank 0 (m - x.at) x)) (sym is) (placed p l, further.1, leads)

pub loop-from-init : goal.loop-from-init
unfolding opening
loop-from-init c = rw c.new-from.ensures (opening_placed, omega arith, start _ _)

pub pass_first-from-requires : goal.pass_first-from-requires
pass_first-from-requires c =
    let at = c.loop-from.from.at in
    (omega (arith, c.if-place-at.false), rw (part c.args.text.now at) (omega (arith, length-drop at c.args.text.now, c.requires.0)), c.loop-from.invariant.0, omega (arith, c.loop-from.invariant.1, c.requires.1))

pub returns-then-place-at : goal.returns-then-place-at
returns-then-place-at c =
    let s = c.loop-from.from in
    let z : c.args.place - s.at ≡ 0 = omega (arith, c.if-place-at.true) in
    c.span.ensures ∙ ap span_of (sym (c.loop-from.invariant.2 ∙ rw z (walk_none _ _ _ s)))

pub loop-from-smaller : goal.loop-from-smaller
loop-from-smaller c =
    let f = goes_further c.args.text.now c.args.place c.loop-from.from c.if-place-at.false c.requires.0 c.pass_first-from.result c.pass_first-from.ensures in
    omega (arith, f.0, c.if-place-at.false)

pub loop-from-preserved : goal.loop-from-preserved
loop-from-preserved c =
    let i = c.loop-from.invariant in
    let f = goes_on c.args.text.now c.args.place c.loop-from.from c.if-place-at.false c.requires.0 c.pass_first-from.result c.pass_first-from.ensures i.0 c.requires.1 in
    (f.0, f.1, i.2 ∙ f.2)
