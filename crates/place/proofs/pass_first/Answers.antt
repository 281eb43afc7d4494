-- `place::pass_first` meets its contract.
use mathlib.Core.Path.{◌≡◌, sym, ap, ◌∙◌}
use mathlib.Core.Bool.{false}
use Prim.Native.Nat.{◌≤◌}
use native.Mathlib.Omega.{arith}
use lib.ListN.{length, take, drop}
use lib.Seq.{length-take-le}
use Rattle.token.specs.Code.{code, is}
use Rattle.token.specs.declared.Token.TheVariants as T
use Rattle.lexer.proofs.PlaceLaws.{not_code, pass_behind}
use Rattle.place.specs.Place.{step}
use Rattle.token.proofs.Codes.{same_code}
use Rattle.place.proofs.WalkLaws.{step_length, step_line}
use Rattle.place.proofs.pass_first.Goals as goal
use Rattle.place.proofs.pass_first.Goals.{In_default}

module _ (c : In_default) where
  -- how many bytes are passed
  some_passed : c.first-token.result.1 ≤ c.args.most
  some_passed = rw c.first-token.ensures.1 (step_length _ _ c.requires.0 c.requires.1).1

  long : length (take c.first-token.result.1 c.args.text.now) ≡ c.first-token.result.1
  long = length-take-le _ _ (omega (arith, some_passed, c.requires.1))

  no_line : is c.first-token.result.0 T.Newline ≡ false
  unfolding code
  no_line = not_code c.first-token.result.0 T.Newline (λ e. c.in_default.not-Newline (same_code _ _ e))

pub returns-in-Newline : goal.returns-in-Newline
unfolding code
returns-in-Newline c =
    let k = ap code (sym c.first-token.ensures.0 ∙ c.in-Newline.is) in
    c.behind.ensures ∙ rw c.ends_line.ensures (sym (step_line c.args.text.now c.args.most c.args.from c.requires.0 (omega (arith, c.requires.0, c.requires.1)) k))

pub slice_bounds-pass_lexeme-end : goal.slice_bounds-pass_lexeme-end
slice_bounds-pass_lexeme-end c = sym (long (goal.at.slice_bounds-pass_lexeme-end c).In_default)

pub pass_lexeme-requires : goal.pass_lexeme-requires
pass_lexeme-requires c =
    let e = (goal.at.pass_lexeme-requires c).In_default in
    (c.requires.2, omega (arith, long e, some_passed e, c.requires.3), no_line e)

pub returns : goal.returns
unfolding step
returns c =
    let t = c.args.text.now in
    let f = c.first-token.ensures in
    c.pass_lexeme.ensures ∙ pass_behind _ _ _ (drop c.first-token.result.1 t) c.args.from (no_line (goal.at.returns c).In_default) ∙ rw (f.0, f.1)
