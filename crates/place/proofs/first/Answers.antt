-- `place::first` meets its contract.
use mathlib.Core.Path.{ap, ◌∙◌}
use Prim.Native.Nat.{ℕ, min}
use Rattle.std.specs.Option.{unwrap_or}
use Rattle.token.specs.Scan.{scan}
use Rattle.token.specs.Scanned.{Scan}
use Rattle.token.specs.declared.Token.TheVariants as T
use Rattle.place.proofs.WalkLaws.{first_or}
use Rattle.place.proofs.first.Goals as goal

pub returns : goal.returns
returns c =
    let u = c.unwrap_or-token.ensures ∙ ap (λ (r : Scan). unwrap_or r (T.Blank, 1)) c.scan_token.ensures in
    let f = first_or (scan c.args.text.now) in
    (ap (λ p. p.0) u ∙ f.0, c.min.ensures ∙ ap (λ (n : ℕ). min n c.args.most) (ap (λ p. p.1) u ∙ f.1))
