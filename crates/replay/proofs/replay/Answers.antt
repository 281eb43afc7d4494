-- `replay::replay` meets its contract.
use mathlib.Core.Path.{◌≡◌, refl, subst}
use mathlib.Core.List.{[], ◌∷◌, ◌++◌}
use Rattle.std.proofs.Common.{ℕ, arith, length, take}
use Rattle.std.proofs.lemmas.Fn.{FoldsTo-push}
use Rattle.replay.specs.List.{ReadsPart}
use Rattle.replay.proofs.replay.Goals as goal

pub loop-index-preserved : goal.loop-index-preserved
loop-index-preserved g c =
    let before = c.loop-index.invariant in
    let text = take c.in_ok-length.length c.read_part.new.space in
    let room : length c.read_part.new.space ≡ 66560 = omega arith in
    let part = subst (λ (n : ℕ). ReadsPart n text (g.R.Read.remaining c.loop-index.input) (g.R.Read.remaining c.read_part.new.input)) room c.in_ok-length.ensures.part in
    (before.0, before.1 ++ (text ∷ []), before.2, FoldsTo-push _ _ _ _ text _ before.3 (refl, (_, _, _, part, refl, c.in_ok-now.ensures, refl)))
