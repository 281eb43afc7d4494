-- `replay::is_pair` meets its contract.
use mathlib.Core.Logic.{⊎_elim}
use Rattle.std.proofs.Common.{◌∙◌, arith}
use Rattle.replay.proofs.Pairs.{pair_past, pair_front}
use Rattle.replay.proofs.is_pair.Goals as goal

pub returns-in_default : goal.returns-in_default
returns-in_default c = ⊎_elim (λ m. pair_past _ _ (omega (arith, m))) (λ m. absurd (omega (arith, m))) c.in_default.ensures.lookup.0

pub returns : goal.returns
returns c =
    let a = c.args in
    c.starts_with.ensures.value ∙ rw c.in-Some.ensures.lookup.0.2 (pair_front a.text.now a.at)
