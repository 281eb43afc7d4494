-- `replay::zero_from` meets its contract.
use Rattle.std.proofs.Common.{ℕ, eqb, rules, tests}
use Rattle.std.proofs.lemmas.Iterator.{YieldsList-from_slice}
use Rattle.std.proofs.lemmas.Iterator.Adapters.{YieldsList-from_skip}
use Rattle.std.proofs.lemmas.Iterator.Search.{all_from_yields_List}
use Rattle.replay.proofs.Zeros.{zero_all}
use Rattle.replay.proofs.zero_from.Goals as goal

pub returns : goal.returns
returns c =
    let a = c.args in
    zero_all a.table.now a.start _
    (all_from_yields_List (λ (n : ℕ). eqb n 0) _ _ _ c.all.ensures.ran (YieldsList-from_skip a.start (YieldsList-from_slice a.table.now cc) c.skip.ensures.count) (λ x b q k. search (rules, tests)))
