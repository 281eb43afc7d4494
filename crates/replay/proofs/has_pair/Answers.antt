-- `replay::has_pair` meets its contract.
use Rattle.std.proofs.Common.{◌∙◌, length, arith, rules, tests}
use Rattle.std.proofs.lemmas.Iterator.{YieldsList-from_range}
use Rattle.std.proofs.lemmas.Iterator.Search.{any_from_yields_List}
use Rattle.replay.specs.Pair.{pair_at}
use Rattle.replay.proofs.Pairs.{any_pair}
use Rattle.replay.proofs.has_pair.Goals as goal

pub returns : goal.returns
returns c =
    let text = c.args.text.now in
    let e = any_from_yields_List (pair_at text) _ _ c.any.result c.any.ensures.ran (YieldsList-from_range 0 (length text) (length text) (cc) (omega arith)) (λ x b q k. search (rules, tests)) in
    e ∙ any_pair text (length text) 0 (omega arith)
