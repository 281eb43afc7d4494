-- `link::hirvelan_widen` meets its contract.
use mathlib.Core.List.{[], ◌∷◌}
use Rattle.std.proofs.Common.{rules}
use Rattle.link.proofs.Answers.{told_said, move_answer}
use Rattle.link.proofs.hirvelan_widen.Goals as goal

pub returns : goal.returns
returns c = let d = c.widen-moved in move_answer d.result _ _ d.ensures _ _ _ (told_said (λ x. x ∷ []) (λ x ns k. search rules) d.result c.map.result c.map.ensures.cases) c.tell.ensures
