-- `link::hirvelan_enum_numbers` meets its contract.
use mathlib.Core.List.{[], ◌∷◌}
use Rattle.std.proofs.Common.{rules}
use Rattle.link.proofs.Answers.{told_said, enum_answer}
use Rattle.link.proofs.hirvelan_enum_numbers.Goals as goal

pub returns : goal.returns
returns c = let d = c.numbers-numbered in enum_answer d.result _ _ _ _ d.ensures _ _ _ (told_said (λ x. x ∷ []) (λ x ns k. search rules) d.result c.map.result c.map.ensures.cases) c.tell.ensures
