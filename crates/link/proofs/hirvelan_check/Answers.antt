-- `link::hirvelan_check` meets its contract.
use mathlib.Core.List.{[]}
use Rattle.std.proofs.Common.{rules}
use Rattle.link.proofs.Answers.{told_said, check_answer}
use Rattle.link.proofs.hirvelan_check.Goals as goal

pub returns : goal.returns
returns c = let d = c.check-checked in check_answer _ d.result d.ensures _ _ _ (told_said (λ _. []) (λ x ns k. search rules) d.result c.map.result c.map.ensures.cases) c.tell.ensures
