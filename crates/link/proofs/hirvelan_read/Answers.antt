-- `link::hirvelan_read` meets its contract.
use mathlib.Core.List.{[], ◌∷◌}
use Rattle.std.proofs.Common.{rules}
use Rattle.parser.specs.declared.Counts.{Counts}
use Rattle.link.proofs.Answers.{told_said, read_answer}
use Rattle.link.proofs.hirvelan_read.Goals as goal

pub returns : goal.returns
returns c = let d = c.read-read in read_answer d.result _ _ _ d.ensures _ _ _ (told_said (λ (x : Counts). x.nodes ∷ x.comments ∷ []) (λ x ns k. search rules) d.result c.map.result c.map.ensures.cases) c.tell.ensures
