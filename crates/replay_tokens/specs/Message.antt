-- What is written of a list that is not the texts that it counts.
use Rattle.std.specs.Prelude.{ℕ, List, codes}
use Rattle.replay_tokens.specs.declared.ListError.{ListError}
use Rattle.replay_tokens.specs.declared.ListError.TheVariants.{Short, Long}

abbrev pub message : ListError → List ℕ
message Short = codes "the list ends early"
message Long = codes "the list goes on"
