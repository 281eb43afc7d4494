-- What an iterator over siblings has left.
use Rattle.std.specs.Prelude.{List, ℕ}
use Rattle.records.specs.declared.Siblings.{Siblings}
use Rattle.records.specs.Table.{siblings_from}

unfoldable pub left : Siblings → List ℕ
left s = siblings_from s.turns s.nodes.0.now s.end s.at
