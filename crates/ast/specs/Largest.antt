-- Counts of records: they never pass the largest number that a record holds.
use Rattle.std.specs.Prelude.{cond, ℕ, ◌+◌, ltb}

abbrev pub largest : ℕ
largest = 4294967295

unfoldable pub bump : ℕ → ℕ
bump n = cond (ltb n largest) (n + 1) n
