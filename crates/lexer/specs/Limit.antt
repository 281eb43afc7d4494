-- The longest text that is read (document 01, "What is refused, and where": 20).
use Rattle.std.specs.Prelude.{ℕ}

abbrev pub limit : ℕ
limit = 65536
