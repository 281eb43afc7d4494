-- What the code says of a sequence, and of sequences that are passed, one after another; no contract of an entry cites it.
use Rattle.std.specs.Prelude.{◌≡◌, List, ℕ, ◌<◌, ◌≤◌, length, drop}
use Rattle.std.specs.Prelude.{Option, Some, None, Result, Ok, Err}
use Rattle.utf8.specs.Utf8.{sequences, width, ill_from}

-- how long the sequence is that a text begins with, where there is one
abbrev pub IsWidth : List ℕ → Option ℕ → Type 0
IsWidth w (Some n) = (0 < n) × (width sequences w ≡ n)
IsWidth w None = width sequences w ≡ 0

-- from one offset to another: the search goes on there
pub record Onward (text : List ℕ) (from stop r : ℕ) : Type 0 where
  pub behind : stop ≤ r
  pub within : r ≤ length text
  pub onward : ill_from (drop from text) from 0 ≡ ill_from (drop r text) r 0

-- all that start before `stop` are passed, or the search ends at one of them
abbrev pub Passed : List ℕ → ℕ → ℕ → Result ℕ ℕ → Type 0
Passed text from stop (Ok r) = Onward text from stop r
Passed text from stop (Err r) = (r < stop) × (ill_from (drop from text) from 0 ≡ Some r)
