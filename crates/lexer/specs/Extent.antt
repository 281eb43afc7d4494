-- What the code passes at once when it looks for the offset where no token starts; no contract of an entry cites it.
use Rattle.std.specs.Prelude.{◌≡◌, List, ℕ, ◌+◌, ◌<◌, ◌≤◌, length, drop}
use Rattle.token.specs.Scan.{scan}
use Rattle.std.specs.Prelude.{Option, Some, None}
use Rattle.lexer.specs.Cuts.{cuts, unrecognized}

-- r bytes at an offset: the search goes on behind them
pub record Onward (t : List ℕ) (at r : ℕ) : Type 0 where
  pub passes : 0 < r
  pub within : at + r ≤ length t
  pub onward : unrecognized (cuts (drop at t)) at ≡ unrecognized (cuts (drop (at + r) t)) (at + r)

-- so many bytes, or no token starts there
abbrev pub Extent : List ℕ → ℕ → Option ℕ → Type 0
Extent t at (Some r) = Onward t at r
Extent t at None = scan (drop at t) ≡ None
