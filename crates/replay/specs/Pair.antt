-- `\r` directly before `\n`, at an offset. Rico counts it for two lines between tokens, the port for one.
use Rattle.std.specs.Prelude.{Bool, List, ℕ, ◌+◌, get_or, drop}
use Rattle.lexer.specs.Location.{pair}

unfoldable pub pair_at : List ℕ → ℕ → Bool
pair_at t i = pair (get_or t i 0) (drop (i + 1) t)
