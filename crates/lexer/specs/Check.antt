-- Rows 20, 21 and 22 of document 01's table, over a whole text.
use Rattle.std.specs.Prelude.{ℕ, cond, List, [], ltb, length}
use Rattle.std.specs.Prelude.{Option, Some, None}
use Rattle.utf8.specs.Utf8.{ill_formed}
use Rattle.lexer.specs.Limit.{limit}
use Rattle.lexer.specs.Error.{TextTooLong, NotUtf8, NoToken}
use Rattle.lexer.specs.Outcome.{Outcome, accepted, refused}
use Rattle.lexer.specs.Cuts.{cuts, unrecognized}
use Rattle.std.specs.declared.result.Result.{Result}
use Rattle.lexer.specs.declared.error.Refusal.{Refusal}
use Rattle.lexer.specs.Refusal.{said_by}

-- the bytes come before the tokens
unfoldable pub verdict : Option ℕ → Option ℕ → Outcome (List ℕ)
verdict (Some p) u = refused NotUtf8 p 0
verdict None (Some p) = refused NoToken p 0
verdict None None = accepted []

unfoldable pub checked : List ℕ → Outcome (List ℕ)
checked t = cond (ltb limit (length t)) (refused TextTooLong 0 0) (verdict (ill_formed t) (unrecognized (cuts t) 0))

-- what the code's answer says
abbrev pub found : Result (Unit {0}) Refusal → Outcome (List ℕ)
found = said_by (λ _. [])
