-- What a scan of the start of a text finds: the kind of the longest token and its length, or none.
use Rattle.std.specs.Prelude.{ℕ, Option}
use Rattle.token.specs.declared.Token.{Token}

abbrev pub Scan : Type 0
Scan = Option (Token × ℕ)
