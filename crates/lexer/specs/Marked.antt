-- What the code makes of a token of one byte; no contract of an entry cites it.
use Rattle.token.specs.Scanned.{Scan}
use Rattle.std.specs.Prelude.{Some, None}
use Rattle.lexer.specs.Location.{behind, between}
use Rattle.lexer.specs.declared.location.Lexer.{Lexer}
use Rattle.lexer.specs.declared.location.Next.{Next}
use Rattle.lexer.specs.declared.location.Next.TheVariants as N
use Rattle.std.specs.Prelude.{false}

-- the token that a scan of one byte finds, and the lexer behind it
unfoldable pub marked : Scan → Lexer → Next
marked None s = N.Unrecognized s.at
marked (Some (k, n)) s = let e = behind false s in N.On (record { token = k; loc = between s e }) e
