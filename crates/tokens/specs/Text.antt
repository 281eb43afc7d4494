-- What is written of a token.
use Rattle.std.specs.Prelude.{ℕ, List, ◌++◌, codes}
use Rattle.std.specs.Fmt.{decimal}
use Rattle.token.specs.Code.{code}
use Rattle.lexer.specs.declared.location.Span.{Span}
use Rattle.lexer.specs.declared.location.ParserToken.{ParserToken}

-- index, line and column
abbrev pub place_text : Span → List ℕ
place_text s = decimal s.index ++ (codes " " ++ (decimal s.line ++ (codes " " ++ decimal s.column)))

-- the kind's number, where the token starts and where it ends
abbrev pub row_text : ParserToken → List ℕ
row_text t = decimal (code t.token) ++ (codes " " ++ (place_text t.loc.start ++ (codes " " ++ place_text t.loc.end)))
