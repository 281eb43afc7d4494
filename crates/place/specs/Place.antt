-- The line and the column of an offset, in any text, by the lexer's line rule.
use Rattle.std.specs.Prelude.{ℕ, zero, suc, ◌-◌, min, List, [], ◌∷◌, length, take, drop}
use Rattle.token.specs.Scan.{scan}
use Rattle.token.specs.declared.Token.{Token}
use Rattle.token.specs.declared.Token.TheVariants as T
use Rattle.token.specs.Scanned.{Scan}
use Rattle.std.specs.Prelude.{Some, None}
use Rattle.lexer.specs.declared.location.Lexer.{Lexer}
use Rattle.lexer.specs.declared.location.Span.{Span}
use Rattle.lexer.specs.Location.{behind, ends_line, pass, span_of, opening}
use Rattle.lexer.specs.Limit.{limit}

-- kind and length of what a text starts with; a byte that starts no token is passed alone and ends no line
unfoldable pub kind_of : Scan → Token
kind_of None = T.Blank
kind_of (Some (k, n)) = k

unfoldable pub length_of : Scan → ℕ
length_of None = 1
length_of (Some (k, n)) = n

-- the lexer m bytes further on in a text whose first n bytes belong to a lexeme of the kind k
unfoldable pub walk : List ℕ → Token → ℕ → ℕ → Lexer → Lexer
walk [] k n m s = s
walk (c ∷ w) k n zero s = s
walk (c ∷ w) k (suc n) (suc m) s = walk w k n m (behind (ends_line k c w) s)
walk (c ∷ w) k zero (suc m) s = walk w (kind_of (scan (c ∷ w))) (length_of (scan (c ∷ w)) - 1) m (behind (ends_line (kind_of (scan (c ∷ w))) c w) s)

-- the place of an offset, which may lie in a token; one past the end, or past 65,536 bytes, counts as that
unfoldable pub place_of : List ℕ → ℕ → Span
place_of t o = span_of (walk t T.Blank 0 (min o (min (length t) limit)) opening)

-- for the code: the lexer behind what a text starts with, at most m bytes of it
unfoldable pub step : List ℕ → ℕ → Lexer → Lexer
step t m s = let n = min (length_of (scan t)) m in pass (take n t) (kind_of (scan t)) (drop n t) s
