-- Lines and columns: rico's newline_callback, bind_start_position and bind_end_position, with document 02's Change 1.
use Rattle.std.specs.Prelude.{ℕ, ◌+◌, ◌-◌, ◌≤◌, Bool, true, false, not, ◌&&◌, ◌||◌, List, [], ◌∷◌, ◌++◌, eqb, get_or}
use Rattle.token.specs.Code.{is}
use Rattle.token.specs.declared.Token.{Token}
use Rattle.token.specs.declared.Token.TheVariants as T
use Rattle.lexer.specs.Limit.{limit}
use Rattle.lexer.specs.declared.location.Lexer.{Lexer}
use Rattle.lexer.specs.declared.location.Span.{Span}
use Rattle.lexer.specs.declared.location.LOC.{LOC}

-- `\r` with a text behind it that starts with `\n`
unfoldable pub pair : ℕ → List ℕ → Bool
pair b r = eqb b 13 && eqb (get_or r 0 0) 10

-- such a pair stands in a text (no rule asks for this: without it every line is rico's)
unfoldable pub has_pair : List ℕ → Bool
has_pair [] = false
has_pair (b ∷ t) = pair b t || has_pair t

-- THE LINE RULE: whether the byte b of a lexeme of the kind k, r being the text behind that byte, ends a line.
-- `\n`, `\f`, and a `\r` that no `\n` follows do between tokens; in a block comment only `\n`
unfoldable pub ends_line : Token → ℕ → List ℕ → Bool
ends_line k b r = is k T.Newline && not (pair b r) || is k T.BlockComment && eqb b 10

-- the lexer behind a byte that ends a line, and behind any other
unfoldable pub behind : Bool → Lexer → Lexer
behind true s = record { at = s.at + 1; line = s.line + 1; origin = s.at + 1 }
behind false s = record { at = s.at + 1; line = s.line; origin = s.origin }

-- the lexer behind a lexeme of the kind k, r being the text behind it
unfoldable pub pass : List ℕ → Token → List ℕ → Lexer → Lexer
pass [] k r s = s
pass (b ∷ w) k r s = pass w k r (behind (ends_line k b (w ++ r)) s)

-- lines and columns count from 1, columns in bytes
unfoldable pub span_of : Lexer → Span
span_of s = record { line = s.line + 1; column = s.at - s.origin + 1; index = s.at }

-- from one place of the lexer to another
unfoldable pub between : Lexer → Lexer → LOC
between a b = record { start = span_of a; end = span_of b }

-- the lexer at the start of a text
unfoldable pub opening : Lexer
opening = record { at = 0; line = 0; origin = 0 }

-- a lexer that may stand in a text that is read: its lines and the start of its line are not past its offset
pub record Placed (s : Lexer) : Type 0 where
  pub lines : s.line ≤ s.at
  pub line_begun : s.origin ≤ s.at
  pub below : s.at ≤ limit
