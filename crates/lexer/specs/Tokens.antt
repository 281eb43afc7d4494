-- The tokens of a text with their bytes and places, and the next of them.
use Rattle.std.specs.Prelude.{ℕ, ◌-◌, Bool, cond, ◌||◌, List, [], ◌∷◌, take, drop}
use Rattle.token.specs.Code.{is}
use Rattle.lexer.specs.Cuts.{Cuts, end, stuck, cut, cuts}
use Rattle.lexer.specs.Location.{pass, between}
use Rattle.token.specs.declared.Token.{Token}
use Rattle.token.specs.declared.Token.TheVariants as T
use Rattle.lexer.specs.declared.location.Lexer.{Lexer}
use Rattle.lexer.specs.declared.location.LOC.{LOC}
use Rattle.lexer.specs.declared.location.ParserToken.{ParserToken}
use Rattle.lexer.specs.declared.location.Next.{Next}
use Rattle.lexer.specs.declared.location.Next.TheVariants as N

-- a token: its kind, its bytes, its place
pub data Lexeme : Type 0 where
  lexeme : Token → List ℕ → LOC → Lexeme

-- blanks and line ends are no tokens for the parser
unfoldable pub skipped : Token → Bool
skipped k = is k T.Blank || is k T.Newline

-- the tokens of the cuts, the lexer standing at s; they end where no token starts
unfoldable pub lexemes : Cuts → Lexer → List Lexeme
lexemes end s = []
lexemes stuck s = []
lexemes (cut k w r cs) s =
    let e = pass w k r s in
    let l = lexemes cs e in
    cond (skipped k) l (lexeme k w (between s e) ∷ l)

-- the tokens of a text from the lexer's offset on
unfoldable pub tokens : List ℕ → Lexer → List Lexeme
tokens t s = lexemes (cuts (drop s.at t)) s

-- the next of them with the lexer behind it
unfoldable pub next_of : Cuts → Lexer → Next
next_of end s = N.End
next_of stuck s = N.Unrecognized s.at
next_of (cut k w r cs) s =
    let e = pass w k r s in
    let n = next_of cs e in
    cond (skipped k) n (N.On (record { token = k; loc = between s e }) e)

unfoldable pub next : List ℕ → Lexer → Next
next t s = next_of (cuts (drop s.at t)) s

-- a token of the code, with the bytes that its place has in the text
unfoldable pub lexeme_of : List ℕ → ParserToken → Lexeme
lexeme_of t p = lexeme p.token (take (p.loc.end.index - p.loc.start.index) (drop p.loc.start.index t)) p.loc
