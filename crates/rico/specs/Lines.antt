-- rico's own line rule, and the tokens by it (document 02, Change 1).
use Rattle.std.specs.Prelude.{ℕ, Bool, cond, ◌&&◌, ◌||◌, List, [], ◌∷◌, eqb}
use Rattle.token.specs.Code.{is}
use Rattle.token.specs.declared.Token.{Token}
use Rattle.token.specs.declared.Token.TheVariants as T
use Rattle.lexer.specs.declared.location.Lexer.{Lexer}
use Rattle.lexer.specs.Cuts.{Cuts, end, stuck, cut, cuts}
use Rattle.lexer.specs.Location.{behind, between, opening}
use Rattle.lexer.specs.Tokens.{Lexeme, lexeme, skipped}

-- rico's line rule: `\r`, `\n` and `\f` between tokens each end a line; in a block comment only `\n`
unfoldable pub ends_line : Token → ℕ → Bool
ends_line k b = is k T.Newline || is k T.BlockComment && eqb b 10

-- the lexer behind a lexeme of the kind k, by it
unfoldable pub pass : List ℕ → Token → Lexer → Lexer
pass [] k s = s
pass (b ∷ w) k s = pass w k (behind (ends_line k b) s)

-- the tokens of the cuts
unfoldable pub lexemes : Cuts → Lexer → List Lexeme
lexemes end s = []
lexemes stuck s = []
lexemes (cut k w r cs) s =
    let e = pass w k s in
    let l = lexemes cs e in
    cond (skipped k) l (lexeme k w (between s e) ∷ l)

unfoldable pub tokens : List ℕ → List Lexeme
tokens t = lexemes (cuts t) opening
