-- The first token of a text from an offset on, by the lexer's cuts.
use Rattle.std.specs.Prelude.{ℕ, ◌+◌, cond, List, length, drop}
use Rattle.lexer.specs.Cuts.{Cuts, end, stuck, cut, cuts}
use Rattle.lexer.specs.Tokens.{skipped}
use Rattle.lexer.specs.declared.location.Next.{Next}
use Rattle.lexer.specs.declared.location.Next.TheVariants as N
use Rattle.scanner.specs.declared.Piece.{Piece}
use Rattle.scanner.specs.declared.What.TheVariants as W

-- the first of the cuts that is not passed over, the cuts starting at the offset `at`. Where none is, the piece is empty and stands where they end
unfoldable pub piece_of : Cuts → ℕ → Piece
piece_of end at = record { what = W.End; start = at; end = at }
piece_of stuck at = record { what = W.Unrecognized; start = at; end = at }
piece_of (cut k w r cs) at = cond (skipped k) (piece_of cs (at + length w)) (record { what = W.Token k; start = at; end = at + length w })

-- the first token of the text t from the offset `at` on. Behind the end nothing is left
unfoldable pub piece_at : List ℕ → ℕ → Piece
piece_at t at = piece_of (cuts (drop at t)) at

-- the lexer's answer as a piece, n being where the text ends: the lexer's End has no offset
unfoldable pub piece_of_next : Next → ℕ → Piece
piece_of_next (N.On p e) n = record { what = W.Token p.token; start = p.loc.start.index; end = p.loc.end.index }
piece_of_next N.End n = record { what = W.End; start = n; end = n }
piece_of_next (N.Unrecognized o) n = record { what = W.Unrecognized; start = o; end = o }
