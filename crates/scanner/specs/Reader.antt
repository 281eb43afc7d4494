-- What a reader reads, and where it stands afterwards.
use Rattle.std.specs.Prelude.{ℕ, List}
use Rattle.std.specs.Borrow.{Bor}
use Rattle.scanner.specs.Piece.{piece_at}
use Rattle.scanner.specs.declared.Piece.{Piece}
use Rattle.scanner.specs.declared.Reader.{Reader}

-- the reader at the start of a text
abbrev pub opened : Bor (List ℕ) → Reader
opened t = record { text = t; at = 0 }

-- the first token of its text from its offset on
abbrev pub read : Reader → Piece
read r = piece_at r.text.now r.at

-- the same text, and the offset behind that token
abbrev pub behind : Reader → Reader
behind r = record { text = r.text; at = (read r).end }
