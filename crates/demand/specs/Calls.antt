-- A list of readings and printings of one file, and what each is given and leaves: document 01, "The file in demand 3".
use Rattle.std.specs.Prelude.{List, [], ◌∷◌, ℕ, take}
use Rattle.lexer.specs.Outcome.{Outcome, accepted, refused}
use Rattle.parser.specs.Read.{Reading, reading}
use Rattle.writer.specs.Write.{Printing, bytes_written, printing}

-- a call, with the tables that it is lent, and in a printing the output
pub data Call : Type 0 where
  reads : List ℕ → List ℕ → Call
  prints : List ℕ → List ℕ → List ℕ → Call

-- what it gives: the answer, and all that it was lent
pub data Given : Type 0 where
  has_read : Reading → Given
  has_printed : Printing → Given

-- each call is given the file as the one before left it, and prints at the one indent
unfoldable pub gives : ℕ → Call → List ℕ → Given
gives indent (reads ns cs) f = has_read (reading f ns cs)
gives indent (prints ns cs out) f = has_printed (printing f indent ns cs out)

-- an accepted printing makes the bytes it wrote the file; a reading and a refused printing leave it
unfoldable pub kept : Outcome (List ℕ) → List ℕ → List ℕ → List ℕ
kept (accepted ns) out f = take (bytes_written ns) out
kept (refused e p n) out f = f

unfoldable pub leaves : Given → List ℕ → List ℕ
leaves (has_read r) f = f
leaves (has_printed r) f = kept r.says r.output f

-- a call, the file that it is given, what it gives
pub data Entry : Type 0 where
  entry : Call → List ℕ → Given → Entry

unfoldable pub trace : ℕ → List Call → List ℕ → List Entry
trace indent [] f = []
trace indent (c ∷ cs) f = let g = gives indent c f in entry c f g ∷ trace indent cs (leaves g f)
