-- The contract of what runs calls: what it makes of the file and of what is lent.
use Rattle.std.specs.Prelude.{◌≡◌, not, List, ℕ, eqb, get_or}
use Rattle.lexer.specs.Outcome.{Outcome}
use Rattle.reader.specs.declared.Lent.{Lent}
use Rattle.file.specs.declared.Request as R
use Rattle.file.specs.declared.File as F
use Rattle.file.specs.Run.{Request, ask, File, file_of, Memory, memory, kept_in}

-- the code's request
abbrev pub asked : R.Request → Request
asked q = ask q.prints q.nodes q.comments q.out

-- the request that four numbers make
abbrev pub Asks : List ℕ → R.Request → Type 0
Asks ns q = asked q ≡ ask (not (eqb (get_or ns 0 0) 0)) (get_or ns 1 0) (get_or ns 2 0) (get_or ns 3 0)

-- the code's file; and the memory, with what is lent
abbrev pub seen : F.File → File
seen f = file_of f.size f.space.now

abbrev pub held : F.File → Lent ℕ → Memory
held f l = memory f.size f.space.now l.nodes.now l.comments.now l.out.now

-- from one file to the next: what a printing wrote to the output is made the file
pub record Stores (a : Outcome (List ℕ)) (out : List ℕ) (s t : F.File) : Type 0 where
  pub goes : seen t ≡ kept_in a out (seen s)
  pub space : t.space.ghost_name ≡ s.space.ghost_name

-- from one file and what is lent to the next: m is the memory then, in the same space, tables and output
pub record Leaves (m : Memory) (s t : F.File) (k l : Lent ℕ) : Type 0 where
  pub goes : held t l ≡ m
  pub space : t.space.ghost_name ≡ s.space.ghost_name
  pub nodes : l.nodes.ghost_name ≡ k.nodes.ghost_name
  pub comments : l.comments.ghost_name ≡ k.comments.ghost_name
  pub out : l.out.ghost_name ≡ k.out.ghost_name
