-- The contract of what reads into both tables: what it answers and makes of them.
use Rattle.std.specs.Prelude.{◌≡◌, List, ℕ}
use Rattle.ast.specs.Records.{cleared}
use Rattle.parser.specs.Read.{Answer, Reading, told}
use Rattle.reader.specs.declared.Tables.{Tables}

-- nothing is left in the same tables
pub record Wipes (s t : Tables) : Type 0 where
  pub nodes : t.nodes.now ≡ cleared s.nodes.now
  pub comments : t.comments.now ≡ cleared s.comments.now
  pub nodes_lent : t.nodes.ghost_name ≡ s.nodes.ghost_name
  pub comments_lent : t.comments.ghost_name ≡ s.comments.ghost_name

-- from two tables to the next: m is what they and the answer are, in the same tables
pub record Gives (m : List ℕ → List ℕ → Reading) (s t : Tables) (r : Answer) : Type 0 where
  pub goes : told r t.nodes.now t.comments.now ≡ m s.nodes.now s.comments.now
  pub nodes : t.nodes.ghost_name ≡ s.nodes.ghost_name
  pub comments : t.comments.ghost_name ≡ s.comments.ghost_name
