-- The contract of what writes: what it does to where the printer stands and to the output, from the text and the tables.
use Rattle.std.specs.Prelude.{◌≡◌, Bool, cond, List, ℕ, suc}
use Rattle.ast.specs.Records.{comment_width, node_width, room}
use Rattle.cursor.specs.declared.Cursor.{Cursor}
use Rattle.cursor.specs.declared.Writer.{Writer}
use Rattle.cursor.specs.Onto.{reached, W, then}

-- the text, the tables with the records that they have room for, and the spaces a level
pub record Source : Type 0 where
  pub text : List ℕ
  pub nodes : List ℕ
  pub count : ℕ
  pub comments : List ℕ
  pub total : ℕ
  pub indent : ℕ

abbrev pub source : Writer → Source
source w = record {
  text = w.text.now;
  nodes = w.nodes.now;
  count = room node_width w.nodes.now;
  comments = w.comments.now;
  total = room comment_width w.comments.now;
  indent = w.indent;
}

-- from one writer to the next: m is done, from the same source, to the same output
pub record Writes (m : Source → W) (s t : Writer) : Type 0 where
  pub goes : reached t.at t.out.now ≡ m (source s) s.at s.out.now
  pub same : source t ≡ source s
  pub lent : t.out.ghost_name ≡ s.out.ghost_name

-- m is what so many turns make: each is the test b, and if it says yes the step k and the turns left
pub record Turns (b : Cursor → Bool) (k : W) (m : ℕ → W) : Type 0 where
  pub none : (p : Cursor) (o : List ℕ) → m 0 p o ≡ reached p o
  pub more : (n : ℕ) (p : Cursor) (o : List ℕ) → m (suc n) p o ≡ cond (b p) (then (k p o) (m n)) (reached p o)
