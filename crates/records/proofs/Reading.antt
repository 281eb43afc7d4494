-- THE TABLE OF EVERY ACCEPTED READING IS A FILE'S: with it the premise of each walk is met. What a call that reads first learns from the reader's contract.
--     reading_file     of a text that is read as ds, with the records of ds at the front of the table
--     read_refused     a refusal is the reading's, and both tables are all 0
--     read_accepted    the definitions, both tables, as long as they were, and that the node table is the file's
use mathlib.Core.Path.{◌≡◌, refl, sym, ap, ◌∙◌}
use mathlib.Core.Bool.{Bool, true, false, cond}
use mathlib.Core.List.{List, [], ◌∷◌}
use Prim.Native.Nat.{ℕ, ◌≤◌}
use native.Mathlib.Omega.{arith}
use lib.Dec.{ltb}
use lib.ListN.{length}
use Rattle.lexer.specs.Outcome.{Outcome, accepted, refused}
use Rattle.ast.specs.Lists.{All}
use Rattle.ast.specs.Ast.{Definition}
use Rattle.ast.specs.Records.{comment_width, node_width, no_parent, sizes, forest, node_rows, notes, room, filled, cleared}
use Rattle.ast.proofs.Counts.{node_rows_size, node_rows_wide, notes_wide}
use Rattle.std.specs.Prelude.{Ok, Err}
use Rattle.lexer.specs.Refusal.{number_of, said_by}
use Rattle.lexer.specs.declared.error.Refusal.{Refusal}
use Rattle.parser.specs.declared.Counts.{Counts}
use Rattle.parser.specs.Read.{Answer, outcome, fitted, answer, left, rows_by, said, Reading, told, reading}
use Rattle.parser.proofs.Lexemes.{Stands, tokens_stand}
use Rattle.parser.proofs.Each.{EachDefinition}
use Rattle.parser.proofs.Walk.{document_reads}
use Rattle.parser.proofs.Taken.{taken_means}
use Rattle.parser.proofs.Paid.{nodes_most}
use Rattle.records.specs.Table.{File}
use Rattle.records.proofs.RecordLaws.{filled_long}
use Rattle.records.proofs.ShownLaws.{filled_file}
use Rattle.records.proofs.SpelledLaws.{forest_spelled}

module _ (text : List ℕ) (ds : List Definition) (e : outcome text ≡ accepted ds) where
  stand : All (EachDefinition (Stands text)) ds
  stand = let t = taken_means text ds e in (document_reads text t.short (Stands text) (tokens_stand text) t.reads).each

  few : sizes (forest ds) ≤ no_parent
  unfolding no_parent
  few = omega (arith, nodes_most text ds e, node_rows_size ds)

  pub reading_file : (table : List ℕ) → File text (filled (node_rows ds) table) (length (node_rows ds)) ds
  reading_file table = filled_file text ds table few (forest_spelled text stand)

-- ---- a call that reads first

pub record Refuses (t ns cs : List ℕ) (e p n : ℕ) (ns' cs' : List ℕ) : Type 0 where
  pub answers : answer (outcome t) ns cs ≡ refused e p n
  pub nodes : ns' ≡ cleared ns
  pub comments : cs' ≡ cleared cs

pub record Accepts (t ns cs : List ℕ) (n c : ℕ) (ns' cs' : List ℕ) : Type 0 where
  pub ds : List Definition
  pub found : outcome t ≡ accepted ds
  pub answers : answer (outcome t) ns cs ≡ accepted (n ∷ c ∷ [])
  pub nodes : ns' ≡ filled (node_rows ds) ns
  pub comments : cs' ≡ filled (notes ds) cs
  pub long : length ns' ≡ length ns
  pub broad : length cs' ≡ length cs
  pub file : File t ns' n ds

module _ (t ns cs : List ℕ) (a : Answer) (ns' cs' : List ℕ) (r : told a ns' cs' ≡ reading t ns cs) where
  saying : (x : Outcome (List ℕ)) → said a ≡ x → answer (outcome t) ns cs ≡ x
  unfolding reading
  saying x e = sym (ap (λ (z : Reading). z.says) r) ∙ e

  nodes_left : (x : Outcome (List ℕ)) → said a ≡ x → ns' ≡ left x (rows_by node_rows (outcome t)) ns
  unfolding reading
  nodes_left x e = ap (λ (z : Reading). z.nodes) r ∙ ap (λ (z : Outcome (List ℕ)). left z (rows_by node_rows (outcome t)) ns) (saying x e)

  comments_left_law : (x : Outcome (List ℕ)) → said a ≡ x → cs' ≡ left x (rows_by notes (outcome t)) cs
  unfolding reading
  comments_left_law x e = ap (λ (z : Reading). z.comments) r ∙ ap (λ (z : Outcome (List ℕ)). left z (rows_by notes (outcome t)) cs) (saying x e)

  pub read_refused : {f : Refusal} → a ≡ Err f → Refuses t ns cs (number_of f.kind) f.place f.length ns' cs'
  unfolding said_by left
  read_refused {f} h =
      let x : Outcome (List ℕ) = refused (number_of f.kind) f.place f.length in
      let s : said a ≡ x = ap said h in
      record { answers = saying x s; nodes = nodes_left x s; comments = comments_left_law x s }

  -- what the tables had room for
  fitting : (ds : List Definition) {n c : ℕ} → fitted ds ns cs ≡ accepted (n ∷ c ∷ []) →
      (n ≡ length (node_rows ds)) × (ltb (room node_width ns) (length (node_rows ds)) ≡ false) × (ltb (room comment_width cs) (length (notes ds)) ≡ false)
  unfolding fitted
  fitting ds {n} {c} e = go (ltb (room node_width ns) (length (node_rows ds))) (ltb (room comment_width cs) (length (notes ds))) refl refl e
    where
      go : (x y : Bool) → ltb (room node_width ns) (length (node_rows ds)) ≡ x → ltb (room comment_width cs) (length (notes ds)) ≡ y →
          cond x (refused 24 0 0) (cond y (refused 25 0 0) (accepted (length (node_rows ds) ∷ length (notes ds) ∷ []))) ≡ accepted (n ∷ c ∷ []) →
          (n ≡ length (node_rows ds)) × (ltb (room node_width ns) (length (node_rows ds)) ≡ false) × (ltb (room comment_width cs) (length (notes ds)) ≡ false)
      go true y h k e = absurd cc
      go false true h k e = absurd cc
      go false false h k e = (cc, h, k)

  pub read_accepted : {k : Counts} → a ≡ Ok k → Accepts t ns cs k.nodes k.comments ns' cs'
  unfolding said_by left answer rows_by node_width comment_width
  read_accepted {k = k₀} h = go (outcome t) refl (saying (accepted (k₀.nodes ∷ k₀.comments ∷ [])) s) (nodes_left (accepted (k₀.nodes ∷ k₀.comments ∷ [])) s) (comments_left_law (accepted (k₀.nodes ∷ k₀.comments ∷ [])) s)
    where
      s : said a ≡ accepted (k₀.nodes ∷ k₀.comments ∷ [])
      s = ap said h

      go : (o : Outcome (List Definition)) → outcome t ≡ o → answer o ns cs ≡ accepted (k₀.nodes ∷ k₀.comments ∷ []) → ns' ≡ filled (rows_by node_rows o) ns → cs' ≡ filled (rows_by notes o) cs →
          Accepts t ns cs k₀.nodes k₀.comments ns' cs'
      go (accepted ds) e f g k =
          let q = fitting ds f in
          record {
            ds = ds;
            found = e;
            answers = rw e f;
            nodes = g;
            comments = k;
            long = rw g (filled_long (omega arith) (node_rows_wide ds) ns q.1);
            broad = rw k (filled_long (omega arith) (notes_wide ds) cs q.2);
            file = rw (g, q.0) (reading_file t ds e ns);
          }
      go (refused x y z) e f g k = absurd cc
