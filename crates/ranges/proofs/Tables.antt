-- The same of the numbers that a reading leaves in the node table.
--     table_ranges   of the records that `reading` has
--     code_ranges    of those that the code leaves: the first premise is the contract of `reader::read`, word for word
use mathlib.Core.Path.{◌≡◌, refl, sym, ap, ◌∙◌}
use mathlib.Core.Bool.{Bool, true, false, cond}
use mathlib.Core.List.{List, [], ◌∷◌}
use Prim.Native.Nat.{ℕ}
use native.Mathlib.Omega.{arith}
use lib.Dec.{ltb}
use lib.ListN.{length}
use Rattle.lexer.specs.Error.{NodesFull, CommentsFull}
use Rattle.lexer.specs.Outcome.{Outcome, accepted, refused}
use Rattle.ast.specs.Ast.{Definition}
use Rattle.ast.specs.Records.{comment_width, node_width, node_rows, notes, room, chunks, filled}
use Rattle.ast.proofs.Counts.{node_rows_wide, chunks_rows}
use Rattle.std.specs.Prelude.{Ok}
use Rattle.lexer.specs.Refusal.{said_by}
use Rattle.parser.specs.Read.{Answer, outcome, fitted, answer, left, rows_by, said, Reading, told, reading}
use Rattle.ranges.specs.Ranges.{Ranges}
use Rattle.ranges.proofs.Claims.{ranges}

records_filled : (ds : List Definition) (table : List ℕ) → chunks node_width (length (node_rows ds)) (filled (node_rows ds) table) ≡ node_rows ds
unfolding filled
records_filled ds table = chunks_rows _ (node_rows_wide ds)

-- the first of the counts
first : Outcome (List ℕ) → ℕ
first (accepted []) = 0
first (accepted (n ∷ ns)) = n
first (refused e p n) = 0

accepts : Outcome (List ℕ) → ℕ
accepts (accepted ns) = 1
accepts (refused e p n) = 0

accepted_count : (ds : List Definition) (ns cs : List ℕ) (n c : ℕ) → fitted ds ns cs ≡ accepted (n ∷ c ∷ []) → n ≡ length (node_rows ds)
unfolding fitted first accepts
accepted_count ds ns cs n c = go (ltb (room node_width ns) (length (node_rows ds))) (ltb (room comment_width cs) (length (notes ds)))
  where
    go : (a b : Bool) →
        cond a (refused NodesFull 0 0) (cond b (refused CommentsFull 0 0) (accepted (length (node_rows ds) ∷ length (notes ds) ∷ []))) ≡ accepted (n ∷ c ∷ []) → n ≡ length (node_rows ds)
    go true b e = absurd (omega (arith, ap accepts e))
    go false true e = absurd (omega (arith, ap accepts e))
    go false false e = sym (ap first e)

module _ (t ns cs : List ℕ) (n c : ℕ) where
  by_outcome : (o : Outcome (List Definition)) → outcome t ≡ o → answer o ns cs ≡ accepted (n ∷ c ∷ []) →
      Ranges t (chunks node_width n (left (answer o ns cs) (rows_by node_rows o) ns))
  unfolding answer left rows_by accepts
  by_outcome (accepted ds) e a = let h = accepted_count ds ns cs n c a in rw (a, h, records_filled ds ns) (ranges t ds e)
  by_outcome (refused x y z) e a = absurd (omega (arith, ap accepts a))

  pub table_ranges : (reading t ns cs).says ≡ accepted (n ∷ c ∷ []) → Ranges t (chunks node_width n (reading t ns cs).nodes)
  unfolding reading
  table_ranges e = by_outcome (outcome t) refl e

pub code_ranges : (text nodes₀ comments₀ nodes₁ comments₁ : List ℕ) (r : Answer) (n c : ℕ) →
    told r nodes₁ comments₁ ≡ reading text nodes₀ comments₀ → r ≡ Ok (record { nodes = n; comments = c }) → Ranges text (chunks node_width n nodes₁)
unfolding said_by
code_ranges text nodes₀ comments₀ nodes₁ comments₁ r n c e a =
    let x : (reading text nodes₀ comments₀).nodes ≡ nodes₁ = sym (ap (λ (y : Reading). y.nodes) e) in
    let y : (reading text nodes₀ comments₀).says ≡ accepted (n ∷ c ∷ []) = sym (ap (λ (y : Reading). y.says) e) ∙ ap said a in
    rw x at (table_ranges text nodes₀ comments₀ n c y)
