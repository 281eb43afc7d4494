-- EVERY READING'S NODE TABLE MOVES, if it has at most 65,536 records: to nine numbers each, and back to the table that was read.
--     reading_narrows         its records, given room, become the same records without their tenth number
--     reading_widens_back     and these, given room, the records that were read
use mathlib.Core.Path.{◌≡◌, refl, sym, ap, ◌∙◌}
use mathlib.Core.Bool.{Bool, true, false, cond}
use mathlib.Core.List.{List, [], ◌∷◌, ◌++◌}
use Prim.Native.Nat.{ℕ, ◌*◌, ◌-◌, ◌≤◌}
use lib.Dec.{ltb}
use lib.ListN.{length, take, replicate}
use lib.Seq.{take_at}
use Rattle.lexer.specs.Error.{NodesFull, CommentsFull}
use Rattle.lexer.specs.Outcome.{Outcome, accepted, refused}
use Rattle.ast.specs.Ast.{Definition}
use Rattle.ast.specs.Records.{comment_width, node_width, node_rows, notes, room, concat, filled}
use Rattle.ast.proofs.Counts.{concat_width, node_rows_wide}
use Rattle.parser.specs.Read.{outcome, fitted, answer, left, rows_by, reading}
use Rattle.move_tables.specs.Moves.{narrow_width, most_records, narrowed, Moving, widens, narrows, moved}
use Rattle.move_tables.proofs.Back.{narrowed_wide, narrowed_count, written, narrowed_back, not_accepted}
use Rattle.move_tables.proofs.Forests.{definitions_narrow}

-- the definitions of an accepted reading, and its node table
pub record Read (t ns cs : List ℕ) (n : ℕ) : Type 0 where
  pub ds : List Definition
  pub are : outcome t ≡ accepted ds
  pub count : n ≡ length (node_rows ds)
  pub nodes : (reading t ns cs).nodes ≡ filled (node_rows ds) ns

pub read : (t ns cs : List ℕ) (n c : ℕ) → (reading t ns cs).says ≡ accepted (n ∷ c ∷ []) → Read t ns cs n
unfolding reading answer fitted left rows_by
read t ns cs n c e = by (outcome t) refl e
  where
    counts : (ds : List Definition) (x y : Bool) → cond x (refused NodesFull 0 0) (cond y (refused CommentsFull 0 0) (accepted (length (node_rows ds) ∷ length (notes ds) ∷ []))) ≡ accepted (n ∷ c ∷ [])
        → n ≡ length (node_rows ds)
    counts ds true y k = absurd (not_accepted k)
    counts ds false true k = absurd (not_accepted k)
    counts ds false false k = cc

    by : (o : Outcome (List Definition)) → outcome t ≡ o → answer (outcome t) ns cs ≡ accepted (n ∷ c ∷ []) → Read t ns cs n
    by (refused x p m) h k = absurd (not_accepted (rw h at k))
    by (accepted ds) h k = record { ds = ds; are = h; count = counts ds (ltb (room node_width ns) (length (node_rows ds))) (ltb (room comment_width cs) (length (notes ds))) (rw h at k); nodes = rw (k, h) }

module _ (t ns cs : List ℕ) (n c : ℕ) (e : (reading t ns cs).says ≡ accepted (n ∷ c ∷ [])) (few : n ≤ most_records) where
  -- the part of the node table that holds records
  abbrev table : List ℕ
  table = take (n * node_width) (reading t ns cs).nodes

  module _ (ds : List Definition) (are : outcome t ≡ accepted ds) where
    count : n ≡ length (node_rows ds)
    count = let r = read t ns cs n c e in let d : r.ds ≡ ds = cc (r.are, are) in rw d at r.count

    rows_are : table ≡ concat (node_rows ds)
    unfolding filled
    rows_are =
        let r = read t ns cs n c e in
        let d : r.ds ≡ ds = cc (r.are, are) in
        let m = count in
        let l : length (concat (node_rows ds)) ≡ n * node_width = rw count (concat_width (node_rows_wide ds)) in
        ap (take (n * node_width)) (rw d at r.nodes) ∙ take_at (concat (node_rows ds)) _ (n * node_width) l

    pub reading_narrows : (out : List ℕ) → n * narrow_width ≤ length out → narrows table out ≡ moved n (filled (narrowed (node_rows ds)) out)
    unfolding narrows
    reading_narrows out fits =
        let l : length (concat (narrowed (node_rows ds))) ≡ n * narrow_width = rw count (concat_width (narrowed_wide (node_rows_wide ds)) ∙ rw (narrowed_count (node_rows ds))) in
        let m : length (narrowed (node_rows ds)) ≡ n = narrowed_count (node_rows ds) ∙ sym count in
        rw (rows_are, definitions_narrow ds (rw (sym count) few)) (written (narrowed (node_rows ds)) out (rw l fits) ∙ rw m)

  pub reading_widens_back : (out back : List ℕ) → n * narrow_width ≤ length out → n * node_width ≤ length back →
      widens (take (n * narrow_width) (narrows table out).out) back ≡ moved n (table ++ replicate (length back - n * node_width) 0)
  reading_widens_back out back fits fits' =
      let r = read t ns cs n c e in
      let l : length table ≡ n * node_width = ap length (rows_are r.ds r.are) ∙ concat_width (node_rows_wide r.ds) ∙ ap (λ (m : ℕ). m * node_width) (sym r.count) in
      rw l at (narrowed_back table out n (ap (λ (m : Moving). m.says) (reading_narrows r.ds r.are out fits)) back (rw l fits'))
