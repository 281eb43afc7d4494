-- Records as parts of a table: a table is its records put together, and records put together are taken apart again.
--     whole_concat    a whole table is its records
--     whole_wide      of so many numbers each
--     concat_records, concat_whole   the records of records put together
use mathlib.Core.Path.{◌≡◌, refl, sym, ap, ◌∙◌}
use mathlib.Core.Bool.{true}
use mathlib.Core.List.{List, [], append-nil}
use Prim.Native.Nat.{ℕ, zero, suc, ◌*◌, ◌/◌, ◌≤◌}
use native.Mathlib.Omega.{arith}
use borrow.Author.Tests.{eqb-true, leb-true, eq-eqb, le-leb}
use lib.Dec.{eqb}
use lib.ListN.{length, drop, length-drop, take-append-drop}
use lib.Seq.{length-take-le}
use Rattle.std.proofs.lemmas.List.{nil_from_length}
use Rattle.ast.specs.Lists.{All, anil, acons}
use Rattle.ast.specs.Records.{comment_width, node_width, room, chunks, concat}
use Rattle.ast.proofs.Bools.{and_left, and_right}
use Rattle.ast.proofs.Counts.{Wide, concat_width, chunks_rows}
use Rattle.move_tables.specs.Moves.{narrow_width, most_records, records, whole}

chunks_concat : (w n : ℕ) (t : List ℕ) → n * w ≡ length t → concat (chunks w n t) ≡ t
unfolding chunks concat
chunks_concat w zero t e = sym (nil_from_length t (omega (arith, e)))
chunks_concat w (suc n) t e =
    rw (chunks_concat w n (drop w t) (simp length-drop (omega (arith, e)))) (take-append-drop w t)

chunks_wide : (w n : ℕ) (t : List ℕ) → n * w ≡ length t → All (Wide w) (chunks w n t)
unfolding chunks
chunks_wide w zero t e = anil
chunks_wide w (suc n) t e =
    acons (length-take-le w t (omega (arith, e))) (chunks_wide w n (drop w t) (simp length-drop (omega (arith, e))))

pub chunks_count : (w n : ℕ) (t : List ℕ) → length (chunks w n t) ≡ n
unfolding chunks
chunks_count w zero t = refl
chunks_count w (suc n) t = ap suc (chunks_count w n (drop w t))

module _ (w : ℕ) (t : List ℕ) (h : whole w t ≡ true) where
  pub whole_length : length t / w * w ≡ length t
  unfolding whole room
  whole_length = eqb-true _ _ (and_left _ _ h)

  pub whole_few : length t / w ≤ most_records
  unfolding whole room
  whole_few = leb-true _ _ (and_right (eqb (length t / w * w) (length t)) _ h)

  pub whole_concat : concat (records w t) ≡ t
  unfolding records room
  whole_concat = chunks_concat w _ t whole_length

  pub whole_wide : All (Wide w) (records w t)
  unfolding records room
  whole_wide = chunks_wide w _ t whole_length

  pub whole_count : length (records w t) ≤ most_records
  unfolding records room
  whole_count = rw (chunks_count w (length t / w) t) whole_few

chunks_of : {w : ℕ} {rs : List (List ℕ)} → All (Wide w) rs → chunks w (length rs) (concat rs) ≡ rs
chunks_of {w} {rs} hs = ap (chunks w (length rs)) (sym (append-nil (concat rs))) ∙ chunks_rows [] hs

-- so many numbers are n records
abbrev pub Width : ℕ → Type 0
Width w = (n : ℕ) → n * w / w ≡ n

pub narrow_width_law : Width narrow_width
unfolding comment_width
narrow_width_law n = omega arith

pub node_width_law : Width node_width
unfolding node_width
node_width_law n = omega arith

module _ {w : ℕ} {rs : List (List ℕ)} (d : Width w) (hs : All (Wide w) rs) where
  count_of : length (concat rs) / w ≡ length rs
  count_of = rw (concat_width hs) (d (length rs))

  pub concat_records : records w (concat rs) ≡ rs
  unfolding records room
  concat_records = rw count_of (chunks_of hs)

  pub concat_whole : length rs ≤ most_records → whole w (concat rs) ≡ true
  unfolding whole room
  concat_whole h = rw (count_of, eq-eqb (length rs * w) (length (concat rs)) (sym (concat_width hs)), le-leb (length rs) most_records h)
