-- How many records trees have, and how wide they are.
--     rows_size, node_rows_size   as many node records as nodes
--     note_count_law, notes_count     as many comment records as comments
--     row_width, node_row_width   each record has as many numbers as its width says
--     concat_width                so a table of records has as many times that
--     filled_length               and is as long afterwards as it was lent
--     chunks_rows                 and its first records are those
use mathlib.Core.Path.{◌≡◌, refl, ap}
use mathlib.Core.List.{List, [], ◌∷◌, ◌++◌, append_assoc}
use Prim.Native.Nat.{ℕ, suc, ◌+◌, ◌*◌, ◌-◌, ◌≤◌}
use native.Mathlib.Omega.{arith}
use lib.ListN.{length, replicate, length-append, length-replicate}
use lib.Seq.{take_at, drop_at}
use Rattle.lexer.specs.declared.location.LOC.{LOC}
use Rattle.lexer.specs.Tokens.{Lexeme, lexeme}
use Rattle.ast.specs.Ast.{Definition}
use Rattle.ast.specs.Lists.{All, anil, acons}
use Rattle.ast.specs.Tree.{Tree, node, Forest, bare, grown}
use Rattle.ast.specs.Records.{
  comment_width,
  node_width,
  no_parent,
  row,
  node_row,
  size,
  sizes,
  rows,
  rows_of,
  comment_row,
  owned,
  comment_rows,
  comment_rows_of,
  forest,
  node_rows,
  chunks,
  notes,
  concat,
  filled,
  cleared,
}

-- how many comments a tree has
unfoldable mutual
  pub note_count : Tree → ℕ
  note_count (node k f l w c ts) = length c + note_counts ts

  pub note_counts : Forest → ℕ
  note_counts bare = 0
  note_counts (grown t ts) = note_count t + note_counts ts

mutual
  unfolding rows size

  pub rows_size : (t : Tree) (p n : ℕ) → length (rows t p n) ≡ size t
  rows_size (node k f l w c ts) p n = ap suc (rows_sizes ts n (suc n))

  pub rows_sizes : (f : Forest) (p n : ℕ) → length (rows_of f p n) ≡ sizes f
  rows_sizes bare p n = refl
  rows_sizes (grown t ts) p n =
      omega (arith, length-append (rows t p n) (rows_of ts p (n + size t)), rows_size t p n, rows_sizes ts p (n + size t))

pub owned_count : (n : ℕ) (c : List Lexeme) → length (owned n c) ≡ length c
unfolding owned
owned_count n [] = refl
owned_count n (t ∷ c) = ap suc (owned_count n c)

mutual
  unfolding comment_rows note_count

  pub note_count_law : (t : Tree) (n : ℕ) → length (comment_rows t n) ≡ note_count t
  note_count_law (node k f l w c ts) n =
      omega (arith, length-append (owned n c) (comment_rows_of ts (suc n)), owned_count n c, note_counts_law ts (suc n))

  pub note_counts_law : (f : Forest) (n : ℕ) → length (comment_rows_of f n) ≡ note_counts f
  note_counts_law bare n = refl
  note_counts_law (grown t ts) n =
      omega (arith, length-append (comment_rows t n) (comment_rows_of ts (n + size t)), note_count_law t n, note_counts_law ts (n + size t))

pub node_rows_size : (ds : List Definition) → length (node_rows ds) ≡ sizes (forest ds)
unfolding node_rows
node_rows_size ds = rows_sizes (forest ds) no_parent 0

pub notes_count : (ds : List Definition) → length (notes ds) ≡ note_counts (forest ds)
unfolding notes
notes_count ds = note_counts_law (forest ds) 0

-- ---- the widths

-- a row of so many numbers
abbrev pub Wide : ℕ → List ℕ → Type 0
Wide w r = length r ≡ w

pub row_width : (k p f : ℕ) (l : LOC) → Wide comment_width (row k p f l)
unfolding row comment_width
row_width k p f l = refl

pub node_row_width : (k p f : ℕ) (l : LOC) (e : ℕ) → Wide node_width (node_row k p f l e)
unfolding node_row row node_width
node_row_width k p f l e = refl

pub append_all : {A : Type 0} {W : A → Type 0} {xs ys : List A} → All W xs → All W ys → All W (xs ++ ys)
append_all anil h = h
append_all (acons g gs) h = acons g (append_all gs h)

mutual
  unfolding rows

  pub rows_wide : (t : Tree) (p n : ℕ) → All (Wide node_width) (rows t p n)
  rows_wide (node k f l w c ts) p n = acons (node_row_width k p f l _) (forest_wide ts n (suc n))

  pub forest_wide : (f : Forest) (p n : ℕ) → All (Wide node_width) (rows_of f p n)
  forest_wide bare p n = anil
  forest_wide (grown t ts) p n = append_all (rows_wide t p n) (forest_wide ts p (n + size t))

pub owned_wide : (n : ℕ) (c : List Lexeme) → All (Wide comment_width) (owned n c)
unfolding owned comment_row
owned_wide n [] = anil
owned_wide n (lexeme k w l ∷ c) = acons (row_width _ n 0 l) (owned_wide n c)

mutual
  unfolding comment_rows

  comment_rows_wide : (t : Tree) (n : ℕ) → All (Wide comment_width) (comment_rows t n)
  comment_rows_wide (node k f l w c ts) n = append_all (owned_wide n c) (comments_wide ts (suc n))

  pub comments_wide : (f : Forest) (n : ℕ) → All (Wide comment_width) (comment_rows_of f n)
  comments_wide bare n = anil
  comments_wide (grown t ts) n = append_all (comment_rows_wide t n) (comments_wide ts (n + size t))

pub node_rows_wide : (ds : List Definition) → All (Wide node_width) (node_rows ds)
unfolding node_rows
node_rows_wide ds = forest_wide (forest ds) no_parent 0

pub notes_wide : (ds : List Definition) → All (Wide comment_width) (notes ds)
unfolding notes
notes_wide ds = comments_wide (forest ds) 0

pub concat_width : {w : ℕ} {rs : List (List ℕ)} → All (Wide w) rs → length (concat rs) ≡ length rs * w
unfolding concat
concat_width {w} anil = omega arith
concat_width {w} (acons {x = r} {xs = rs} h hs) = omega (arith, length-append r (concat rs), h, concat_width hs)

pub filled_length : (rs : List (List ℕ)) (table : List ℕ) → length (concat rs) ≤ length table → length (filled rs table) ≡ length table
unfolding filled
filled_length rs table h =
    omega (arith, length-append (concat rs) (replicate (length table - length (concat rs)) 0), length-replicate {A = ℕ} (length table - length (concat rs)) 0)

pub cleared_same : (t r : List ℕ) → length r ≡ length t → cleared r ≡ cleared t
unfolding cleared
cleared_same t r e = ap (λ (n : ℕ). replicate n 0) e

-- the rows at the front of a table are its first records
pub chunks_rows : {w : ℕ} {rs : List (List ℕ)} (rest : List ℕ) → All (Wide w) rs → chunks w (length rs) (concat rs ++ rest) ≡ rs
unfolding chunks concat
chunks_rows rest anil = refl
chunks_rows {w} rest (acons {x = r} {xs = rs} h hs) =
    rw (append_assoc r (concat rs) rest, take_at r (concat rs ++ rest) w h, drop_at r (concat rs ++ rest) w h, chunks_rows rest hs)
