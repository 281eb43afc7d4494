-- What a table that shows trees says of them. Each law is of the first tree shown, at record n; by `children` and `beside` of every other.
--     kind_is, parent_is, flags_are, start_is, end_is, past_is   its record's numbers
--     children, beside        its children are shown from the next record on, what follows it from just past its last descendant on
--     past_of, next           the same of a tree whose kind is not known
--     leaf-..                 the same of a tree that is one token
--     leaf_part, leaf_stands  the bytes of the text at its place are its token's
--     roots_are, children_are the records met by going just past each one's last descendant are those of the trees
--     listed                  the records one by one are the nodes in record order
--     filled_file             a table with the rows of definitions shows them: so does every accepted reading's
use mathlib.Core.Path.{◌≡◌, refl, sym, ap, ◌∙◌}
use mathlib.Core.Bool.{true}
use mathlib.Core.List.{List, [], ◌∷◌, ◌++◌, append_assoc}
use Prim.Native.Nat.{ℕ, zero, suc, ◌+◌, ◌*◌, ◌-◌, ◌≤◌, ◌<◌}
use native.Mathlib.Omega.{arith}
use borrow.Author.Tests.{lt-ltb, le-ltb}
use lib.Dec.{ltb}
use lib.ListN.{length, drop, get_or, replicate, length-append}
use lib.Seq.{drop-drop, drop_at}
use Rattle.lexer.specs.declared.location.LOC.{LOC}
use Rattle.lexer.specs.Tokens.{Lexeme, lexeme}
use Rattle.ast.specs.Ast.{Definition}
use Rattle.ast.specs.Tree.{Tree, node, Forest, bare, grown, leaf}
use Rattle.ast.specs.Column as C
use Rattle.ast.specs.Largest.{bump}
use Rattle.ast.specs.Records.{node_width, no_parent, row, node_row, size, sizes, rows, rows_of, room, concat, forest, node_rows, filled}
use Rattle.ast.proofs.Counts.{node_row_width, forest_wide, rows_sizes, concat_width, node_rows_size}
use Rattle.parser.specs.Steps.{bytes, place}
use Rattle.parser.proofs.Lexemes.{Stands}
use Rattle.records.specs.Table.{
  Shown,
  File,
  number_at,
  kind_at,
  kind_in,
  parent_at,
  flags_at,
  start_at,
  end_at,
  past_at,
  siblings_from,
  siblings,
  children_of,
  roots,
  part,
  part_at,
  is_token,
  SpelledTree,
  spelled,
  Spelled,
  snone,
  smore,
  nodes_in,
  nodes_of,
  Listed,
  none,
  more,
}
use Rattle.records.proofs.RecordLaws.{row_number, row_next, row_held, held}

-- ---- how wide the rows are

concat_append : (xs ys : List (List ℕ)) → concat (xs ++ ys) ≡ concat xs ++ concat ys
unfolding concat
concat_append [] ys = refl
concat_append (x ∷ xs) ys = ap (λ (z : List ℕ). x ++ z) (concat_append xs ys) ∙ sym (append_assoc x (concat xs) (concat ys))

rows_of_wide : (ts : Forest) (p n : ℕ) → length (concat (rows_of ts p n)) ≡ sizes ts * node_width
rows_of_wide ts p n = concat_width (forest_wide ts p n) ∙ ap (λ (z : ℕ). z * node_width) (rows_sizes ts p n)

-- ---- the first tree

module _ {table : List ℕ} {n p k f : ℕ} {l : LOC} {w : List ℕ} {c : List Lexeme} {ts us : Forest} (s : Shown table n p (grown (node k f l w c ts) us)) where
  -- its own record, its descendants', the others'
  own : drop (n * node_width) table
      ≡ node_row k p f l (n + size (node k f l w c ts))
      ++ (concat (rows_of ts n (suc n)) ++ (concat (rows_of us p (n + size (node k f l w c ts))) ++ s.behind))
  unfolding rows concat
  own =
      let e = n + size (node k f l w c ts) in
      let x = node_row k p f l e in
      let a = rows_of ts n (suc n) in
      let b = rows_of us p e in
      s.lies
      ∙ append_assoc x (concat (a ++ b)) s.behind
      ∙ ap (λ (z : List ℕ). x ++ (z ++ s.behind)) (concat_append a b)
      ∙ ap (λ (z : List ℕ). x ++ z) (append_assoc (concat a) (concat b) s.behind)

  abbrev past : ℕ
  past = n + size (node k f l w c ts)

  abbrev others : List ℕ
  others = concat (rows_of ts n (suc n)) ++ (concat (rows_of us p past) ++ s.behind)

  number_is : (i : ℕ) → i < node_width → number_at node_width table n i ≡ get_or (node_row k p f l past) i 0
  number_is i h = row_number table n (node_row k p f l past) others (node_row_width k p f l past) own i h

  holds : ltb n (room node_width table) ≡ true
  unfolding node_width
  holds = held table n (omega arith) (row_held table n (node_row k p f l past) others (node_row_width k p f l past) own (omega arith))

  pub kind_is : kind_in table n ≡ k
  unfolding kind_at node_row row node_width
  kind_is = rw holds (number_is 0 (omega arith))

  pub parent_is : parent_at node_width table (room node_width table) n ≡ p
  unfolding parent_at node_row row node_width
  parent_is = rw holds (number_is C.Parent (omega arith))

  pub flags_are : flags_at table n ≡ f
  unfolding node_row row node_width
  flags_are = number_is C.Flags (omega arith)

  pub start_is : start_at table n ≡ l.start.index
  unfolding node_row row node_width
  start_is = number_is C.Start (omega arith)

  pub end_is : end_at table n ≡ l.end.index
  unfolding node_row row node_width
  end_is = number_is C.End (omega arith)

  pub past_is : past_at table n ≡ n + size (node k f l w c ts)
  unfolding node_row row node_width
  past_is = number_is C.Past (omega arith)

  inside : drop (suc n * node_width) table ≡ others
  inside = row_next table n (node_row k p f l past) others (node_row_width k p f l past) own

  -- its children, from the next record on
  pub children : Shown table (suc n) n ts
  unfolding size
  children = record { behind = concat (rows_of us p (n + size (node k f l w c ts))) ++ s.behind; lies = inside; few = omega (arith, s.few) }

  -- what follows it, from just past its last descendant on
  pub beside : Shown table (n + size (node k f l w c ts)) p us
  unfolding node_width size
  beside =
      record {
        behind = s.behind;
        lies =
            let a = concat (rows_of ts n (suc n)) in
            let m = sizes ts * 10 in
            let e : (n + suc (sizes ts)) * 10 ≡ suc n * 10 + m = omega arith in
            rw e (sym (drop-drop m (suc n * 10) table) ∙ ap (drop m) inside ∙ drop_at a _ m (rows_of_wide ts n (suc n)));
        few = omega (arith, s.few);
      }

  -- a record number
  pub below : n < no_parent
  unfolding size
  below = omega (arith, s.few)

  pub bump_is : bump n ≡ suc n
  unfolding bump no_parent
  bump_is = rw (lt-ltb n no_parent below) (omega arith)

-- whatever tree it is
pub past_of : {table : List ℕ} {n p : ℕ} {us : Forest} (t : Tree) → Shown table n p (grown t us) → past_at table n ≡ n + size t
past_of (node k f l w c ts) s = past_is s

pub next : {table : List ℕ} {n p : ℕ} {us : Forest} (t : Tree) → Shown table n p (grown t us) → Shown table (n + size t) p us
next (node k f l w c ts) s = beside s

-- ---- a token

pub leaf_size : (k : ℕ) (x : Lexeme) → size (leaf k x) ≡ 1
unfolding leaf size sizes
leaf_size k (lexeme t w l) = refl

-- a token that stands in a text has the bytes of its place
pub stands_part : (text : List ℕ) (x : Lexeme) → Stands text x → bytes x ≡ part text (place x).start.index (place x).end.index
unfolding part
stands_part text x h =
    rw (le-ltb (length text) (place x).end.index h.inside, le-ltb (place x).end.index (place x).start.index h.ordered) h.same

module _ {table : List ℕ} {n p : ℕ} {us : Forest} (k : ℕ) where
  pub leaf_kind : (x : Lexeme) → Shown table n p (grown (leaf k x) us) → kind_in table n ≡ k
  unfolding leaf
  leaf_kind (lexeme t w l) s = kind_is s

  pub leaf_start : (x : Lexeme) → Shown table n p (grown (leaf k x) us) → start_at table n ≡ (place x).start.index
  unfolding leaf place
  leaf_start (lexeme t w l) s = start_is s

  pub leaf_end : (x : Lexeme) → Shown table n p (grown (leaf k x) us) → end_at table n ≡ (place x).end.index
  unfolding leaf place
  leaf_end (lexeme t w l) s = end_is s

  pub leaf_past : (x : Lexeme) → Shown table n p (grown (leaf k x) us) → past_at table n ≡ n + 1
  unfolding leaf size
  leaf_past (lexeme t w l) s = past_is s

  pub leaf_beside : (x : Lexeme) → Shown table n p (grown (leaf k x) us) → Shown table (n + 1) p us
  unfolding leaf size
  leaf_beside (lexeme t w l) s = beside s

  -- its bytes are those of the text at its place
  pub leaf_part : (text : List ℕ) (x : Lexeme) → is_token k ≡ true → Spelled text (grown (leaf k x) us) → Shown table n p (grown (leaf k x) us) →
      part_at text table n ≡ bytes x
  unfolding leaf part_at bytes
  leaf_part text (lexeme t w l) h (smore (spelled e o) os) s = rw (start_is s, end_is s) (sym (e h))

  pub leaf_stands : (text : List ℕ) (x : Lexeme) → Stands text x → Shown table n p (grown (leaf k x) us) → part_at text table n ≡ bytes x
  unfolding part_at
  leaf_stands text x h s = rw (leaf_start x s, leaf_end x s) (sym (stands_part text x h))

-- ---- siblings

pub roots_from : (m : ℕ) {table : List ℕ} {n p : ℕ} (ts : Forest) → Shown table n p ts → (end : ℕ) → end ≡ n + sizes ts → sizes ts ≤ m →
    siblings_from m table end n ≡ roots ts n
unfolding siblings_from roots size
roots_from zero bare s end e h = refl
roots_from (suc m) {n = n} bare s end e h = rw (le-ltb n end (omega arith))
roots_from zero (grown (node k f l w c ts) us) s end e h = absurd (omega arith)
roots_from (suc m) {table} {n} (grown (node k f l w c ts) us) s end e h =
    let q : past_at table n ≡ n + size (node k f l w c ts) = past_is s in
    rw (lt-ltb n end (omega arith), q)
    (ap (λ (z : List ℕ). n ∷ z) (roots_from m us (beside s) end (omega arith) (omega arith)))

pub roots_are : {table : List ℕ} {n p : ℕ} (ts : Forest) → Shown table n p ts → siblings table (n + sizes ts) n ≡ roots ts n
unfolding siblings
roots_are {n = n} ts s = roots_from (n + sizes ts) ts s (n + sizes ts) refl (omega arith)

pub children_are : {table : List ℕ} {n p k f : ℕ} {l : LOC} {w : List ℕ} {c : List Lexeme} {ts us : Forest} →
    Shown table n p (grown (node k f l w c ts) us) → children_of table n ≡ roots ts (suc n)
unfolding children_of size
children_are {n = n} {ts = ts} s =
    let e : n + suc (sizes ts) ≡ suc n + sizes ts = omega arith in
    rw (past_is s, bump_is s, e) (roots_are ts (children s))

-- ---- records one by one

listed_append : {text table : List ℕ} {n : ℕ} {xs ys : List Tree} (m : ℕ) → Listed text table n xs → m ≡ n + length xs → Listed text table m ys → Listed text table n (xs ++ ys)
listed_append {n = n} m none e h = let q : m ≡ n = omega arith in rw q at h
listed_append m (more a b c d g h) e k = more a b c d g (listed_append m h (omega arith) k)

mutual
  unfolding nodes_in size

  nodes_size : (t : Tree) → length (nodes_in t) ≡ size t
  nodes_size (node k f l w c ts) = ap suc (nodes_sizes ts)

  nodes_sizes : (ts : Forest) → length (nodes_of ts) ≡ sizes ts
  nodes_sizes bare = refl
  nodes_sizes (grown t ts) = omega (arith, length-append (nodes_in t) (nodes_of ts), nodes_size t, nodes_sizes ts)

mutual
  unfolding nodes_in part_at size

  tree_listed : {text table : List ℕ} {n p : ℕ} {us : Forest} (t : Tree) → Shown table n p (grown t us) → SpelledTree text t → Listed text table n (nodes_in t)
  tree_listed (node k f l w c ts) s (spelled e o) =
      more {w = w} (kind_is s) (flags_are s) (start_is s) (end_is s) (λ h. rw (start_is s, end_is s) (sym (e h))) (listed ts (children s) o)

  pub listed : {text table : List ℕ} {n p : ℕ} (ts : Forest) → Shown table n p ts → Spelled text ts → Listed text table n (nodes_of ts)
  listed bare s snone = none
  listed {n = n} (grown t us) s (smore h hs) =
      listed_append (n + size t) (tree_listed t s h) (omega (arith, nodes_size t)) (listed us (next t s) hs)

-- ---- the table of a reading

pub filled_file : (text : List ℕ) (ds : List Definition) (table : List ℕ) → sizes (forest ds) ≤ no_parent → Spelled text (forest ds) →
    File text (filled (node_rows ds) table) (length (node_rows ds)) ds
unfolding filled node_rows node_width
filled_file text ds table h s =
    record {
      shown = record { behind = replicate (length table - length (concat (rows_of (forest ds) no_parent 0))) 0; lies = refl; few = omega (arith, h) };
      counts = node_rows_size ds;
      spells = s;
    }
