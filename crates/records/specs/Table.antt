-- Tables by record number, and a node table seen as trees.
--     number_at, kind_at ..    a number of a record
--     Shown table n p ts     from record n on the table has the records of the trees ts, whose parent is p
--     siblings, roots        the records met from n on by going just past each one's last descendant; the numbers of the trees ts
--     nodes_of, Listed        all nodes in record order; the records one by one
--     part                   the bytes of a place
--     Spelled text ts        each token of the trees ts has the bytes of its place
--     File                   a text, the table of its definitions, and how many records that has
use Rattle.std.specs.Prelude.{◌≡◌, Bool, true, cond, ◌||◌, ◌&&◌, List, [], ◌∷◌, ◌++◌, ℕ, zero, suc, ◌+◌, ◌*◌, ◌-◌, ◌≤◌, ltb, leb, length, take, drop, get_or, Option, Some, None}
use Rattle.lexer.specs.declared.location.LOC.{LOC}
use Rattle.lexer.specs.Tokens.{Lexeme}
use Rattle.ast.specs.Ast.{Definition}
use Rattle.ast.specs.Tree.{Tree, node, Forest, bare, grown}
use Rattle.ast.specs.Column as C
use Rattle.ast.specs.Kind as K
use Rattle.ast.specs.Largest.{bump}
use Rattle.ast.specs.Records.{node_width, no_parent, size, sizes, rows_of, room, concat, forest}

-- ---- a record's numbers

-- in a table of records of w numbers; 0 where the table does not hold it
unfoldable pub number_at : ℕ → List ℕ → ℕ → ℕ → ℕ
number_at w t r k = get_or t (r * w + k) 0

-- the same of a number that each record has; 0 of one that none has
unfoldable pub own_at : ℕ → List ℕ → ℕ → ℕ → ℕ
own_at w t r k = cond (leb w k) 0 (number_at w t r k)

-- the same of a record that is below so many
unfoldable pub held_at : ℕ → List ℕ → ℕ → ℕ → Option ℕ
held_at w t r k = cond (ltb r (room w t)) (Some (number_at w t r k)) None

-- a node's kind, 0 behind the last of so many records
unfoldable pub kind_at : List ℕ → ℕ → ℕ → ℕ
kind_at t count r = cond (ltb r count) (number_at node_width t r 0) 0

-- a node's parent or a comment's owner, none behind the last
unfoldable pub parent_at : ℕ → List ℕ → ℕ → ℕ → ℕ
parent_at w t count r = cond (ltb r count) (number_at w t r C.Parent) no_parent

-- of a node in a whole table
abbrev pub kind_in : List ℕ → ℕ → ℕ
kind_in table n = kind_at table (room node_width table) n

abbrev pub flags_at : List ℕ → ℕ → ℕ
flags_at table n = number_at node_width table n C.Flags

abbrev pub start_at : List ℕ → ℕ → ℕ
start_at table n = number_at node_width table n C.Start

abbrev pub end_at : List ℕ → ℕ → ℕ
end_at table n = number_at node_width table n C.End

abbrev pub past_at : List ℕ → ℕ → ℕ
past_at table n = number_at node_width table n C.Past

-- ---- trees

-- FROM RECORD n ON THE TABLE HAS THE RECORDS OF THE TREES ts, WHOSE PARENT IS p. Their numbers are below the one that is no record's
pub record Shown (table : List ℕ) (n p : ℕ) (ts : Forest) : Type 0 where
  pub behind : List ℕ
  pub lies : drop (n * node_width) table ≡ concat (rows_of ts p n) ++ behind
  pub few : n + sizes ts ≤ no_parent

-- ---- siblings

-- from n on, as long as they are below end, so many at most
unfoldable pub siblings_from : ℕ → List ℕ → ℕ → ℕ → List ℕ
siblings_from zero table end n = []
siblings_from (suc m) table end n = cond (ltb n end) (n ∷ siblings_from m table end (past_at table n)) []

unfoldable pub siblings : List ℕ → ℕ → ℕ → List ℕ
siblings table end n = siblings_from end table end n

-- the children of record n
unfoldable pub children_of : List ℕ → ℕ → List ℕ
children_of table n = siblings table (past_at table n) (bump n)

-- the numbers of trees, the first being n
unfoldable pub roots : Forest → ℕ → List ℕ
roots bare n = []
roots (grown t ts) n = n ∷ roots ts (n + size t)

-- the nodes of trees in record order
unfoldable mutual
  pub nodes_in : Tree → List Tree
  nodes_in (node k f l w c ts) = node k f l w c ts ∷ nodes_of ts

  pub nodes_of : Forest → List Tree
  nodes_of bare = []
  nodes_of (grown t ts) = nodes_in t ++ nodes_of ts

-- ---- bytes

-- the bytes from a to b, none where the text has no such place
unfoldable pub part : List ℕ → ℕ → ℕ → List ℕ
part text a b = cond (ltb (length text) b) [] (cond (ltb b a) [] (take (b - a) (drop a text)))

unfoldable pub part_at : List ℕ → List ℕ → ℕ → List ℕ
part_at text table n = part text (start_at table n) (end_at table n)

-- the kinds of one token: names, ids and types of one token, values of one token
unfoldable pub is_token : ℕ → Bool
is_token k = leb K.Name k && leb k K.NamedType || leb K.String k && leb k K.NameValue

mutual
  -- each token of a tree has the bytes of its place
  pub data SpelledTree (text : List ℕ) : Tree → Type 0 where
    spelled : {k f : ℕ} {l : LOC} {w : List ℕ} {c : List Lexeme} {ts : Forest} →
        (is_token k ≡ true → w ≡ part text l.start.index l.end.index) → Spelled text ts → SpelledTree text (node k f l w c ts)

  pub data Spelled (text : List ℕ) : Forest → Type 0 where
    snone : Spelled text bare
    smore : {t : Tree} {ts : Forest} → SpelledTree text t → Spelled text ts → Spelled text (grown t ts)

-- A TEXT AND THE TABLE OF ITS DEFINITIONS, from record 0 on, count records in all
pub record File (text table : List ℕ) (count : ℕ) (ds : List Definition) : Type 0 where
  pub shown : Shown table 0 no_parent (forest ds)
  pub counts : count ≡ sizes (forest ds)
  pub spells : Spelled text (forest ds)

-- records one by one: from record n on they are those of these nodes, tokens with their bytes
pub data Listed (text table : List ℕ) : ℕ → List Tree → Type 0 where
  none : {n : ℕ} → Listed text table n []
  more : {n k f : ℕ} {l : LOC} {w : List ℕ} {c : List Lexeme} {us : Forest} {ts : List Tree} →
      kind_in table n ≡ k → flags_at table n ≡ f → start_at table n ≡ l.start.index → end_at table n ≡ l.end.index →
      (is_token k ≡ true → part_at text table n ≡ w) → Listed text table (suc n) ts → Listed text table n (node k f l w c us ∷ ts)
