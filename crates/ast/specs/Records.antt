-- The records of document 01, with the tenth number of document 02 (Change 7): trees laid out as rows of numbers, and the tables that hold them.
use Rattle.std.specs.Prelude.{cond, List, [], ◌∷◌, ◌++◌, ℕ, suc, zero, ◌+◌, ◌-◌, ◌/◌, length, take, drop, replicate}
use Rattle.token.specs.Code.{is}
use Rattle.token.specs.declared.Token.TheVariants as T
use Rattle.lexer.specs.declared.location.LOC.{LOC}
use Rattle.lexer.specs.Tokens.{Lexeme, lexeme}
use Rattle.ast.specs.Ast.{Definition}
use Rattle.ast.specs.Kind as K
use Rattle.ast.specs.Tree.{Tree, node, Forest, bare, grown, each, definition_tree}

-- THE WIDTHS of a comment record and of a node record
unfoldable pub comment_width : ℕ
comment_width = 9

unfoldable pub node_width : ℕ
node_width = 10

-- the parent of a definition
unfoldable pub no_parent : ℕ
no_parent = 4294967295

-- kind, parent, flags, then index, line and column of start and of end
unfoldable pub row : ℕ → ℕ → ℕ → LOC → List ℕ
row k p f l =
    k ∷ p ∷ f ∷ l.start.index ∷ l.start.line ∷ l.start.column ∷ l.end.index ∷ l.end.line ∷ l.end.column ∷ []

-- a node's: these, and the record number just past its last descendant
unfoldable pub node_row : ℕ → ℕ → ℕ → LOC → ℕ → List ℕ
node_row k p f l e = row k p f l ++ e ∷ []

-- how many records a tree has
unfoldable mutual
  pub size : Tree → ℕ
  size (node k f l w c ts) = suc (sizes ts)

  pub sizes : Forest → ℕ
  sizes bare = 0
  sizes (grown t ts) = size t + sizes ts

-- each record directly followed by all its descendants: the rows of a tree whose parent is p and whose own number is n
unfoldable mutual
  pub rows : Tree → ℕ → ℕ → List (List ℕ)
  rows (node k f l w c ts) p n = node_row k p f l (n + size (node k f l w c ts)) ∷ rows_of ts n (suc n)

  pub rows_of : Forest → ℕ → ℕ → List (List ℕ)
  rows_of bare p n = []
  rows_of (grown t ts) p n = rows t p n ++ rows_of ts p (n + size t)

-- a comment's parent is its owner
unfoldable pub comment_row : ℕ → Lexeme → List ℕ
comment_row owner (lexeme t w l) = row (cond (is t T.LineComment) K.LineComment K.BlockComment) owner 0 l

unfoldable pub owned : ℕ → List Lexeme → List (List ℕ)
owned owner [] = []
owned owner (c ∷ cs) = comment_row owner c ∷ owned owner cs

-- the comments of a tree whose own number is n, in text order
unfoldable mutual
  pub comment_rows : Tree → ℕ → List (List ℕ)
  comment_rows (node k f l w c ts) n = owned n c ++ comment_rows_of ts (suc n)

  pub comment_rows_of : Forest → ℕ → List (List ℕ)
  comment_rows_of bare n = []
  comment_rows_of (grown t ts) n = comment_rows t n ++ comment_rows_of ts (n + size t)

-- the forest of a file
unfoldable pub forest : List Definition → Forest
forest ds = each definition_tree ds bare

unfoldable pub node_rows : List Definition → List (List ℕ)
node_rows ds = rows_of (forest ds) no_parent 0

unfoldable pub notes : List Definition → List (List ℕ)
notes ds = comment_rows_of (forest ds) 0

-- how many records of so many numbers a table holds
unfoldable pub room : ℕ → List ℕ → ℕ
room width table = length table / width

-- its first n records
unfoldable pub chunks : ℕ → ℕ → List ℕ → List (List ℕ)
chunks width zero table = []
chunks width (suc n) table = take width table ∷ chunks width n (drop width table)

unfoldable pub concat : List (List ℕ) → List ℕ
concat [] = []
concat (r ∷ rs) = r ++ concat rs

-- a table afterwards: the rows, and 0 past them; or all 0
unfoldable pub filled : List (List ℕ) → List ℕ → List ℕ
filled rs table = concat rs ++ replicate (length table - length (concat rs)) 0

unfoldable pub cleared : List ℕ → List ℕ
cleared table = replicate (length table) 0
