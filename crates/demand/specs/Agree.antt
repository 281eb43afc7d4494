-- When the definitions of two files agree, in document 01's words ("Printing").
use Rattle.std.specs.Prelude.{◌≡◌, Bool, cond, ◌||◌, ◌&&◌, List, [], ℕ, leb}
use Rattle.lexer.specs.Tokens.{Lexeme, lexeme}
use Rattle.ast.specs.Ast.{Definition}
use Rattle.ast.specs.Lists.{maps}
use Rattle.ast.specs.Drop.{drop_params}
use Rattle.ast.specs.Kind as K
use Rattle.ast.specs.Tree.{Tree, node, Forest, bare, grown}
use Rattle.ast.specs.Records.{forest}

-- the kinds whose bytes count: names, ids (the writer writes a token's own bytes), types of one token, values of one token
unfoldable pub bytes_count : ℕ → Bool
bytes_count k = leb K.Name k && leb k K.NamedType || leb K.String k && leb k K.NameValue

-- what counts of a tree: kind, flags, the bytes of those kinds, the bytes of its comments in order, its children
mutual
  pub data Shape : Type 0 where
    shape : ℕ → ℕ → List ℕ → List (List ℕ) → Shapes → Shape

  pub data Shapes : Type 0 where
    no_shape : Shapes
    and_shape : Shape → Shapes → Shapes

unfoldable pub note_bytes : Lexeme → List ℕ
note_bytes (lexeme k w l) = w

unfoldable mutual
  pub shape_of : Tree → Shape
  shape_of (node k f l w c ts) = shape k f (cond (bytes_count k) w []) (maps note_bytes c) (shapes_of ts)

  pub shapes_of : Forest → Shapes
  shapes_of bare = no_shape
  shapes_of (grown t ts) = and_shape (shape_of t) (shapes_of ts)

abbrev pub Agree : List Definition → List Definition → Type 0
Agree ds es = shapes_of (forest (maps drop_params ds)) ≡ shapes_of (forest (maps drop_params es))
