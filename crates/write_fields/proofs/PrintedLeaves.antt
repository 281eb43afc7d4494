-- On a record that is one token, the printer writes that token.
--     Good             a token of the text, of the kind that its bytes have
--     leaf_printed, name_printed, literal_printed   its bytes are printed, its record passed
--     comma_printed    `, ` before all but the first
use mathlib.Core.Path.{◌≡◌, refl}
use mathlib.Core.Bool.{Bool, true, false}
use mathlib.Core.List.{List, ◌∷◌}
use Prim.Native.Nat.{ℕ, suc, ◌+◌}
use native.Mathlib.Omega.{arith}
use Rattle.token.specs.Regex.{bytes as ascii}
use Rattle.lexer.specs.Tokens.{Lexeme, lexeme}
use Rattle.ast.specs.Tree.{leaf, name_tree, value_kind, literal_tree}
use Rattle.ast.specs.Records.{size, sizes}
use Rattle.parser.specs.Steps.{place}
use Rattle.parser.proofs.Lexemes.{Stands, HasRule}
use Rattle.writer.specs.Print.{Piece, bytes_of, own, comma, space}
use Rattle.cursor.specs.declared.Cursor.{Cursor}
use Rattle.cursor.specs.Onto.{stay, say_out, token_out}
use Rattle.write_fields.specs.Onto.{comma_out}
use Rattle.write_fields.proofs.Ahead.{Rows, under, unders, owned_before, noted, noteds, Got, got, Job, At, puts2, prints_token}

pub record Good (text : List ℕ) (t : Lexeme) : Type 0 where
  pub stands : Stands text t
  pub ruled : HasRule t

-- `, ` before all but the first
unfoldable pub separated : Bool → List Piece → List Piece
separated true u = u
separated false u = comma ∷ space ∷ u

module _ (j : Job) where
  pub comma_printed : (b : Bool) (n : ℕ) (u : List Piece) (R C : Rows) (p : Cursor) (o : List ℕ) → At j (separated b u) n R C p o → Got (At j u n R C) (comma_out b p o)
  unfolding separated comma_out stay say_out ascii bytes_of
  comma_printed true n u R C p o a = got a
  comma_printed false n u R C p o a = puts2 j _ (λ r. refl) a

  pub leaf_printed : (k : ℕ) (x : Lexeme) (q n : ℕ) (r : List Piece) (R C : Rows) (p : Cursor) (o : List ℕ) → Good j.text x →
      At j (own x ∷ r) n (under (leaf k x) q n R) (noted (leaf k x) n C) p o → Got (At j r (n + size (leaf k x)) R C) (token_out j.text j.nodes p o)
  unfolding leaf under unders noted noteds owned_before size sizes place
  leaf_printed k (lexeme t w l) q n r R C p o g a =
      let e : n + 1 ≡ suc n = omega arith in
      rw e (prints_token j (lexeme t w l) k q 0 _ g.stands a)

  pub name_printed : (x : Lexeme) (q n : ℕ) (r : List Piece) (R C : Rows) (p : Cursor) (o : List ℕ) → Good j.text x →
      At j (own x ∷ r) n (under (name_tree x) q n R) (noted (name_tree x) n C) p o → Got (At j r (n + size (name_tree x)) R C) (token_out j.text j.nodes p o)
  unfolding name_tree
  name_printed x q n r R C p o g a = leaf_printed 16 x q n r R C p o g a

  pub literal_printed : (x : Lexeme) (q n : ℕ) (r : List Piece) (R C : Rows) (p : Cursor) (o : List ℕ) → Good j.text x →
      At j (own x ∷ r) n (under (literal_tree x) q n R) (noted (literal_tree x) n C) p o → Got (At j r (n + size (literal_tree x)) R C) (token_out j.text j.nodes p o)
  unfolding literal_tree
  literal_printed (lexeme t w l) q n r R C p o g a = leaf_printed (value_kind t) (lexeme t w l) q n r R C p o g a
