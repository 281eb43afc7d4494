-- On the comment records of a node, the printer writes them, each on a line of its own, or passes them.
--     spaces_printed     so many spaces
--     comments_printed   a node's comments, behind the indent
--     comments_passed    a node's comments, not printed
use mathlib.Core.Path.{◌≡◌, refl}
use mathlib.Core.Bool.{true, cond}
use mathlib.Core.List.{List, [], ◌∷◌}
use Prim.Native.Nat.{ℕ, zero, suc, ◌≤◌, ◌<◌}
use native.Mathlib.Omega.{arith}
use lib.Dec.{eqb}
use lib.ListN.{length, replicate}
use borrow.Author.Tests.{eq-eqb}
use Rattle.token.specs.Regex.{bytes as ascii}
use Rattle.token.specs.Code.{is}
use Rattle.token.specs.declared.Token.TheVariants as Tok
use Rattle.lexer.specs.Tokens.{Lexeme, lexeme}
use Rattle.ast.specs.Lists.{All, acons}
use Rattle.ast.specs.Column as Col
use Rattle.ast.specs.Records.{comment_width, row, comment_row}
use Rattle.parser.specs.Steps.{bytes, place}
use Rattle.writer.specs.Print.{Piece, gap, note, line, bytes_of, write_comment, write_comments}
use Rattle.cursor.specs.declared.Cursor.{Cursor}
use Rattle.cursor.specs.Onto.{stay, parent_at, pass_comment, say_out, spaces_out, comment_out, comments_from, comments_out, pass_comments_from, pass_comments}
use Rattle.write_fields.proofs.Ahead.{Rows, owned_before, Got, got, on, Job, At, note_parent_is, note_number_is, passes_note, puts, puts_part}
use Rattle.write_fields.proofs.Follow.{Late, not_noted}
use Rattle.write_fields.proofs.PrintedLeaves.{Good}

owned_long : (m : ℕ) (c : List Lexeme) (C : Rows) → length c ≤ length (owned_before m c C)
unfolding owned_before
owned_long m [] C = omega arith
owned_long m (x ∷ c) C = omega (arith, owned_long m c C)

module _ (j : Job) where
  pub spaces_printed : (i n : ℕ) (r : List Piece) (R C : Rows) (p : Cursor) (o : List ℕ) → At j (gap (replicate i 32) ∷ r) n R C p o → Got (At j r n R C) (spaces_out i p o)
  unfolding spaces_out stay bytes_of say_out ascii
  spaces_printed zero n r R C p o a = got (record { node = a.node; nodes_ahead = a.nodes_ahead; notes_ahead = a.notes_ahead; bytes = a.bytes })
  spaces_printed (suc i) n r R C p o a =
      on (puts j {r = gap (replicate i 32) ∷ r} (32 ∷ []) (gap (replicate (suc i) 32) ∷ r) refl a) λ p o a. spaces_printed i n r R C p o a

  -- a comment
  comment_printed : (i m n : ℕ) (x : Lexeme) (r : List Piece) (R C : Rows) (p : Cursor) (o : List ℕ) → Good j.text x →
      At j (gap (replicate i 32) ∷ write_comment x ∷ r) n R (comment_row m x ∷ C) p o → Got (At j r n R C) (comment_out j.text j.comments i p o)
  unfolding comment_out comment_row write_comment bytes_of say_out ascii bytes place row comment_width
  comment_printed i m n (lexeme t w l) r R C p o g a =
      rw (note_number_is j (cond (is t Tok.LineComment) 32 33) m 0 l Col.Start (omega arith) a, note_number_is j (cond (is t Tok.LineComment) 32 33) m 0 l Col.End (omega arith) a)
      (on (spaces_printed i n (note t w ∷ r) R _ p o a) λ p o a. on (puts_part j {r = line ∷ r} (lexeme t w l) (note t w ∷ r) g.stands refl a) λ p o a.
      on (puts j {r = r} (10 ∷ []) (line ∷ r) refl a) λ p o a. passes_note j (cond (is t Tok.LineComment) 32 33) m 0 l a)

  -- the first comment belongs to its node
  owner_is : (m n : ℕ) (x : Lexeme) (r : List Piece) (R C : Rows) (p : Cursor) (o : List ℕ) → At j r n R (comment_row m x ∷ C) p o →
      eqb (parent_at comment_width j.comments j.total p.comment) m ≡ true
  unfolding comment_row
  owner_is m n (lexeme t w l) r R C p o a = eq-eqb _ m (note_parent_is j _ m 0 l a)

  note_passed : (m n : ℕ) (x : Lexeme) (r : List Piece) (R C : Rows) (p : Cursor) (o : List ℕ) → At j r n R (comment_row m x ∷ C) p o →
      Got (At j r n R C) (pass_comment p o)
  unfolding comment_row
  note_passed m n (lexeme t w l) r R C p o a = passes_note j _ m 0 l a

  module _ (i m : ℕ) (few : m < 4294967295) where
    comments_from_law : (k n : ℕ) (c : List Lexeme) (r : List Piece) (R C : Rows) (p : Cursor) (o : List ℕ) → length c ≤ k → All (Good j.text) c → Late (suc m) C →
        At j (write_comments (replicate i 32) c r) n R (owned_before m c C) p o → Got (At j r n R C) (comments_from j.text j.comments j.total m i k p o)
    unfolding comments_from write_comments owned_before
    comments_from_law zero n [] r R C p o h g e a = got a
    comments_from_law zero n (x ∷ c) r R C p o h g e a = absurd (omega (arith, h))
    comments_from_law (suc k) n [] r R C p o h g e a = rw (not_noted j m few e a) (got a)
    comments_from_law (suc k) n (x ∷ c) r R C p o h (acons g gs) e a =
        rw (owner_is m n x _ R _ p o a)
        (on (comment_printed i m n x (write_comments (replicate i 32) c r) R (owned_before m c C) p o g a) λ p o a.
        comments_from_law k n c r R C p o (omega (arith, h)) gs e a)

    passed_from : (k n : ℕ) (c : List Lexeme) (r : List Piece) (R C : Rows) (p : Cursor) (o : List ℕ) → length c ≤ k → Late (suc m) C →
        At j r n R (owned_before m c C) p o → Got (At j r n R C) (pass_comments_from j.comments j.total m k p o)
    unfolding pass_comments_from owned_before
    passed_from zero n [] r R C p o h e a = got a
    passed_from zero n (x ∷ c) r R C p o h e a = absurd (omega (arith, h))
    passed_from (suc k) n [] r R C p o h e a = rw (not_noted j m few e a) (got a)
    passed_from (suc k) n (x ∷ c) r R C p o h e a =
        rw (owner_is m n x _ R _ p o a) (on (note_passed m n x r R (owned_before m c C) p o a) λ p o a. passed_from k n c r R C p o (omega (arith, h)) e a)

  -- there are no more of them than comments
  enough : (m n : ℕ) (c : List Lexeme) (r : List Piece) (R C : Rows) (p : Cursor) (o : List ℕ) → At j r n R (owned_before m c C) p o → length c ≤ j.total
  enough m n c r R C p o a = omega (arith, a.notes_ahead.counts, owned_long m c C)

  pub comments_printed : (i m n : ℕ) (c : List Lexeme) (r : List Piece) (R C : Rows) (p : Cursor) (o : List ℕ) → m < 4294967295 → All (Good j.text) c → Late (suc m) C →
      At j (write_comments (replicate i 32) c r) n R (owned_before m c C) p o → Got (At j r n R C) (comments_out j.text j.comments j.total m i p o)
  unfolding comments_out
  comments_printed i m n c r R C p o few g e a = comments_from_law i m few j.total n c r R C p o (enough m n c _ R C p o a) g e a

  pub comments_passed : (m n : ℕ) (c : List Lexeme) (r : List Piece) (R C : Rows) (p : Cursor) (o : List ℕ) → m < 4294967295 → Late (suc m) C →
      At j r n R (owned_before m c C) p o → Got (At j r n R C) (pass_comments j.comments j.total m p o)
  unfolding pass_comments
  comments_passed m n c r R C p o few e a = passed_from 0 m few j.total n c r R C p o (enough m n c _ R C p o a) e a
