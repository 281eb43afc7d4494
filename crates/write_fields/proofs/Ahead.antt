-- Where the printer stands while it writes definitions that were read: the pieces left to print, the rows left in both tables.
--     under, noted     the node rows and the comment rows of a tree, before others
--     At               the pieces r are left, the next node is n, the node rows R and the comment rows C are left
--     Got, on          what holds of where a step leads, one step after another
--     puts, puts1 to puts4, passes, passes_note, prints_token   the steps that all others are made of
--     kind_is, parent_is, flags_are, note_parent_is   what the tables say of the next record
use mathlib.Core.Path.{◌≡◌, refl, sym, ap, ◌∙◌}
use mathlib.Core.Logic.{◌⊎◌, inl, inr, ⊎_elim}
use mathlib.Core.Bool.{Bool, true, false, cond}
use mathlib.Core.List.{List, [], ◌∷◌, ◌++◌, append_assoc}
use Prim.Native.Nat.{ℕ, suc, ◌+◌, ◌*◌, ◌-◌, ◌≤◌, ◌<◌}
use native.Mathlib.Omega.{arith}
use lib.Dec.{leb}
use lib.ListN.{length, take, drop, get_or, get_or-append, length-append, length-drop}
use lib.Seq.{drop-drop, get_or-drop, take-append_seam, drop-append-add, drop_at}
use borrow.Author.Tests.{leb-true, leb-false, lt-leb, lt-ltb, le-ltb}
use Rattle.lexer.specs.declared.location.LOC.{LOC}
use Rattle.lexer.specs.Tokens.{Lexeme, lexeme}
use Rattle.ast.specs.Tree.{Tree, node, Forest, bare, grown}
use Rattle.ast.specs.Largest.{bump}
use Rattle.ast.specs.Column as Col
use Rattle.ast.specs.Records.{comment_width, node_width, no_parent, row, node_row, size, comment_row, concat}
use Rattle.ast.proofs.Counts.{Wide, row_width, node_row_width}
use Rattle.parser.specs.Steps.{bytes, place}
use Rattle.parser.proofs.Lexemes.{Stands}
use Rattle.writer.specs.Print.{Piece, bytes_of, own}
use Rattle.cursor.specs.declared.Cursor.{Cursor}
use Rattle.cursor.specs.Onto.{Reached, reached, W, then, number_at, kind_at, parent_at, pass_node, pass_comment, put_out, part_out, token_out}

abbrev pub Rows : Type 0
Rows = List (List ℕ)

-- ---- rows before others

unfoldable mutual
  pub under : Tree → ℕ → ℕ → Rows → Rows
  under (node k f l w c ts) q n R = node_row k q f l (n + size (node k f l w c ts)) ∷ unders ts n (suc n) R

  pub unders : Forest → ℕ → ℕ → Rows → Rows
  unders bare q n R = R
  unders (grown t ts) q n R = under t q n (unders ts q (n + size t) R)

unfoldable pub owned_before : ℕ → List Lexeme → Rows → Rows
owned_before n [] C = C
owned_before n (c ∷ cs) C = comment_row n c ∷ owned_before n cs C

unfoldable mutual
  pub noted : Tree → ℕ → Rows → Rows
  noted (node k f l w c ts) n C = owned_before n c (noteds ts (suc n) C)

  pub noteds : Forest → ℕ → Rows → Rows
  noteds bare n C = C
  noteds (grown t ts) n C = noted t n (noteds ts (n + size t) C)

-- a table of records of w numbers holds these rows from row n on, and no more
pub record Ahead (w : ℕ) (table : List ℕ) (count n : ℕ) (rs : Rows) : Type 0 where
  pub pad : List ℕ
  pub lies : drop (n * w) table ≡ concat rs ++ pad
  pub counts : n + length rs ≡ count

-- bytes were printed, all that fitted, and these are left
pub record Fits (start whole left : List ℕ) (n : ℕ) (o : List ℕ) : Type 0 where
  pub done : List ℕ
  pub all : done ++ left ≡ whole
  pub inside : length done ≤ length start
  pub long : n ≡ length done
  pub out : o ≡ done ++ drop (length done) start

-- or the output was too short for them
pub record Over (start whole left : List ℕ) (n : ℕ) (o : List ℕ) : Type 0 where
  pub done : List ℕ
  pub all : done ++ left ≡ whole
  pub beyond : length start < length done
  pub long : n ≡ length start + 1
  pub out : length o ≡ length start

-- what a step leads to
pub data Got (G : Cursor → List ℕ → Type 0) : Reached → Type 0 where
  got : {p : Cursor} {o : List ℕ} → G p o → Got G (reached p o)

pub on : {G H : Cursor → List ℕ → Type 0} {k : W} {i : Reached} → Got G i → ((p : Cursor) (o : List ℕ) → G p o → Got H (k p o)) → Got H (then i k)
unfolding then
on (got {p = p} {o = o} g) h = h p o g

-- what is printed from, and the output that was lent
pub record Job : Type 0 where
  pub text : List ℕ
  pub nodes : List ℕ
  pub count : ℕ
  pub comments : List ℕ
  pub total : ℕ
  pub start : List ℕ
  pub whole : List ℕ
  pub few : count ≤ 4294967295
  pub brief : total ≤ 4294967295

pub record At (j : Job) (r : List Piece) (n : ℕ) (R C : Rows) (p : Cursor) (o : List ℕ) : Type 0 where
  pub node : p.node ≡ n
  pub nodes_ahead : Ahead node_width j.nodes j.count n R
  pub notes_ahead : Ahead comment_width j.comments j.total p.comment C
  pub bytes : Fits j.start j.whole (bytes_of r) p.length o ⊎ Over j.start j.whole (bytes_of r) p.length o

-- ---- rows

module _ {w : ℕ} (t : List ℕ) (count n : ℕ) {x : List ℕ} {R : Rows} (h : Wide w x) (a : Ahead w t count n (x ∷ R)) where
  -- past a row
  ahead_next : Ahead w t count (suc n) R
  unfolding concat
  ahead_next =
      record {
        pad = a.pad;
        lies =
            let e : suc n * w ≡ n * w + w = omega arith in
            rw e (sym (drop-drop w (n * w) t) ∙ ap (drop w) (a.lies ∙ append_assoc x (concat R) a.pad) ∙ drop_at x (concat R ++ a.pad) w h);
        counts = omega (arith, a.counts);
      }

  -- a number of the next row
  ahead_number : (i : ℕ) → i < w → number_at w t n i ≡ get_or x i 0
  unfolding number_at concat
  ahead_number i l =
      rw (lt-leb w i l)
      (sym (get_or-drop (n * w) t i 0)
      ∙ ap (λ (y : List ℕ). get_or y i 0) (a.lies ∙ append_assoc x (concat R) a.pad)
      ∙ get_or-append x (concat R ++ a.pad) 0 i (omega arith))

  -- its parent
  ahead_parent : Col.Parent < w → parent_at w t count n ≡ get_or x Col.Parent 0
  unfolding parent_at
  ahead_parent l = rw (lt-ltb n count (omega (arith, a.counts))) (ahead_number Col.Parent l)

-- ---- the records ahead

module _ (j : Job) {r : List Piece} {n : ℕ} {R C : Rows} {p : Cursor} {o : List ℕ} where
  -- a number of the next node, and of the next comment
  pub number_is : (k q f : ℕ) (l : LOC) (e : ℕ) (i : ℕ) → i < node_width → At j r n (node_row k q f l e ∷ R) C p o → number_at node_width j.nodes p.node i ≡ get_or (node_row k q f l e) i 0
  number_is k q f l e i h a = rw a.node (ahead_number j.nodes j.count n (node_row_width k q f l e) a.nodes_ahead i h)

  pub note_number_is : (k q f : ℕ) (l : LOC) (i : ℕ) → i < comment_width → At j r n R (row k q f l ∷ C) p o → number_at comment_width j.comments p.comment i ≡ get_or (row k q f l) i 0
  note_number_is k q f l i h a = ahead_number j.comments j.total p.comment (row_width k q f l) a.notes_ahead i h

  pub kind_is : (k q f : ℕ) (l : LOC) (e : ℕ) → At j r n (node_row k q f l e ∷ R) C p o → kind_at j.nodes j.count p.node ≡ k
  unfolding kind_at node_row row node_width
  kind_is k q f l e a =
      let h : p.node < j.count = omega (arith, a.node, a.nodes_ahead.counts) in
      rw (lt-ltb p.node j.count h) (number_is k q f l e 0 (omega arith) a)

  pub flags_are : (k q f : ℕ) (l : LOC) (e : ℕ) → At j r n (node_row k q f l e ∷ R) C p o → number_at node_width j.nodes p.node Col.Flags ≡ f
  unfolding node_row row node_width
  flags_are k q f l e a = number_is k q f l e Col.Flags (omega arith) a

  pub parent_is : (k q f : ℕ) (l : LOC) (e : ℕ) → At j r n (node_row k q f l e ∷ R) C p o → parent_at node_width j.nodes j.count p.node ≡ q
  unfolding node_row row node_width
  parent_is k q f l e a = rw a.node (ahead_parent j.nodes j.count n (node_row_width k q f l e) a.nodes_ahead (omega arith))

  pub note_parent_is : (k q f : ℕ) (l : LOC) → At j r n R (row k q f l ∷ C) p o → parent_at comment_width j.comments j.total p.comment ≡ q
  unfolding row comment_width
  note_parent_is k q f l a = ahead_parent j.comments j.total p.comment (row_width k q f l) a.notes_ahead (omega arith)

  -- the same place, said otherwise
  pub moved : (m : ℕ) → n ≡ m → At j r n R C p o → At j r m R C p o
  moved m e a = rw (sym e) a

  -- ---- steps

  pub passes : (k q f : ℕ) (l : LOC) (e : ℕ) → At j r n (node_row k q f l e ∷ R) C p o → Got (At j r (suc n) R C) (pass_node p o)
  unfolding pass_node bump
  passes k q f l e a =
      let h : p.node < 4294967295 = omega (arith, a.node, a.nodes_ahead.counts, j.few) in
      rw (lt-ltb p.node 4294967295 h)
      (got {p = record { node = p.node + 1; comment = p.comment; length = p.length }} (record {
        node = omega (arith, a.node);
        nodes_ahead = ahead_next j.nodes j.count n (node_row_width k q f l e) a.nodes_ahead;
        notes_ahead = a.notes_ahead;
        bytes = a.bytes;
      }))

  pub passes_note : (k q f : ℕ) (l : LOC) → At j r n R (row k q f l ∷ C) p o → Got (At j r n R C) (pass_comment p o)
  unfolding pass_comment bump
  passes_note k q f l a =
      let h : p.comment < 4294967295 = omega (arith, a.notes_ahead.counts, j.brief) in
      let e : suc p.comment ≡ p.comment + 1 = omega arith in
      rw (lt-ltb p.comment 4294967295 h)
      (got {p = record { node = p.node; comment = p.comment + 1; length = p.length }} (record {
        node = a.node;
        nodes_ahead = a.nodes_ahead;
        notes_ahead = rw e at (ahead_next j.comments j.total p.comment (row_width k q f l) a.notes_ahead);
        bytes = a.bytes;
      }))

-- behind the last record
module _ (j : Job) {r : List Piece} {n : ℕ} {X : Rows} {p : Cursor} {o : List ℕ} where
  pub no_kind : At j r n [] X p o → kind_at j.nodes j.count p.node ≡ 0
  unfolding kind_at
  no_kind a = rw (a.node, le-ltb n j.count (omega (arith, a.nodes_ahead.counts)))

  pub no_parent_law : At j r n [] X p o → parent_at node_width j.nodes j.count p.node ≡ 4294967295
  unfolding parent_at no_parent
  no_parent_law a = rw (a.node, le-ltb n j.count (omega (arith, a.nodes_ahead.counts)))

  pub no_note_parent : At j r n X [] p o → parent_at comment_width j.comments j.total p.comment ≡ 4294967295
  unfolding parent_at no_parent
  no_note_parent a = rw (le-ltb p.comment j.total (omega (arith, a.notes_ahead.counts)))

-- ---- bytes

module _ (start whole : List ℕ) (b left left' : List ℕ) (e : left' ≡ b ++ left) where
  longer : (done : List ℕ) → done ++ left' ≡ whole → (done ++ b) ++ left ≡ whole
  longer done h = append_assoc done b left ∙ ap (λ (x : List ℕ). done ++ x) (sym e) ∙ h

  fit_on : (n : ℕ) (o : List ℕ) (a : Fits start whole left' n o) → n + length b ≤ length start → Fits start whole left (n + length b) (take n o ++ (b ++ drop (n + length b) o))
  fit_on n o a h =
      let d = a.done in
      let x = drop (length d) start in
      let t : take (length d) (d ++ x) ≡ d = take-append_seam d x in
      let u : drop (length d + length b) (d ++ x) ≡ drop (length d + length b) start = drop-append-add d x (length b) ∙ drop-drop (length b) (length d) start in
      record {
        done = d ++ b;
        all = longer d a.all;
        inside = omega (arith, length-append d b, a.long);
        long = omega (arith, length-append d b, a.long);
        out = rw (a.long, a.out, t, u, length-append d b) (sym (append_assoc d b (drop (length d + length b) start)));
      }

  fit_off : (n : ℕ) (o : List ℕ) (a : Fits start whole left' n o) → length start < n + length b → length o ≡ length start → Over start whole left (length o + 1) o
  fit_off n o a h g =
      let d = a.done in
      record {
        done = d ++ b;
        all = longer d a.all;
        beyond = omega (arith, length-append d b, a.long);
        long = omega (arith, g);
        out = g;
      }

  over_on : (n : ℕ) (o : List ℕ) (a : Over start whole left' n o) → Over start whole left (length o + 1) o
  over_on n o a =
      let d = a.done in
      record {
        done = d ++ b;
        all = longer d a.all;
        beyond = omega (arith, length-append d b, a.beyond);
        long = omega (arith, a.out);
        out = a.out;
      }

fits_long : (start whole left : List ℕ) (n : ℕ) (o : List ℕ) → Fits start whole left n o → length o ≡ length start
fits_long start whole left n o a =
    ap length a.out ∙ length-append a.done (drop (length a.done) start) ∙ omega (arith, length-drop (length a.done) start, a.inside)

module _ (j : Job) {r : List Piece} {n : ℕ} {R C : Rows} {p : Cursor} {o : List ℕ} where
  -- bytes that the pieces begin with
  pub puts : (b : List ℕ) (r' : List Piece) → bytes_of r' ≡ b ++ bytes_of r → At j r' n R C p o → Got (At j r n R C) (put_out b p o)
  unfolding put_out
  puts b r' e a = ⊎_elim inside beyond a.bytes
    where
      Result : Bool → Type 0
      Result t = Got (At j r n R C)
          (cond t (reached (record { node = p.node; comment = p.comment; length = p.length + length b }) (take p.length o ++ (b ++ drop (p.length + length b) o)))
          (reached (record { node = p.node; comment = p.comment; length = length o + 1 }) o))

      short : Over j.start j.whole (bytes_of r) (length o + 1) o → Result false
      short h =
          got {p = record { node = p.node; comment = p.comment; length = length o + 1 }} (record { node = a.node; nodes_ahead = a.nodes_ahead; notes_ahead = a.notes_ahead; bytes = inr h })

      inside : Fits j.start j.whole (bytes_of r') p.length o → Result (leb (p.length + length b) (length o))
      inside f = go (leb (p.length + length b) (length o)) refl
        where
          l : length o ≡ length j.start
          l = fits_long j.start j.whole (bytes_of r') p.length o f

          go : (t : Bool) → leb (p.length + length b) (length o) ≡ t → Result t
          go true h =
              got {p = record { node = p.node; comment = p.comment; length = p.length + length b }}
              (record {
                node = a.node;
                nodes_ahead = a.nodes_ahead;
                notes_ahead = a.notes_ahead;
                bytes = inl (fit_on j.start j.whole b (bytes_of r) (bytes_of r') e p.length o f (omega (arith, leb-true (p.length + length b) (length o) h, l)));
              })
          go false h = short (fit_off j.start j.whole b (bytes_of r) (bytes_of r') e p.length o f (omega (arith, leb-false (p.length + length b) (length o) h, l)) l)

      beyond : Over j.start j.whole (bytes_of r') p.length o → Result (leb (p.length + length b) (length o))
      beyond f = rw (lt-leb (p.length + length b) (length o) (omega (arith, f.long, f.out))) (short (over_on j.start j.whole b (bytes_of r) (bytes_of r') e p.length o f))

  -- a part of the text
  pub puts_part : (x : Lexeme) (r' : List Piece) → Stands j.text x → bytes_of r' ≡ bytes x ++ bytes_of r → At j r' n R C p o →
      Got (At j r n R C) (part_out j.text (place x).start.index (place x).end.index p o)
  unfolding part_out
  puts_part x r' s e a =
      rw (le-ltb (length j.text) (place x).end.index s.inside, le-ltb (place x).end.index (place x).start.index s.ordered)
      (puts (take ((place x).end.index - (place x).start.index) (drop (place x).start.index j.text)) r' (rw (sym s.same) e) a)

-- one piece, two, three, four
module _ (j : Job) {n : ℕ} {R C : Rows} {p : Cursor} {o : List ℕ} where
  pub puts1 : {u : Piece} {r : List Piece} (b : List ℕ) → ((r : List Piece) → bytes_of (u ∷ r) ≡ b ++ bytes_of r) → At j (u ∷ r) n R C p o → Got (At j r n R C) (put_out b p o)
  puts1 {u} {r} b e a = puts j b (u ∷ r) (e r) a

  pub puts2 : {u v : Piece} {r : List Piece} (b : List ℕ) → ((r : List Piece) → bytes_of (u ∷ v ∷ r) ≡ b ++ bytes_of r) → At j (u ∷ v ∷ r) n R C p o →
      Got (At j r n R C) (put_out b p o)
  puts2 {u} {v} {r} b e a = puts j b (u ∷ v ∷ r) (e r) a

  pub puts3 : {u v w : Piece} {r : List Piece} (b : List ℕ) → ((r : List Piece) → bytes_of (u ∷ v ∷ w ∷ r) ≡ b ++ bytes_of r) → At j (u ∷ v ∷ w ∷ r) n R C p o →
      Got (At j r n R C) (put_out b p o)
  puts3 {u} {v} {w} {r} b e a = puts j b (u ∷ v ∷ w ∷ r) (e r) a

  pub puts4 : {u v w x : Piece} {r : List Piece} (b : List ℕ) → ((r : List Piece) → bytes_of (u ∷ v ∷ w ∷ x ∷ r) ≡ b ++ bytes_of r) →
      At j (u ∷ v ∷ w ∷ x ∷ r) n R C p o → Got (At j r n R C) (put_out b p o)
  puts4 {u} {v} {w} {x} {r} b e a = puts j b (u ∷ v ∷ w ∷ x ∷ r) (e r) a

-- the next record is a token: its bytes are printed, and it is passed
pub prints_token : (j : Job) {r : List Piece} {n : ℕ} {R C : Rows} {p : Cursor} {o : List ℕ} (x : Lexeme) (k q f e : ℕ) → Stands j.text x →
    At j (own x ∷ r) n (node_row k q f (place x) e ∷ R) C p o → Got (At j r (suc n) R C) (token_out j.text j.nodes p o)
unfolding token_out own bytes_of bytes place node_row row node_width
prints_token j {r} {n} {R} {C} {p} {o} (lexeme t w l) k q f e s a =
    rw (number_is j k q f l e Col.Start (omega arith) a, number_is j k q f l e Col.End (omega arith) a)
    (on (puts_part j (lexeme t w l) (own (lexeme t w l) ∷ r) s refl a) λ p o a. passes j k q f l e a)
