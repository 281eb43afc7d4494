-- Bytes that are copied into the output, and parts of the text.
--     number_in, number_there            a number of a record; kind_there, parent_there: a record's kind and parent
--     copy_step, copy_done               a copy, byte by byte
--     put_in, put_past                   bytes that the output holds, and bytes that it does not
--     part_none, part_in                 a part that does not lie in the text, and one that does
--     comments_nothing                   no comments
--     spaces_all, spaces_none            the spaces left: before the first one, and behind the last one
--     spaces_turn, spaces_full           one of them, and more than the output holds
--     token_is, comment_is               a token and a comment, by the part that was read
use mathlib.Core.Path.{◌≡◌, refl, sym, ap, ◌∙◌}
use mathlib.Core.Logic.{◌⊎◌, inl, inr}
use mathlib.Core.List.{List, [], ◌∷◌, ◌++◌, append-nil}
use Prim.Native.Nat.{ℕ, zero, suc, ◌+◌, ◌-◌, ◌≤◌, ◌<◌}
use native.Mathlib.Omega.{arith}
use mathlib.Core.Bool.{Bool, true, false, cond}
use lib.Dec.{ltb}
use borrow.Author.Tests.{ne_eqb, lt-ltb, le-ltb, le-leb, lt-leb}
use lib.ListN.{length, take, drop, set, get_or, length-drop, drop_of_length-le}
use lib.Seq.{set_split, take_all, take-suc, drop-cons, drop-drop, set_at, append_snoc, length-take-le}
use borrow.Rule.Slice.PartMut.{put_mid}
use Rattle.token.specs.Regex.{bytes as ascii}
use Rattle.ast.specs.Column as C
use Rattle.ast.specs.Records.{comment_width, node_width, no_parent, room}
use Rattle.records.specs.Table as V
use Rattle.records.specs.Table.{own_at}
use Rattle.cursor.specs.declared.Cursor.{Cursor}
use Rattle.cursor.specs.Onto.{Reached, reached, then, ◌⨟◌, stay, number_at, kind_at, parent_at, pass_node, pass_comment, put_out, say_out, part_out, token_out, spaces_out, comment_out, comments_from, comments_out}

-- ---- what the view of the tables gives, by this crate's definitions

module _ (w : ℕ) (t : List ℕ) (r : ℕ) where
  -- a number that each record has
  pub number_in : (k : ℕ) → k < w → V.number_at w t r k ≡ number_at w t r k
  unfolding number_at V.number_at
  number_in k h = rw (lt-leb w k h)

  -- a number that a record may have
  pub number_there : (k : ℕ) → own_at w t r k ≡ number_at w t r k
  unfolding number_at own_at V.number_at
  number_there k = refl

  pub parent_there : C.Parent < w → V.parent_at w t (room w t) r ≡ parent_at w t (room w t) r
  unfolding parent_at V.parent_at
  parent_there h = ap (λ (n : ℕ). cond (ltb r (room w t)) n no_parent) (number_in C.Parent h)

pub kind_there : (t : List ℕ) (r : ℕ) → V.kind_at t (room node_width t) r ≡ kind_at t (room node_width t) r
unfolding kind_at V.kind_at node_width
kind_there t r = ap (λ (n : ℕ). cond (ltb r (room node_width t)) n 0) (number_in node_width t r 0 (omega arith))

-- ---- copy

abbrev pub copied : ℕ → List ℕ → List ℕ → List ℕ
copied i b o = take i b ++ drop i o

pub copy_step : (i : ℕ) (b o out : List ℕ) → length b ≤ length o → i < length b → out ≡ copied i b o → set out i (get_or b i 0) ≡ copied (i + 1) b o
copy_step i b o out h l e =
    let n : i + 1 ≡ suc i = omega arith in
    let k : i < length o = omega arith in
    rw (e, n, take-suc b i 0 l, drop-cons o i 0 k)
    (set_at (take i b) (get_or o i 0) (drop (suc i) o) (get_or b i 0) i (length-take-le i b (omega arith))
    ∙ sym (append_snoc (take i b) (get_or b i 0) (drop (suc i) o)))

pub copy_done : (i : ℕ) (b o out : List ℕ) → i ≤ length b → length b ≤ i → out ≡ copied i b o → out ≡ b ++ drop (length b) o
copy_done i b o out h l e = let n : i ≡ length b = omega arith in e ∙ rw (n, take_all (length b) b (omega arith))

-- ---- put

module _ (b : List ℕ) (p : Cursor) (o : List ℕ) where
  lent : (v : List ℕ) → v ≡ b ++ drop (length b) (take (length o - p.length) (drop p.length o))
      → put_mid p.length (length o - p.length) o v ≡ take p.length o ++ (b ++ drop (p.length + length b) o)
  lent v e =
      let n : length (drop p.length o) ≤ length o - p.length = omega (arith, length-drop p.length o) in
      rw (e, take_all (length o - p.length) (drop p.length o) n, drop_of_length-le (drop p.length o) n, append-nil, drop-drop (length b) p.length o)

  pub put_in : (v : List ℕ) → p.length + length b ≤ length o
      → v ≡ b ++ drop (length b) (take (length o - p.length) (drop p.length o))
      → reached (record { node = p.node; comment = p.comment; length = p.length + length b }) (put_mid p.length (length o - p.length) o v) ≡ put_out b p o
  unfolding put_out
  put_in v h e = rw (le-leb (p.length + length b) (length o) h, lent v e)

  pub put_past : length o < p.length + length b → reached (record { node = p.node; comment = p.comment; length = length o + 1 }) o ≡ put_out b p o
  unfolding put_out
  put_past h = rw (lt-leb (p.length + length b) (length o) h)

-- ---- spaces

-- a cursor, with so many bytes printed
abbrev pub up_to : Cursor → ℕ → Cursor
up_to p l = record { node = p.node; comment = p.comment; length = l }

module _ (p : Cursor) (l : ℕ) (o : List ℕ) where
  one_space : l < length o → put_out (32 ∷ []) (up_to p l) o ≡ reached (up_to p (l + 1)) (set o l 32)
  unfolding put_out
  one_space h =
      let e : l + 1 ≡ suc l = omega arith in
      rw (le-leb (l + 1) (length o) (omega arith), set_split o l 32 h, e)

  no_space : length o ≤ l → put_out (32 ∷ []) (up_to p l) o ≡ reached (up_to p (length o + 1)) o
  unfolding put_out
  no_space h = rw (lt-leb (l + 1) (length o) (omega arith))

pub spaces_all : (n : ℕ) (p : Cursor) (o : List ℕ) → spaces_out n p o ≡ spaces_out (n - 0) (up_to p p.length) o
spaces_all n p o = ap (λ (k : ℕ). spaces_out k p o) (omega arith)

spaces_over : (p : Cursor) (n : ℕ) (o : List ℕ) → spaces_out n (up_to p (length o + 1)) o ≡ reached (up_to p (length o + 1)) o
unfolding spaces_out stay say_out ascii then
spaces_over p zero o = refl
spaces_over p (suc n) o = rw (no_space p (length o + 1) o (omega arith)) (spaces_over p n o)

module _ (Z : Reached) (n i : ℕ) (p : Cursor) (l : ℕ) (o : List ℕ) (v : Z ≡ spaces_out (n - i) (up_to p l) o) where
  pub spaces_none : n ≤ i → reached (up_to p l) o ≡ Z
  unfolding spaces_out stay
  spaces_none h = let e : n - i ≡ 0 = omega arith in sym (v ∙ ap (λ (k : ℕ). spaces_out k (up_to p l) o) e)

  spaces_one : i < n → Z ≡ then (put_out (32 ∷ []) (up_to p l) o) (spaces_out (n - (i + 1)))
  unfolding spaces_out say_out ascii
  spaces_one h = let e : n - i ≡ suc (n - (i + 1)) = omega arith in v ∙ ap (λ (k : ℕ). spaces_out k (up_to p l) o) e

  pub spaces_turn : i < n → l < length o → Z ≡ spaces_out (n - (i + 1)) (up_to p (l + 1)) (set o l 32)
  unfolding then
  spaces_turn h k = spaces_one h ∙ ap (λ (x : Reached). then x (spaces_out (n - (i + 1)))) (one_space p l o k)

  pub spaces_full : i < n → length o ≤ l → reached (up_to p (length o + 1)) o ≡ Z
  unfolding then
  spaces_full h k = sym (spaces_one h ∙ ap (λ (x : Reached). then x (spaces_out (n - (i + 1)))) (no_space p l o k) ∙ spaces_over p (n - (i + 1)) o)

-- ---- put_part

module _ (text : List ℕ) (a b : ℕ) (p : Cursor) (o : List ℕ) where
  both : (x : Bool) → reached p o ≡ cond x (reached p o) (reached p o)
  both true = refl
  both false = refl

  pub part_none : (b < a) ⊎ (length text < b) → reached p o ≡ part_out text a b p o
  unfolding part_out
  part_none (inl h) = rw (lt-ltb _ _ h) (both (ltb (length text) b))
  part_none (inr h) = rw (lt-ltb _ _ h)

  pub part_in : (i : Reached) → b ≤ length text → a ≤ b → i ≡ put_out (take (b - a) (drop a text)) p o → i ≡ part_out text a b p o
  unfolding part_out
  part_in i h l e = rw (le-ltb _ _ h, le-ltb _ _ l) e

-- ---- put_token and put_comment

module _ (text t : List ℕ) (a b : ℕ) (p : Cursor) (o : List ℕ) where
  pub token_is : a ≡ number_at node_width t p.node C.Start → b ≡ number_at node_width t p.node C.End →
      token_out text t p o ≡ then (part_out text a b p o) pass_node
  unfolding token_out
  token_is h k = rw (h, k)

  pub comment_is : (indent : ℕ) → a ≡ number_at comment_width t p.comment C.Start → b ≡ number_at comment_width t p.comment C.End →
      comment_out text t indent p o ≡ then (spaces_out indent p o) (part_out text a b ⨟ (say_out "\n" ⨟ pass_comment))
  unfolding comment_out
  comment_is indent h k = rw (h, k)

-- no comment of the next node is ahead
pub comments_nothing : (text comments : List ℕ) (total indent : ℕ) (p : Cursor) (o : List ℕ) {x : ℕ} → x ≡ parent_at comment_width comments total p.comment → (x ≡ p.node → ⊥) →
    comments_out text comments total p.node indent p o ≡ reached p o
unfolding comments_out comments_from
comments_nothing text comments zero indent p o e h = refl
comments_nothing text comments (suc n) indent p o {x} e h = rw (sym e, ne_eqb x p.node h)
