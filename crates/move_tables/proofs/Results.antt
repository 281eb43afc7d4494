-- What the code's steps make, said of a table's records.
--     parents_are    the parents by number are those of the records
--     tenth_found, tenth_missing    the walk over `lower_bad` finds the first bad tenth number, or none
--     narrow_is      the copy of a table of ten numbers is its records narrowed
--     widen_is       the copy of a table of nine, with the tenth numbers that the walk writes, is its records widened
use mathlib.Core.Path.{◌≡◌, refl, sym, ap, ◌∙◌}
use Rattle.std.specs.Prelude.{Option, Some, None}
use mathlib.Core.Bool.{Bool, true, false, cond}
use mathlib.Core.List.{List, [], ◌∷◌, ◌++◌}
use mathlib.Core.Logic.{◌⊎◌, ⊎_elim, inl, inr}
use Prim.Native.Nat.{ℕ, zero, suc, ◌+◌, ◌*◌, ◌-◌, ◌/◌, ◌%◌, ◌≤◌, ◌<◌}
use native.Mathlib.Omega.{arith}
use native.Mathlib.Nat.{div-lt_iff_lt-mul, mod-lt, div-add-mod'}
use borrow.Author.Tests.{eq-eqb, ne_eqb, eqb-true, eqb-false, ltb-true, ltb-false}
use lib.Dec.{eqb, ltb}
use lib.ListN.{length, take, drop, get_or, replicate, length-append, length-replicate, get_or-replicate, length-set, length-drop, get_or-append}
use lib.Seq.{get_or-take, get_or-drop, drop-drop, get_or-append-add, ext_get_or, get_or_at, get_or-set_same, get_or-set_other, length-take-le}
use Rattle.ast.specs.Lists.{All, anil, acons}
use Rattle.ast.specs.Column.{Parent, Past}
use Rattle.ast.specs.Records.{comment_width, node_width, no_parent, room, chunks, concat, filled}
use Rattle.ast.proofs.Counts.{Wide, concat_width}
use Rattle.move_tables.specs.Moves.{narrow_width, most_records, records, parents, past, bad_tenth, narrowed, widened}
use Rattle.move_tables.specs.Walk.{parent_in, parents_from, lower_bad, writes, walk, Good, Placed}
use Rattle.move_tables.proofs.Lists.{chunks_count}
use Rattle.move_tables.proofs.Back.{narrowed_count, widened_count}
use Rattle.move_tables.proofs.WalkLaws.{past_of, walked}

pub behind : (w n : ℕ) (t : List ℕ) → drop w (drop (n * w) t) ≡ drop (suc n * w) t
behind w n t = let e : n * w + w ≡ suc n * w = omega arith in drop-drop w (n * w) t ∙ ap (λ (m : ℕ). drop m t) e

pub chunk_parents : (w : ℕ) (t : List ℕ) (k n : ℕ) → Parent < w → parents (chunks w k (drop (n * w) t)) ≡ parents_from w t k n
unfolding parents chunks parents_from parent_in
chunk_parents w t zero n h = refl
chunk_parents w t (suc k) n h =
    rw (get_or-take w (drop (n * w) t) Parent 0 h, get_or-drop (n * w) t Parent 0, behind w n t, chunk_parents w t k (suc n) h)

pub parents_are : (w : ℕ) (t : List ℕ) → Parent < w → parents (records w t) ≡ parents_from w t (length t / w) 0
unfolding records room
parents_are w t h =
    let e : 0 * w ≡ 0 = omega arith in
    ap (λ (m : ℕ). parents (chunks w (length t / w) (drop m t))) (sym e) ∙ chunk_parents w t (length t / w) 0 h

-- ---- tenth numbers

below : (n r : ℕ) → r ≡ no_parent → n < most_records → n < r
unfolding no_parent
below n r q h = omega (arith, q, h)

abbrev tenth : List ℕ → ℕ → ℕ
tenth t a = get_or t (a * node_width + Past) 0

module _ (t : List ℕ) (count : ℕ) (few : count ≤ most_records) where
  abbrev Fine : ℕ → Type 0
  Fine a = tenth t a ≡ past_of node_width t count a

  -- r is the first bad one from n on, or there is none
  abbrev First : ℕ → ℕ → Type 0
  First n r = (r ≡ no_parent) ⊎ ((n ≤ r) × (r < count) × (Fine r → ⊥))

  test : (k n : ℕ) → n + suc k ≡ count →
      bad_tenth n (chunks node_width (suc k) (drop (n * node_width) t)) ≡ cond (eqb (tenth t n) (past_of node_width t count n)) (bad_tenth (suc n) (chunks node_width k (drop (suc n * node_width) t))) (Some n)
  unfolding bad_tenth chunks past_of node_width
  test k n e =
      let y : count - suc n ≡ k = omega arith in
      rw (get_or-take node_width (drop (n * node_width) t) Past 0 (omega arith), get_or-drop (n * node_width) t Past 0, behind node_width n t, chunk_parents node_width t k (suc n) (omega arith), y)

  -- a record's number, or none
  unfoldable seen : ℕ → Option ℕ
  seen r = cond (eqb r no_parent) None (Some r)

  first_tenth : (k n r : ℕ) → n + k ≡ count → ((a : ℕ) → n ≤ a → a < count → a < r → Fine a) → First n r → bad_tenth n (chunks node_width k (drop (n * node_width) t)) ≡ seen r
  unfolding seen bad_tenth chunks no_parent
  first_tenth zero n r e g f = ⊎_elim (λ q. rw (eq-eqb r no_parent q)) (λ q. absurd (omega (arith, q.0, q.1))) f
  first_tenth (suc k) n r e g f =
      rw (test k n e) (by (eqb (tenth t n) (past_of node_width t count n)) refl (first_tenth k (suc n) r (omega (arith, e)) (λ a h. g a (omega (arith, h)))))
    where
      none_yet : (Fine n → ⊥) → n ≡ r
      none_yet d =
          ⊎_elim (λ q. absurd (d (g n (omega arith) (omega (arith, e)) (less q))))
          (λ q. same (ltb n r) refl q.0 (omega (arith, q.1))) f
        where
          less : r ≡ no_parent → n < r
          less q = below n r q (omega (arith, e, few))

          same : (x : Bool) → ltb n r ≡ x → n ≤ r → r < count → n ≡ r
          same true l h i = absurd (d (g n (omega arith) (omega (arith, e)) (ltb-true n r l)))
          same false l h i = omega (arith, ltb-false n r l)

      onward : Fine n → First (suc n) r
      onward h = ⊎_elim (λ q. inl q) (λ q. inr (after (ltb n r) refl q.0 q.2, q.1, q.2)) f
        where
          after : (x : Bool) → ltb n r ≡ x → n ≤ r → (Fine r → ⊥) → suc n ≤ r
          after true l i d = omega (arith, ltb-true n r l)
          after false l i d = let q : n ≡ r = omega (arith, ltb-false n r l) in absurd (d (rw q at h))

      by : (x : Bool) → eqb (tenth t n) (past_of node_width t count n) ≡ x → (First (suc n) r → bad_tenth (suc n) (chunks node_width k (drop (suc n * node_width) t)) ≡ seen r) →
          cond x (bad_tenth (suc n) (chunks node_width k (drop (suc n * node_width) t))) (Some n) ≡ seen r
      by true h q = q (onward (eqb-true _ _ h))
      by false h q = rw (sym (none_yet (eqb-false _ _ h)), ne_eqb n no_parent (λ d. omega (arith, d, e, few)))

  -- ---- the walk over `lower_bad`

  abbrev Done : ℕ → ℕ → Type 0
  Done a bad = a < bad → Fine a

  abbrev Sound : ℕ → Type 0
  Sound bad = (bad ≡ no_parent) ⊎ ((bad < count) × (Fine bad → ⊥))

  judged : (P : ℕ → Type 0) (a bad : ℕ) → (Fine a → P bad) → ((Fine a → ⊥) → a < bad → P a) → (bad ≤ a → P bad) → P (lower_bad t (past_of node_width t count a) a bad)
  unfolding lower_bad
  judged P a bad x y z = by (eqb (tenth t a) (past_of node_width t count a)) refl (ltb a bad) refl
    where
      by : (b : Bool) → eqb (tenth t a) (past_of node_width t count a) ≡ b → (c : Bool) → ltb a bad ≡ c → P (cond b bad (cond c a bad))
      by true e c d = x (eqb-true _ _ e)
      by false e true d = y (eqb-false _ _ e) (ltb-true _ _ d)
      by false e false d = z (ltb-false _ _ d)

  tenth_is : Good node_width t count → bad_tenth 0 (chunks node_width count t) ≡ seen (walk (lower_bad t) 0 (no_parent ∷ []) (parents_from node_width t count 0) no_parent)
  unfolding node_width
  tenth_is g =
      let o = walked node_width t count few (lower_bad t) Done Sound
      (λ a s h k. judged Sound a s (λ e. k) (λ d l. inr (h, d)) (λ l. k))
      (λ a s h k. judged (λ b. Done a b) a s (λ e l. e) (λ d l i. absurd (omega arith)) (λ l i. absurd (omega arith)))
      (λ a b s h i k d. judged (λ c. Done b c) a s (λ e. d) (λ e l j. d (omega arith)) (λ l. d))
      no_parent g (inl refl) in
      first_tenth count 0 _ (omega arith) (λ a h l i. o.all a l i) (⊎_elim (λ q. inl q) (λ q. inr (omega arith, q.0, q.1)) o.fine)

  module _ (g : Good node_width t count) {r : ℕ} (e : r ≡ walk (lower_bad t) 0 (no_parent ∷ []) (parents_from node_width t count 0) no_parent) where
    pub tenth_missing : r ≡ no_parent → None ≡ bad_tenth 0 (chunks node_width count t)
    unfolding seen
    tenth_missing d = sym (tenth_is g ∙ ap seen (sym e) ∙ rw (eq-eqb r no_parent d))

    pub tenth_found : (r ≡ no_parent → ⊥) → Some r ≡ bad_tenth 0 (chunks node_width count t)
    unfolding seen
    tenth_found d = sym (tenth_is g ∙ ap seen (sym e) ∙ rw (ne_eqb r no_parent d))

-- ---- the output

rows_at_law : {w : ℕ} {rs : List (List ℕ)} → All (Wide w) rs → (i j : ℕ) → i < length rs → j < w → get_or (concat rs) (i * w + j) 0 ≡ get_or (get_or rs i []) j 0
unfolding concat
rows_at_law anil i j h g = absurd (omega arith)
rows_at_law {w} (acons {x = r} {xs = rs} e es) zero j h g = let z : 0 * w + j ≡ j = omega arith in rw z (get_or-append r (concat rs) 0 j (omega (arith, e, g)))
rows_at_law {w} (acons {x = r} {xs = rs} e es) (suc i) j h g =
    let z : suc i * w + j ≡ length r + (i * w + j) = omega (arith, e) in
    rw z (get_or-append-add r (concat rs) (i * w + j) 0 ∙ rows_at_law es i j (omega (arith, h)) g)

pub chunk_at : (w n i : ℕ) (t : List ℕ) → i < n → get_or (chunks w n t) i [] ≡ take w (drop (i * w) t)
unfolding chunks
chunk_at w zero i t h = absurd (omega arith)
chunk_at w (suc n) zero t h = let z : 0 * w ≡ 0 = omega arith in rw z
chunk_at w (suc n) (suc i) t h =
    let z : w + i * w ≡ suc i * w = omega arith in
    chunk_at w n i (drop w t) (omega (arith, h)) ∙ ap (take w) (drop-drop (i * w) w t ∙ ap (λ (m : ℕ). drop m t) z)

narrowed_at : (rs : List (List ℕ)) (i : ℕ) → i < length rs → get_or (narrowed rs) i [] ≡ take narrow_width (get_or rs i [])
unfolding narrowed
narrowed_at [] i h = absurd (omega arith)
narrowed_at (r ∷ rs) zero h = refl
narrowed_at (r ∷ rs) (suc i) h = narrowed_at rs i (omega (arith, h))

-- an output is the records and 0 past them if each of its numbers is
module _ {w : ℕ} {rs : List (List ℕ)} (wide : All (Wide w) rs) (pos : 0 < w) where
  pub output_is : (out after : List ℕ) → length after ≡ length out → length rs * w ≤ length out →
      ((i j : ℕ) → i < length rs → j < w → get_or after (i * w + j) 0 ≡ get_or (get_or rs i []) j 0) →
      ((k : ℕ) → length rs * w ≤ k → k < length out → get_or after k 0 ≡ 0) →
      after ≡ filled rs out
  unfolding filled
  output_is out after long room each past =
      let l : length (concat rs) ≡ length rs * w = concat_width wide in
      let z = length-replicate {A = ℕ} (length out - length (concat rs)) 0 in
      let y = length-append (concat rs) (replicate (length out - length (concat rs)) 0) in
      let s : length after ≡ length (concat rs ++ replicate (length out - length (concat rs)) 0) = omega arith in
      ext_get_or 0 after (concat rs ++ replicate (length out - length (concat rs)) 0) s (λ k h. by k h (ltb k (length rs * w)) refl)
    where
      inner : (k : ℕ) → k < length rs * w → get_or after k 0 ≡ get_or (concat rs) k 0
      inner k h =
          let i : k / w < length rs = (div-lt_iff_lt-mul pos).1 h in
          let j : k % w < w = mod-lt k pos in
          let e : k / w * w + k % w ≡ k = div-add-mod' k w in
          rw e at (each (k / w) (k % w) i j ∙ sym (rows_at_law wide (k / w) (k % w) i j))

      by : (k : ℕ) → k < length after → (b : Bool) → ltb k (length rs * w) ≡ b → get_or after k 0 ≡ get_or (concat rs ++ replicate (length out - length (concat rs)) 0) k 0
      by k h true e =
          let g = ltb-true k (length rs * w) e in
          let l : length (concat rs) ≡ length rs * w = concat_width wide in
          inner k g ∙ sym (get_or-append (concat rs) _ 0 k (omega arith))
      by k h false e =
          let g = ltb-false k (length rs * w) e in
          let l : length (concat rs) ≡ length rs * w = concat_width wide in
          let z : k ≡ length (concat rs) + (k - length (concat rs)) = omega arith in
          past k g (omega arith) ∙ sym (ap (λ (m : ℕ). get_or (concat rs ++ replicate (length out - length (concat rs)) 0) m 0) z ∙ get_or-append-add (concat rs) _ (k - length (concat rs)) 0
          ∙ get_or-replicate (length out - length (concat rs)) (k - length (concat rs)) 0 0 (omega arith))

-- ---- narrowed

module _ (t : List ℕ) (count : ℕ) where
  narrowed_length : length (narrowed (chunks node_width count t)) ≡ count
  narrowed_length = narrowed_count (chunks node_width count t) ∙ chunks_count node_width count t

  narrowed_number : (i j : ℕ) → i < count → j < narrow_width → get_or (get_or (narrowed (chunks node_width count t)) i []) j 0 ≡ get_or t (i * node_width + j) 0
  unfolding comment_width node_width
  narrowed_number i j h g =
      let l = chunks_count node_width count t in
      rw (narrowed_at (chunks node_width count t) i (omega arith), chunk_at node_width count i t h, get_or-take narrow_width (take node_width (drop (i * node_width) t)) j 0 g, get_or-take node_width (drop (i * node_width) t) j 0 (omega arith), get_or-drop (i * node_width) t j 0)

  pub narrow_is : (out after : List ℕ) → All (Wide narrow_width) (narrowed (chunks node_width count t)) → count * narrow_width ≤ length out → Placed t node_width narrow_width count out after → after ≡ filled (narrowed (chunks node_width count t)) out
  unfolding comment_width
  narrow_is out after wide room c =
      let l = narrowed_length in
      output_is wide (omega arith) out after c.long (rw l room)
      (λ i j h g. let b : i < count = omega arith in c.each i j b g ∙ sym (narrowed_number i j b g))
      (λ k h g. c.past k (omega arith) g)

-- ---- widened

other_cell : (a b : ℕ) (s : List ℕ) (x : ℕ) → (a ≡ b → ⊥) → get_or (writes x a s) (b * node_width + Past) 0 ≡ get_or s (b * node_width + Past) 0
unfolding writes node_width
other_cell a b s x d = get_or-set_other s (a * node_width + Past) (b * node_width + Past) x 0 (λ q. d (let e : a ≡ b = omega arith in e))

chunk_drop : (w n i : ℕ) (t : List ℕ) → i ≤ n → drop i (chunks w n t) ≡ chunks w (n - i) (drop (i * w) t)
unfolding chunks
chunk_drop w n zero t h =
    let z : 0 * w ≡ 0 = omega arith in
    let y : n - 0 ≡ n = omega arith in
    rw (z, y)
chunk_drop w zero (suc i) t h = absurd (omega arith)
chunk_drop w (suc n) (suc i) t h =
    let z : w + i * w ≡ suc i * w = omega arith in
    let y : suc n - suc i ≡ n - i = omega arith in
    rw y (chunk_drop w n i (drop w t) (omega (arith, h)) ∙ ap (chunks w (n - i)) (drop-drop (i * w) w t ∙ ap (λ (m : ℕ). drop m t) z))

widened_at : (n i : ℕ) (rs : List (List ℕ)) → i < length rs → get_or (widened n rs) i [] ≡ get_or rs i [] ++ (past (n + i) (suc (n + i)) (parents (drop (suc i) rs)) ∷ [])
unfolding widened
widened_at n i [] h = absurd (omega arith)
widened_at n zero (r ∷ rs) h = let z : n + 0 ≡ n = omega arith in rw z
widened_at n (suc i) (r ∷ rs) h = let z : n + suc i ≡ suc n + i = omega arith in rw z (widened_at (suc n) i rs (omega (arith, h)))

module _ (t : List ℕ) (count : ℕ) (few : count ≤ most_records) (within : count * narrow_width ≤ length t) where
  widened_length : length (widened 0 (chunks narrow_width count t)) ≡ count
  widened_length = widened_count 0 (chunks narrow_width count t) ∙ chunks_count narrow_width count t

  row_length : (i : ℕ) → i < count → length (take narrow_width (drop (i * narrow_width) t)) ≡ narrow_width
  unfolding comment_width
  row_length i h = length-take-le narrow_width (drop (i * narrow_width) t) (omega (arith, length-drop (i * narrow_width) t))

  widened_row : (i : ℕ) → i < count → get_or (widened 0 (chunks narrow_width count t)) i [] ≡ take narrow_width (drop (i * narrow_width) t) ++ (past_of narrow_width t count i ∷ [])
  unfolding past_of comment_width
  widened_row i h =
      let l = chunks_count narrow_width count t in
      let z : 0 + i ≡ i = omega arith in
      widened_at 0 i (chunks narrow_width count t) (omega arith)
      ∙ rw (z, chunk_at narrow_width count i t h, chunk_drop narrow_width count (suc i) t (omega arith), chunk_parents narrow_width t (count - suc i) (suc i) (omega arith))

  widened_number : (i j : ℕ) → i < count → j < narrow_width → get_or (get_or (widened 0 (chunks narrow_width count t)) i []) j 0 ≡ get_or t (i * narrow_width + j) 0
  widened_number i j h g =
      let l = row_length i h in
      rw (widened_row i h, get_or-append (take narrow_width (drop (i * narrow_width) t)) (past_of narrow_width t count i ∷ []) 0 j (omega arith), get_or-take narrow_width (drop (i * narrow_width) t) j 0 g, get_or-drop (i * narrow_width) t j 0)

  widened_tenth : (i : ℕ) → i < count → get_or (get_or (widened 0 (chunks narrow_width count t)) i []) Past 0 ≡ past_of narrow_width t count i
  unfolding comment_width
  widened_tenth i h = rw (widened_row i h) (get_or_at (take narrow_width (drop (i * narrow_width) t)) (past_of narrow_width t count i) [] 0 Past (row_length i h))

  module _ (mid : List ℕ) (long : count * node_width ≤ length mid) where
    abbrev Wrote : ℕ → List ℕ → Type 0
    Wrote a s = get_or s (a * node_width + Past) 0 ≡ past_of narrow_width t count a

    abbrev Kept : List ℕ → Type 0
    Kept s = (length s ≡ length mid) × ((k : ℕ) → ((a : ℕ) → a < count → k ≡ a * node_width + Past → ⊥) → get_or s k 0 ≡ get_or mid k 0)

    kept_on : (a : ℕ) (s : List ℕ) → a < count → Kept s → Kept (writes (past_of narrow_width t count a) a s)
    unfolding writes
    kept_on a s h k = (length-set s (a * node_width + Past) (past_of narrow_width t count a) ∙ k.0, λ i d. get_or-set_other s (a * node_width + Past) i (past_of narrow_width t count a) 0 (d a h) ∙ k.1 i d)

    wrote_one : (a : ℕ) (s : List ℕ) → a < count → Kept s → Wrote a (writes (past_of narrow_width t count a) a s)
    unfolding writes node_width
    wrote_one a s h k = let l = k.0 in get_or-set_same s (a * node_width + Past) (past_of narrow_width t count a) 0 (omega arith)

    wrote_on : (a b : ℕ) (s : List ℕ) → a < count → b < count → Kept s → Wrote b s → Wrote b (writes (past_of narrow_width t count a) a s)
    wrote_on a b s h i k e = by (eqb a b) refl
      where
        other : (a ≡ b → ⊥) → Wrote b (writes (past_of narrow_width t count a) a s)
        other d = other_cell a b s (past_of narrow_width t count a) d ∙ e

        by : (x : Bool) → eqb a b ≡ x → Wrote b (writes (past_of narrow_width t count a) a s)
        by true q = let d : a ≡ b = eqb-true a b q in rw (sym d) (wrote_one a s h k)
        by false q = other (eqb-false a b q)

    pub widen_is : (out : List ℕ) → All (Wide node_width) (widened 0 (chunks narrow_width count t)) → Good narrow_width t count → Placed t narrow_width node_width count out mid →
        walk writes 0 (no_parent ∷ []) (parents_from narrow_width t count 0) mid ≡ filled (widened 0 (chunks narrow_width count t)) out
    unfolding comment_width node_width
    widen_is out wide good c =
        let o = walked narrow_width t count few writes Wrote Kept kept_on wrote_one wrote_on mid good (refl, λ k d. refl) in
        let l = widened_length in
        let m = c.long in
        let e = o.fine.0 in
        output_is wide (omega arith) out _ (e ∙ m) (omega arith)
        (λ i j h g. number_is (walk writes 0 (no_parent ∷ []) (parents_from narrow_width t count 0) mid) out o.fine.1 o.all c i j (omega arith) g)
        (λ k h g. o.fine.1 k (λ a i q. omega arith) ∙ c.past k (omega arith) g)
      where
        number_is : (s out : List ℕ) → ((k : ℕ) → ((a : ℕ) → a < count → k ≡ a * node_width + Past → ⊥) → get_or s k 0 ≡ get_or mid k 0) → ((b : ℕ) → b < count → Wrote b s) → Placed t narrow_width node_width count out mid →
            (i j : ℕ) → i < count → j < node_width → get_or s (i * node_width + j) 0 ≡ get_or (get_or (widened 0 (chunks narrow_width count t)) i []) j 0
        number_is s out kept wrote c i j h g = by (ltb j narrow_width) refl
          where
            by : (x : Bool) → ltb j narrow_width ≡ x → get_or s (i * node_width + j) 0 ≡ get_or (get_or (widened 0 (chunks narrow_width count t)) i []) j 0
            by true q =
                let b = ltb-true j narrow_width q in
                kept (i * node_width + j) (λ a k r. omega arith) ∙ c.each i j h b ∙ sym (widened_number i j h b)
            by false q =
                let b = ltb-false j narrow_width q in
                let z : Past ≡ j = omega arith in
                rw (sym z) (wrote i h ∙ sym (widened_tenth i h))
