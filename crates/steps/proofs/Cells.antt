-- Laws of a table's numbers: what the stores of a record write, and what is left to wipe.
use mathlib.Core.Path.{◌≡◌, refl, sym, ap, ◌∙◌}
use mathlib.Core.List.{List, [], ◌∷◌, ◌++◌, append_assoc}
use mathlib.Core.Bool.{Bool, true, false, cond}
use Prim.Native.Nat.{ℕ, min, suc, ◌+◌, ◌*◌, ◌-◌, ◌/◌, ◌≤◌, ◌<◌}
use native.Mathlib.Omega.{arith}
use borrow.Author.Tests.{le-leb, lt-leb, leb-true, leb-false, ltb-true, ltb-false}
use lib.Dec.{leb, ltb}
use lib.ListN.{length, take, drop, set, get_or, length-append, length-drop}
use lib.Seq.{sets-eq, set_at, drop-cons, length-take-le}
use Rattle.lexer.specs.declared.location.LOC.{LOC}
use Rattle.ast.specs.Column.{Past}
use Rattle.ast.specs.Records.{comment_width, node_width, row, node_row, room, cleared}
use Rattle.ast.specs.Clear.{Cleared}
use Rattle.ast.proofs.ClearLaws.{cleared_by}
use Rattle.ast.proofs.Counts.{Wide, node_row_width}
use Rattle.steps.specs.declared.packed.Range.{Range}
use Rattle.steps.specs.Packed.{unpacked, unpacked_loc}
use Rattle.steps.specs.Into.{put_row, put, put_owner, wiped, sum, rest_at}

-- nine stores in a row
stores : (at k p f a b c d e g : ℕ) (t : List ℕ) → at + 9 ≤ length t
    → set (set (set (set (set (set (set (set (set t at k) (at + 1) p) (at + 2) f) (at + 3) a) (at + 4) b) (at + 5) c) (at + 6) d) (at + 7) e) (at + 8) g
    ≡ take at t ++ ((k ∷ p ∷ f ∷ a ∷ b ∷ c ∷ d ∷ e ∷ g ∷ []) ++ drop (at + 9) t)
stores at k p f a b c d e g t h =
    let e1 : at + 1 ≡ suc at = omega arith in
    let e2 : at + 2 ≡ suc (suc at) = omega arith in
    let e3 : at + 3 ≡ suc (suc (suc at)) = omega arith in
    let e4 : at + 4 ≡ suc (suc (suc (suc at))) = omega arith in
    let e5 : at + 5 ≡ suc (suc (suc (suc (suc at)))) = omega arith in
    let e6 : at + 6 ≡ suc (suc (suc (suc (suc (suc at))))) = omega arith in
    let e7 : at + 7 ≡ suc (suc (suc (suc (suc (suc (suc at)))))) = omega arith in
    let e8 : at + 8 ≡ suc (suc (suc (suc (suc (suc (suc (suc at))))))) = omega arith in
    rw (e1, e2, e3, e4, e5, e6, e7, e8) (sets-eq (k ∷ p ∷ f ∷ a ∷ b ∷ c ∷ d ∷ e ∷ g ∷ []) t at h ∙ append_assoc (take at t) _ _)

-- they are a row
pub row_on : (at k p f : ℕ) (l : Range) (t : List ℕ) → at + comment_width ≤ length t
    → let head = set (set (set t at k) (at + 1) p) (at + 2) f in
    let s = unpacked l.start in
    let e = unpacked l.end in
    let starts = set (set (set head (at + 3) s.index) (at + 4) s.line) (at + 5) s.column in
    set (set (set starts (at + 6) e.index) (at + 7) e.line) (at + 8) e.column ≡ put_row at (row k p f (unpacked_loc l)) t
unfolding put_row row comment_width
row_on at k p f l t h = stores at k p f _ _ _ _ _ _ t h

pub row_kept : (at : ℕ) (r t : List ℕ) → at + length r ≤ length t → length (put_row at r t) ≡ length t
unfolding put_row
row_kept at r t h =
    omega (
      arith,
      length-append (take at t) (r ++ drop (at + length r) t),
      length-append r (drop (at + length r) t),
      length-take-le at t (omega (arith, h)),
      length-drop (at + length r) t,
    )

-- a number behind a row
behind_row : (at : ℕ) (r t : List ℕ) (e : ℕ) → at + length r < length t → set (put_row at r t) (at + length r) e ≡ put_row at (r ++ e ∷ []) t
unfolding put_row
behind_row at r t e h =
    let i = at + length r in
    let a = take at t ++ r in
    let n : at + length (r ++ e ∷ []) ≡ suc i = omega (arith, length-append r (e ∷ [])) in
    let f : take at t ++ (r ++ drop i t) ≡ a ++ get_or t i 0 ∷ drop (suc i) t =
    sym (append_assoc (take at t) r (drop i t)) ∙ ap (λ (x : List ℕ). a ++ x) (drop-cons t i 0 h) in
    rw (f, n, append_assoc r (e ∷ []) (drop (suc i) t))
    (set_at a (get_or t i 0) (drop (suc i) t) e i (omega (arith, length-append (take at t) r, length-take-le at t (omega (arith, h))))
    ∙ append_assoc (take at t) r (e ∷ drop (suc i) t))

-- a record of a table that holds it, and of one that does not
pub put_off : (w i : ℕ) (r t : List ℕ) → length t / w ≤ i → t ≡ put w i r t
unfolding put room
put_off w i r t h = rw (le-leb _ _ h)

pub put_on : (w i : ℕ) (r t : List ℕ) → Wide w r → i < length t / w → put_row (i * w) r t ≡ put w i r t
unfolding put put_row room
put_on w i r t wide h = rw (lt-leb _ _ h, wide)

pub node_on : (i k p f : ℕ) (l : LOC) (e : ℕ) (t : List ℕ) → i < length t / node_width
    → set (put_row (i * node_width) (row k p f l) t) (i * node_width + Past) e ≡ put node_width i (node_row k p f l e) t
unfolding node_row row node_width
node_on i k p f l e t h =
    behind_row (i * node_width) (row k p f l) t e (omega (arith, h)) ∙ put_on node_width i (node_row k p f l e) t (node_row_width k p f l e) h

-- the owner of a comment record
module _ (i : ℕ) where
  pub owner_off : (p : ℕ) (t : List ℕ) → length t / comment_width ≤ i → t ≡ put_owner i p t
  unfolding put_owner room
  owner_off p t h = rw (le-leb _ _ h)

  pub owner_on : (p : ℕ) (t : List ℕ) → i < length t / comment_width → set t (i * comment_width + 1) p ≡ put_owner i p t
  unfolding put_owner room
  owner_on p t h = rw (lt-leb _ _ h)

pub wipe_all : (t : List ℕ) → wiped 0 t ≡ cleared t
unfolding wiped cleared
wipe_all t = let n : length t - 0 ≡ length t = omega arith in rw n

-- what clear leaves
pub clears : (n : ℕ) (l l' : List ℕ) → Cleared (λ z. z ≡ 0) n l l' → l' ≡ wiped n l
unfolding wiped
clears n l l' c = cleared_by 0 n l l' c

pub sum_least : (a b : ℕ) → b ≤ 4294967295 → min (a + b) 4294967295 ≡ sum a b
unfolding sum
sum_least a b h = go (leb a (4294967295 - b)) refl
  where
    go : (t : Bool) → leb a (4294967295 - b) ≡ t → min (a + b) 4294967295 ≡ cond t (a + b) 4294967295
    go true e = omega (arith, leb-true a (4294967295 - b) e)
    go false e = omega (arith, leb-false a (4294967295 - b) e)

pub rest_least : (at len : ℕ) → min at len ≡ rest_at at len
unfolding rest_at
rest_least at len = go (ltb at len) refl
  where
    go : (t : Bool) → ltb at len ≡ t → min at len ≡ cond t at len
    go true e = omega (arith, ltb-true at len e)
    go false e = omega (arith, ltb-false at len e)
