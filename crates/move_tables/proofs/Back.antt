-- EACH MOVE IS UNDONE, GIVEN ROOM, BY THE OTHER, for any table.
--     widened_back     a table moved to ten numbers and back is the same table
--     narrowed_back    a table moved to nine numbers and back is the same table
use mathlib.Core.Path.{◌≡◌, refl, sym, ap, ◌∙◌}
use mathlib.Core.Bool.{Bool, true, false, cond}
use mathlib.Core.List.{List, [], ◌∷◌, ◌++◌}
use Rattle.std.specs.Prelude.{Option, Some, None}
use Rattle.std.proofs.lemmas.List.{nil_from_length}
use Rattle.std.proofs.lemmas.Option.{none-some}
use Prim.Native.Nat.{ℕ, suc, ◌*◌, ◌-◌, ◌≤◌}
use native.Mathlib.Omega.{arith}
use borrow.Author.Tests.{eqb-true, eq-eqb, le-ltb}
use lib.Dec.{eqb, ltb}
use lib.ListN.{length, take, drop, get_or, replicate, length-append, get_or-append, take-append-drop, length-drop}
use lib.Seq.{take_at, get_or_at, get_or-take, drop-cons, length-take-le}
use Rattle.ast.specs.Lists.{All, anil, acons}
use Rattle.lexer.specs.Error.{NodesFull, NotMovable}
use Rattle.lexer.specs.Outcome.{Outcome, accepted, refused}
use Rattle.ast.specs.Column.{Past}
use Rattle.ast.specs.Records.{comment_width, node_width, concat, filled}
use Rattle.ast.proofs.Counts.{Wide, concat_width}
use Rattle.move_tables.specs.Moves.{narrow_width, most_records, records, whole, parents, past, bad_tenth, widened, narrowed, unless, first_bad_parent, widening, narrowing, moved, refusing, into, widens, narrows}
use Rattle.move_tables.proofs.Lists.{narrow_width_law, node_width_law, whole_concat, whole_wide, whole_count, concat_records, concat_whole}

-- ---- records

pub widened_parents : {rs : List (List ℕ)} (n : ℕ) → All (Wide narrow_width) rs → parents (widened n rs) ≡ parents rs
unfolding widened parents comment_width
widened_parents n anil = refl
widened_parents n (acons {x = r} {xs = rs} h hs) =
    rw (get_or-append r (past n (suc n) (parents rs) ∷ []) 0 1 (omega (arith, h)), widened_parents (suc n) hs)

pub narrowed_parents : (rs : List (List ℕ)) → parents (narrowed rs) ≡ parents rs
unfolding narrowed parents comment_width
narrowed_parents [] = refl
narrowed_parents (r ∷ rs) = rw (get_or-take narrow_width r 1 0 (omega arith), narrowed_parents rs)

pub widened_wide : {rs : List (List ℕ)} (n : ℕ) → All (Wide narrow_width) rs → All (Wide node_width) (widened n rs)
unfolding widened comment_width node_width
widened_wide n anil = anil
widened_wide n (acons {x = r} {xs = rs} h hs) =
    let e : length (r ++ (past n (suc n) (parents rs) ∷ [])) ≡ node_width = omega (arith, length-append r (past n (suc n) (parents rs) ∷ []), h) in
    acons e (widened_wide (suc n) hs)

pub narrowed_wide : {rs : List (List ℕ)} → All (Wide node_width) rs → All (Wide narrow_width) (narrowed rs)
unfolding narrowed comment_width node_width
narrowed_wide anil = anil
narrowed_wide (acons {x = r} h hs) = acons (length-take-le narrow_width r (omega (arith, h))) (narrowed_wide hs)

pub widened_count : (n : ℕ) (rs : List (List ℕ)) → length (widened n rs) ≡ length rs
unfolding widened
widened_count n [] = refl
widened_count n (r ∷ rs) = ap suc (widened_count (suc n) rs)

pub narrowed_count : (rs : List (List ℕ)) → length (narrowed rs) ≡ length rs
unfolding narrowed
narrowed_count [] = refl
narrowed_count (r ∷ rs) = ap suc (narrowed_count rs)

pub narrowed_widened : {rs : List (List ℕ)} (n : ℕ) → All (Wide narrow_width) rs → narrowed (widened n rs) ≡ rs
unfolding widened narrowed
narrowed_widened n anil = refl
narrowed_widened n (acons {x = r} {xs = rs} h hs) = rw (take_at r (past n (suc n) (parents rs) ∷ []) narrow_width h, narrowed_widened (suc n) hs)

pub widened_tenths : {rs : List (List ℕ)} (n : ℕ) → All (Wide narrow_width) rs → bad_tenth n (widened n rs) ≡ None
unfolding widened bad_tenth comment_width
widened_tenths n anil = refl
widened_tenths n (acons {x = r} {xs = rs} h hs) =
    rw (get_or_at r (past n (suc n) (parents rs)) [] 0 narrow_width h, widened_parents (suc n) hs, eq-eqb (past n (suc n) (parents rs)) _ refl) (widened_tenths (suc n) hs)

ten_split : (r : List ℕ) → length r ≡ node_width → take narrow_width r ++ (get_or r Past 0 ∷ []) ≡ r
unfolding comment_width node_width
ten_split r h =
    let e : drop narrow_width r ≡ get_or r Past 0 ∷ drop node_width r = drop-cons r narrow_width 0 (omega (arith, h)) in
    let n : drop node_width r ≡ [] = nil_from_length (drop node_width r) (omega (arith, length-drop node_width r, h)) in
    sym (sym (take-append-drop narrow_width r) ∙ ap (λ (l : List ℕ). take narrow_width r ++ l) (e ∙ ap (λ (l : List ℕ). get_or r Past 0 ∷ l) n))

narrowed_back_rows : {rs : List (List ℕ)} (n : ℕ) → All (Wide node_width) rs → bad_tenth n rs ≡ None → widened n (narrowed rs) ≡ rs
unfolding widened narrowed bad_tenth comment_width
narrowed_back_rows n anil e = refl
narrowed_back_rows n (acons {x = r} {xs = rs} h hs) e =
    by (eqb (get_or r Past 0) (past n (suc n) (parents rs))) refl e (narrowed_back_rows (suc n) hs)
  where
    by : (b : Bool) → eqb (get_or r Past 0) (past n (suc n) (parents rs)) ≡ b → cond b (bad_tenth (suc n) rs) (Some n) ≡ None →
        (bad_tenth (suc n) rs ≡ None → widened (suc n) (narrowed rs) ≡ rs) → widened n (narrowed (r ∷ rs)) ≡ r ∷ rs
    by true g k q = rw (narrowed_parents rs, sym (eqb-true (get_or r Past 0) (past n (suc n) (parents rs)) g), ten_split r h, q k)
    by false g k q = absurd (none-some n (sym k))

-- ---- outcomes

pub not_accepted : {A : Type 0} {e p n : ℕ} {a : A} → refused e p n ≡ accepted a → ⊥
not_accepted x = let z : ◌≡◌ {A = ℕ} 0 1 = cc in omega arith

unless_none : (o : Option ℕ) (x : Outcome (List (List ℕ))) {rs : List (List ℕ)} → unless o x ≡ accepted rs → (o ≡ None) × (x ≡ accepted rs)
unfolding unless
unless_none None x e = (refl, e)
unless_none (Some n) x e = absurd (not_accepted e)

cond_moved : (b : Bool) (x : Outcome (List (List ℕ))) {rs : List (List ℕ)} → cond b x (refused NotMovable 0 0) ≡ accepted rs → (b ≡ true) × (x ≡ accepted rs)
cond_moved true x e = (refl, e)
cond_moved false x e = absurd (not_accepted e)

-- a table of nine numbers that is moved
pub record Wider (t : List ℕ) (rs : List (List ℕ)) : Type 0 where
  pub fits : whole narrow_width t ≡ true
  pub good : first_bad_parent (records narrow_width t) ≡ None
  pub are : rs ≡ widened 0 (records narrow_width t)

-- a table of ten
pub record Narrower (t : List ℕ) (rs : List (List ℕ)) : Type 0 where
  pub fits : whole node_width t ≡ true
  pub good : first_bad_parent (records node_width t) ≡ None
  pub tenths : bad_tenth 0 (records node_width t) ≡ None
  pub are : rs ≡ narrowed (records node_width t)

pub widening_moved : (t : List ℕ) (rs : List (List ℕ)) → widening t ≡ accepted rs → Wider t rs
unfolding widening
widening_moved t rs e =
    let a = cond_moved (whole narrow_width t) _ e in
    let b = unless_none (first_bad_parent (records narrow_width t)) _ a.1 in
    let f : accepted (widened 0 (records narrow_width t)) ≡ accepted rs = b.1 in
    record { fits = a.0; good = b.0; are = cc }

pub narrowing_moved : (t : List ℕ) (rs : List (List ℕ)) → narrowing t ≡ accepted rs → Narrower t rs
unfolding narrowing
narrowing_moved t rs e =
    let a = cond_moved (whole node_width t) _ e in
    let b = unless_none _ _ a.1 in
    let d = unless_none _ _ b.1 in
    let f : accepted (narrowed (records node_width t)) ≡ accepted rs = d.1 in
    record { fits = a.0; good = cc; tenths = cc; are = cc }

-- records that move
pub widening_of : (rs : List (List ℕ)) → All (Wide narrow_width) rs → length rs ≤ most_records → first_bad_parent rs ≡ None → widening (concat rs) ≡ accepted (widened 0 rs)
unfolding widening unless
widening_of rs hs few good = rw (concat_whole narrow_width_law hs few, concat_records narrow_width_law hs, good)

pub narrowing_of : (rs : List (List ℕ)) → All (Wide node_width) rs → length rs ≤ most_records → first_bad_parent rs ≡ None → bad_tenth 0 rs ≡ None → narrowing (concat rs) ≡ accepted (narrowed rs)
unfolding narrowing unless
narrowing_of rs hs few good tenths = rw (concat_whole node_width_law hs few, concat_records node_width_law hs, good, tenths)

pub widening_undone : (t : List ℕ) (rs : List (List ℕ)) → widening t ≡ accepted rs → narrowing (concat rs) ≡ accepted (records narrow_width t)
unfolding first_bad_parent
widening_undone t rs e =
    let m = widening_moved t rs e in
    let hs = whole_wide narrow_width t m.fits in
    let few : length (widened 0 (records narrow_width t)) ≤ most_records = rw (widened_count 0 (records narrow_width t)) (whole_count narrow_width t m.fits) in
    let good : first_bad_parent (widened 0 (records narrow_width t)) ≡ None = rw (widened_parents 0 hs) m.good in
    rw m.are (narrowing_of _ (widened_wide 0 hs) few good (widened_tenths 0 hs) ∙ ap accepted (narrowed_widened 0 hs))

pub narrowing_undone : (t : List ℕ) (rs : List (List ℕ)) → narrowing t ≡ accepted rs → widening (concat rs) ≡ accepted (records node_width t)
unfolding first_bad_parent
narrowing_undone t rs e =
    let m = narrowing_moved t rs e in
    let hs = whole_wide node_width t m.fits in
    let few : length (narrowed (records node_width t)) ≤ most_records = rw (narrowed_count (records node_width t)) (whole_count node_width t m.fits) in
    let good : first_bad_parent (narrowed (records node_width t)) ≡ None = rw (narrowed_parents (records node_width t)) m.good in
    rw m.are (widening_of _ (narrowed_wide hs) few good ∙ ap accepted (narrowed_back_rows 0 hs m.tenths))

-- ---- tables

-- what an accepted move wrote
pub record Wrote (x : Outcome (List (List ℕ))) (out : List ℕ) (n : ℕ) : Type 0 where
  pub rs : List (List ℕ)
  pub are : x ≡ accepted rs
  pub count : n ≡ length rs
  pub left : (into x out).out ≡ filled rs out

pub wrote : (x : Outcome (List (List ℕ))) (out : List ℕ) (n : ℕ) → (into x out).says ≡ accepted (n ∷ []) → Wrote x out n
unfolding into
wrote (refused e p m) out n h = absurd (not_accepted h)
wrote (accepted rs) out n h = by (ltb (length out) (length (concat rs))) refl h
  where
    by : (b : Bool) → ltb (length out) (length (concat rs)) ≡ b → (cond b (refusing NodesFull 0 0 out) (moved (length rs) (filled rs out))).says ≡ accepted (n ∷ []) → Wrote (accepted rs) out n
    by true g k = absurd (not_accepted k)
    by false g k = record { rs = rs; are = refl; count = cc; left = rw g }

pub written : (rs : List (List ℕ)) (out : List ℕ) → length (concat rs) ≤ length out → into (accepted rs) out ≡ moved (length rs) (filled rs out)
unfolding into
written rs out h = rw (le-ltb (length out) (length (concat rs)) h)

-- A TABLE MOVED TO TEN NUMBERS AND BACK, GIVEN ROOM, IS THE SAME TABLE
pub widened_back : (t out : List ℕ) (n : ℕ) → (widens t out).says ≡ accepted (n ∷ []) → (back : List ℕ) → length t ≤ length back →
    narrows (take (n * node_width) (widens t out).out) back ≡ moved n (t ++ replicate (length back - length t) 0)
unfolding widens narrows filled
widened_back t out n e back room =
    let w = wrote (widening t) out n e in
    let m = widening_moved t w.rs w.are in
    let hs = whole_wide narrow_width t m.fits in
    let wide : length (concat w.rs) ≡ n * node_width = rw (m.are, w.count, m.are) (concat_width (widened_wide 0 hs)) in
    let same : concat (records narrow_width t) ≡ t = whole_concat narrow_width t m.fits in
    let front : take (n * node_width) (widens t out).out ≡ concat w.rs = ap (take (n * node_width)) w.left ∙ take_at (concat w.rs) _ (n * node_width) wide in
    let count : length (records narrow_width t) ≡ n = sym (w.count ∙ ap length m.are ∙ widened_count 0 (records narrow_width t)) in
    rw (front, widening_undone t w.rs w.are)
    (written (records narrow_width t) back (rw same room) ∙ rw (count, same))

-- A TABLE MOVED TO NINE NUMBERS AND BACK, GIVEN ROOM, IS THE SAME TABLE
pub narrowed_back : (t out : List ℕ) (n : ℕ) → (narrows t out).says ≡ accepted (n ∷ []) → (back : List ℕ) → length t ≤ length back →
    widens (take (n * narrow_width) (narrows t out).out) back ≡ moved n (t ++ replicate (length back - length t) 0)
unfolding widens narrows filled
narrowed_back t out n e back room =
    let w = wrote (narrowing t) out n e in
    let m = narrowing_moved t w.rs w.are in
    let hs = whole_wide node_width t m.fits in
    let wide : length (concat w.rs) ≡ n * narrow_width = rw (m.are, w.count, m.are) (concat_width (narrowed_wide hs)) in
    let same : concat (records node_width t) ≡ t = whole_concat node_width t m.fits in
    let front : take (n * narrow_width) (narrows t out).out ≡ concat w.rs = ap (take (n * narrow_width)) w.left ∙ take_at (concat w.rs) _ (n * narrow_width) wide in
    let count : length (records node_width t) ≡ n = sym (w.count ∙ ap length m.are ∙ narrowed_count (records node_width t)) in
    rw (front, narrowing_undone t w.rs w.are)
    (written (records node_width t) back (rw same room) ∙ rw (count, same))
