-- A record's ancestors, by the parents of its table.
--     up_same                                      they are the same however many records are looked at
--     left_none, left_on, climb_next               what an iterator over them has left, and where it goes on
--     ancestors_left, before_below                 it has left those before its end, which are below the records looked at
--     none_among, reached                          from ancestor to ancestor in search of p
--     up_from                                      those of p, which is one of them
--     next_parent                                  the parents from a record on begin with its own
--     scan_start, scan_on, scan_bad, scan_done     from record to record, until a parent is bad
use mathlib.Core.Path.{◌≡◌, refl, sym, ap, ◌∙◌}
use Rattle.std.specs.Prelude.{Option, Some, None}
use mathlib.Core.Bool.{Bool, true, false, cond, ◌||◌, or-false}
use mathlib.Core.List.{List, [], ◌∷◌}
use Prim.Native.Nat.{ℕ, zero, suc, ◌+◌, ◌*◌, ◌-◌, ◌≤◌, ◌<◌}
use native.Mathlib.Omega.{arith}
use native.Mathlib.Nat.{mul-le-mul_right}
use borrow.Author.Tests.{eq-eqb, ne_eqb, eqb-true, eqb-false}
use Rattle.std.specs.List.{list_any}
use lib.Dec.{eqb}
use lib.ListN.{length}
use Rattle.ast.specs.Lists.{All, anil, acons}
use Rattle.ast.specs.Records.{no_parent}
use Rattle.move_tables.specs.Moves.{most_records, among, from, bad_parent}
use Rattle.move_tables.specs.Walk.{parent_in, parents_from, up_to, Up, top, up, Holds, Stands, Passes}

-- those before p
unfoldable pub before : ℕ → List ℕ → List ℕ
before p [] = []
before p (a ∷ l) = cond (eqb a p) [] (a ∷ before p l)

-- one step up from record a, which is not p, to p
record Step (w : ℕ) (t : List ℕ) (m p a : ℕ) : Type 0 where
  pub inner : List ℕ
  pub inside : a < m
  pub next : Up w t a (parent_in w t a) inner
  pub has : among p inner ≡ true

eqb_turned : (a b : ℕ) → eqb a b ≡ eqb b a
eqb_turned a b = by (eqb b a) refl
  where
    by : (x : Bool) → eqb b a ≡ x → eqb a b ≡ x
    by true e = eq-eqb a b (sym (eqb-true b a e))
    by false e = ne_eqb a b (λ q. eqb-false b a e (sym q))

any_among : (p : ℕ) (l : List ℕ) → list_any (λ b. eqb b p) l ≡ among p l
unfolding among
any_among p [] = refl
any_among p (a ∷ l) = ap (λ (x : Bool). eqb a p || x) (any_among p l)

-- 4294967295 is among the ancestors of every record
pub none_among : {w : ℕ} {t : List ℕ} {m a : ℕ} {ancestors : List ℕ} → Up w t m a ancestors → among no_parent ancestors ≡ true
unfolding among
none_among (top {a = a} e) = rw (eq-eqb a no_parent e)
none_among (up {a = a} h u) = by (eqb a no_parent) (none_among u)
  where
    by : {b : Bool} (x : Bool) → b ≡ true → (x || b) ≡ true
    by true e = refl
    by false e = e

pub holds_less : {w : ℕ} {t : List ℕ} {m k : ℕ} → k ≤ m → Holds w t m → Holds w t k
holds_less {w} {t} {m} {k} h s =
    let a = s.within in
    let b = s.few in
    let d : k * w ≤ m * w = mul-le-mul_right w h in
    record { wide = s.wide; within = omega arith; few = omega arith }

pub left_none : (w : ℕ) (t : List ℕ) {a p : ℕ} → a ≡ p → up_to (suc a) w t p a ≡ []
unfolding up_to
left_none w t {a} {p} e = rw (eq-eqb a p e)

module _ {w : ℕ} {t : List ℕ} where
  pub up_same : {m m' a : ℕ} {l l' : List ℕ} → m ≤ most_records → m' ≤ most_records → Up w t m a l → Up w t m' a l' → l ≡ l'
  unfolding no_parent
  up_same f g (top e) (top d) = refl
  up_same f g (top e) (up h u) = absurd (omega (arith, e, h, g))
  up_same f g (up h u) (top d) = absurd (omega (arith, d, h, f))
  up_same f g (up {a} h u) (up k v) = ap (λ (l : List ℕ). a ∷ l) (up_same (omega (arith, h, f)) (omega (arith, k, g)) u v)

  pub up_wider : {m n a : ℕ} {l : List ℕ} → m ≤ n → Up w t m a l → Up w t n a l
  up_wider h (top e) = top e
  up_wider {m} {n} h (up {a} k u) = let g : a < n = omega (arith, h, k) in up g u

  -- a is below itself and one
  at_self : {m a : ℕ} {l : List ℕ} → Up w t m a l → Up w t (suc a) a l
  at_self (top e) = top e
  at_self (up {a} h u) = let g : a < suc a = omega arith in up g u

  left_is : {m a : ℕ} {l : List ℕ} (k p : ℕ) → m ≤ k → among p l ≡ true → Up w t m a l → up_to k w t p a ≡ before p l
  unfolding among before up_to
  left_is zero p h g (top {a = a} e) = let q : eqb a p ≡ true = sym (or-false (eqb a p)) ∙ g in rw q
  left_is zero p h g (up k u) = absurd (omega (arith, k, h))
  left_is (suc j) p h g (top {a = a} e) = let q : eqb a p ≡ true = sym (or-false (eqb a p)) ∙ g in rw q
  left_is {m = m} {a = a} (suc j) p h g (up {ancestors = l} k u) = by (eqb a p) g (λ q. left_is {m = a} j p (omega (arith, k, h)) q u)
    where
      by : (x : Bool) → (x || among p l) ≡ true → (among p l ≡ true → up_to j w t p (parent_in w t a) ≡ before p l) → cond x [] (a ∷ up_to j w t p (parent_in w t a)) ≡ cond x [] (a ∷ before p l)
      by true e q = refl
      by false e q = ap (λ (z : List ℕ). a ∷ z) (q e)

  -- an iterator at a, with p its end, has these left
  pub ancestors_left : {m a : ℕ} {l : List ℕ} (p : ℕ) → among p l ≡ true → Up w t m a l → up_to (suc a) w t p a ≡ before p l
  ancestors_left {a = a} p h u = left_is (suc a) p (omega arith) h (at_self u)

  pub before_below : {m a : ℕ} {l : List ℕ} (n p : ℕ) → m ≤ n → among p l ≡ true → Up w t m a l → All (λ b. b < n) (before p l)
  unfolding among before
  before_below n p h g (top {a = a} e) = let q : eqb a p ≡ true = sym (or-false (eqb a p)) ∙ g in rw q anil
  before_below n p h g (up {a = a} {ancestors = l} k u) = by (eqb a p) g (λ q. before_below n p (omega (arith, k, h)) q u)
    where
      by : (x : Bool) → (x || among p l) ≡ true → (among p l ≡ true → All (λ b. b < n) (before p l)) → All (λ b. b < n) (cond x [] (a ∷ before p l))
      by true e q = anil
      by false e q = acons (omega (arith, k, h)) (q e)

  step : {m a : ℕ} {l : List ℕ} (p : ℕ) → (a ≡ p → ⊥) → among p l ≡ true → Up w t m a l → Step w t m p a
  unfolding among
  step {a = a} p d h (top e) = let z = rw (ne_eqb a p d) at h in let y : ◌≡◌ {A = ℕ} 0 1 = cc in absurd (omega arith)
  step p d h (up {a = a} {ancestors = l} k u) = record { inner = l; inside = k; next = u; has = rw (ne_eqb a p d) at h }

  module _ {m a p : ℕ} (d : a ≡ p → ⊥) (q : Passes w t m a p) where
    climb : Step w t m p a
    climb = step p d q.has q.is

    pub climb_holds : Holds w t (suc a)
    climb_holds = holds_less climb.inside q.holds

    climb_on : Passes w t a (parent_in w t a) p
    climb_on = let i = climb.inside in record { holds = holds_less (omega arith) q.holds; ancestors = climb.inner; is = climb.next; has = climb.has }

    pub climb_next : {b : ℕ} → b ≡ parent_in w t a → (k : ℕ) × Passes w t k b p
    climb_next e = (a, rw e climb_on)

    pub left_on : up_to (suc a) w t p a ≡ a ∷ up_to (suc (parent_in w t a)) w t p (parent_in w t a)
    unfolding up_to
    left_on =
        let e : up_to a w t p (parent_in w t a) ≡ up_to (suc (parent_in w t a)) w t p (parent_in w t a) = left_is a p (omega arith) climb.has climb.next ∙ sym (ancestors_left p climb.has climb.next) in
        rw (ne_eqb a p d) (ap (λ (z : List ℕ). a ∷ z) e)

    pub left_less : length (up_to (suc (parent_in w t a)) w t p (parent_in w t a)) < length (up_to (suc a) w t p a)
    left_less = let e = ap length left_on in omega arith

  -- ---- in search of p: b tells whether it is among those before 4294967295

  either : {m a : ℕ} {l : List ℕ} (p : ℕ) → m ≤ most_records → Up w t m a l → among p l ≡ (among p (before no_parent l) || eqb p no_parent)
  unfolding among before no_parent
  either p f (top {a = a} e) = rw (eq-eqb a 4294967295 e) (or-false (eqb a p) ∙ ap (λ (z : ℕ). eqb z p) e ∙ eqb_turned 4294967295 p)
  either p f (up {a = a} {ancestors = l} k u) = rw (ne_eqb a 4294967295 (λ e. omega (arith, e, k, f))) (by (eqb a p) (either p (omega (arith, k, f)) u))
    where
      by : (x : Bool) → among p l ≡ (among p (before 4294967295 l) || eqb p 4294967295) → (x || among p l) ≡ ((x || among p (before 4294967295 l)) || eqb p 4294967295)
      by true e = refl
      by false e = e

  -- but for 4294967295, a record's ancestors are those before it
  pub reached : {m a : ℕ} {l : List ℕ} (p : ℕ) → m ≤ most_records → (p ≡ no_parent → ⊥) → Up w t m a l → list_any (λ b. eqb b p) (up_to (suc a) w t no_parent a) ≡ among p l
  reached {l = l} p f d u =
      rw (any_among p (up_to _ w t no_parent _), ancestors_left no_parent (none_among u) u)
      (sym (either p f u ∙ rw (ne_eqb p no_parent d) (or-false (among p (before no_parent l)))))

  pub stands_passes : {m a : ℕ} → Stands w t m a → Passes w t m a no_parent
  stands_passes s = record { holds = s.holds; ancestors = s.ancestors; is = s.is; has = none_among s.is }

  -- from p on they are p's
  pub up_from : {m a : ℕ} {l : List ℕ} (p : ℕ) → among p l ≡ true → Up w t m a l → Up w t m p (from p l)
  unfolding among from
  up_from {m} p h (top {a = a} e) = by (eqb a p) refl h
    where
      by : (x : Bool) → eqb a p ≡ x → (x || false) ≡ true → Up w t m p (cond x (a ∷ []) [])
      by true g j = let d : a ≡ p = eqb-true a p g in rw d (top (sym d ∙ e))
      by false g j = let z : ◌≡◌ {A = ℕ} 0 1 = cc in absurd (omega arith)
  up_from {m} p h (up {a = a} {ancestors = ancestors} k u) = by (eqb a p) refl h (λ g. up_from p g u)
    where
      by : (x : Bool) → eqb a p ≡ x → (x || among p ancestors) ≡ true → (among p ancestors ≡ true → Up w t a p (from p ancestors)) → Up w t m p (cond x (a ∷ ancestors) (from p ancestors))
      by true g j q = let d : a ≡ p = eqb-true a p g in rw (sym d) (up k u)
      by false g j q = up_wider (omega (arith, k)) (q j)

-- ---- parents one after another

pub next_parent : (w : ℕ) (t : List ℕ) (count n : ℕ) → n < count → parents_from w t (count - n) n ≡ parent_in w t n ∷ parents_from w t (count - suc n) (suc n)
unfolding parents_from
next_parent w t count n h = let e : count - n ≡ suc (count - suc n) = omega arith in rw e

-- before record n, after `at`: what is found from here on is what is found from the start
pub record Scan (w : ℕ) (t : List ℕ) (count n at : ℕ) (found : Option ℕ) : Type 0 where
  pub within : n ≤ count
  pub ancestors : List ℕ
  pub is : Up w t n at ancestors
  pub same : bad_parent n ancestors (parents_from w t (count - n) n) ≡ found

module _ {w : ℕ} {t : List ℕ} where
  pub scan_start : (count : ℕ) → Scan w t count 0 no_parent (bad_parent 0 (no_parent ∷ []) (parents_from w t count 0))
  scan_start count =
      let e : count - 0 ≡ count = omega arith in
      record { within = omega arith; ancestors = no_parent ∷ []; is = top refl; same = rw e }

  module _ {count n at : ℕ} {found : Option ℕ} (h : n < count) (s : Scan w t count n at found) where
    pub scan_stands : Holds w t count → Stands w t n at
    scan_stands g = let i = s.within in record { holds = holds_less i g; ancestors = s.ancestors; is = s.is }

    pub scan_few : Holds w t count → n ≤ most_records
    scan_few g = let i = g.few in omega arith

    pub scan_bad : among (parent_in w t n) s.ancestors ≡ false → Some n ≡ found
    unfolding bad_parent
    scan_bad e =
        let d : bad_parent n s.ancestors (parent_in w t n ∷ parents_from w t (count - suc n) (suc n)) ≡ found = ap (bad_parent n s.ancestors) (sym (next_parent w t count n h)) ∙ s.same in
        rw e at d

    pub scan_on : among (parent_in w t n) s.ancestors ≡ true → Scan w t count (n + 1) n found
    unfolding bad_parent
    scan_on e =
        let d : bad_parent n s.ancestors (parent_in w t n ∷ parents_from w t (count - suc n) (suc n)) ≡ found = ap (bad_parent n s.ancestors) (sym (next_parent w t count n h)) ∙ s.same in
        let f : bad_parent (suc n) (n ∷ from (parent_in w t n) s.ancestors) (parents_from w t (count - suc n) (suc n)) ≡ found = rw e at d in
        let k : n + 1 ≡ suc n = omega arith in
        let i : n < suc n = omega arith in
        rw k (record { within = omega arith; ancestors = n ∷ from (parent_in w t n) s.ancestors; is = up i (up_from (parent_in w t n) e s.is); same = f })

  pub scan_done : {count n at : ℕ} {found : Option ℕ} → count ≤ n → Scan w t count n at found → None ≡ found
  unfolding bad_parent parents_from
  scan_done {count} {n} {found = found} h s =
      let e : count - n ≡ 0 = omega arith in
      rw e at s.same
