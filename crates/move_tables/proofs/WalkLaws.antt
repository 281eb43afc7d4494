-- What `walk` makes: each record ends once, before the record that is just past its last descendant.
--     walked    for any state: what is done of a record there is done of each in the end
use mathlib.Core.Path.{◌≡◌, refl, sym, ap, ◌∙◌}
use Rattle.std.specs.Prelude.{Option, Some, None}
use Rattle.std.proofs.lemmas.Option.{none-some}
use mathlib.Core.Bool.{Bool, true, false, cond, ◌||◌}
use mathlib.Core.List.{List, [], ◌∷◌}
use mathlib.Core.Logic.{◌⊎◌, ⊎_elim, inl, inr}
use Prim.Native.Nat.{ℕ, zero, suc, ◌+◌, ◌-◌, ◌≤◌, ◌<◌}
use native.Mathlib.Omega.{arith}
use borrow.Author.Tests.{ne_eqb, eqb-true, eqb-false, ltb-true, ltb-false}
use lib.Dec.{eqb, ltb}
use Rattle.ast.specs.Lists.{All, anil, acons}
use Rattle.ast.specs.Records.{no_parent}
use Rattle.move_tables.specs.Moves.{most_records, among, from, bad_parent, past}
use Rattle.move_tables.specs.Walk.{parent_in, parents_from, Up, top, up, Good, ends, walk}
use Rattle.move_tables.proofs.Climbing.{none_among, up_from}
use Rattle.move_tables.proofs.Forests.{Before, not_inside, is_inside}

lt_of : (b n : ℕ) → b < suc n → (b ≡ n → ⊥) → b < n
lt_of b n g d = by (ltb b n) refl
  where
    by : (x : Bool) → ltb b n ≡ x → b < n
    by true e = ltb-true b n e
    by false e = let h = ltb-false b n e in let q : b ≡ n = omega arith in absurd (d q)

-- the number just past the last descendant of record a, of so many
unfoldable pub past_of : ℕ → List ℕ → ℕ → ℕ → ℕ
past_of w t count a = past a (suc a) (parents_from w t (count - suc a) (suc a))

up_below : {w : ℕ} {t : List ℕ} {m b : ℕ} {ancestors : List ℕ} (p : ℕ) → among p ancestors ≡ true → Up w t m b ancestors → Before p m
unfolding among
up_below {m = m} p h (top {a = a} e) = by (eqb a p) refl h
  where
    by : (x : Bool) → eqb a p ≡ x → (x || false) ≡ true → Before p m
    by true g j = inr (sym (eqb-true a p g) ∙ e)
    by false g j = let z : ◌≡◌ {A = ℕ} 0 1 = cc in absurd (omega arith)
up_below {m = m} p h (up {a = a} {ancestors = ancestors} k u) = by (eqb a p) refl h (λ g. up_below p g u)
  where
    by : (x : Bool) → eqb a p ≡ x → (x || among p ancestors) ≡ true → (among p ancestors ≡ true → Before p a) → Before p m
    by true g j q = inl (omega (arith, eqb-true a p g, k))
    by false g j q = ⊎_elim (λ l. inl (omega (arith, l, k))) (λ l. inr l) (q j)

module _ (w : ℕ) (t : List ℕ) (count : ℕ) (few : count ≤ most_records) where
  -- record a does not end before record n
  abbrev Open : ℕ → ℕ → Type 0
  Open n a = (a ≡ no_parent) ⊎ (past_of w t count a ≡ past a n (parents_from w t (count - n) n))

  module _ (n p : ℕ) (ps : List ℕ) (ps-are : parents_from w t (count - n) n ≡ p ∷ ps) (next : ps ≡ parents_from w t (count - suc n) (suc n)) (below : p < no_parent) where
    further : (a : ℕ) → a ≤ p → Open n a → Open (suc n) a
    unfolding past
    further a h o =
        ⊎_elim (λ e. inl e)
        (λ q. inr (q ∙ ap (past a n) ps-are ∙ (rw (is_inside p a h below) refl ∙ ap (past a (suc n)) next))) o

    open_below : {m b : ℕ} {l : List ℕ} → Up w t m b l → m ≤ suc p → All (Open n) l → All (Open (suc n)) l
    open_below (top e) h (acons o os) = acons (inl e) anil
    open_below (up {a = a} k u) h (acons o os) = acons (further a (omega (arith, k, h)) o) (open_below u (omega (arith, k, h)) os)

  open_next : (n p : ℕ) (ps : List ℕ) → parents_from w t (count - n) n ≡ p ∷ ps → ps ≡ parents_from w t (count - suc n) (suc n) → {m : ℕ} {l : List ℕ} → m ≤ most_records → Up w t m p l → All (Open n) l → All (Open (suc n)) l
  unfolding no_parent
  open_next n p ps e d f (top q) (acons o os) = acons (inl q) anil
  open_next n p ps e d f (up k u) (acons o os) =
      let b : p < 4294967295 = omega (arith, k, f) in
      acons (further n p ps e d b p (omega arith) o) (open_below n p ps e d b u (omega arith) os)

  from_open : (n p : ℕ) (l : List ℕ) → All (Open n) l → All (Open n) (from p l)
  unfolding from
  from_open n p [] os = os
  from_open n p (a ∷ l) (acons o os) = by (eqb a p) (from_open n p l os)
    where
      by : (x : Bool) → All (Open n) (from p l) → All (Open n) (cond x (a ∷ l) (from p l))
      by true q = acons o os
      by false q = q

  -- ---- any state

  module _ {S : Type 0} (f : ℕ → ℕ → S → S) (Done : ℕ → S → Type 0) (Sound : S → Type 0)
      (sound : (a : ℕ) (s : S) → a < count → Sound s → Sound (f (past_of w t count a) a s))
      (done : (a : ℕ) (s : S) → a < count → Sound s → Done a (f (past_of w t count a) a s))
      (keep : (a b : ℕ) (s : S) → a < count → b < count → Sound s → Done b s → Done b (f (past_of w t count a) a s)) where
    -- of all records below n that have ended it is done
    pub record Had (n : ℕ) (ancestors : List ℕ) (s : S) : Type 0 where
      pub fine : Sound s
      pub all : (b : ℕ) → b < n → among b ancestors ≡ false → Done b s

    module _ (n p : ℕ) (within : n ≤ count) (stops : (x : ℕ) → Before p x → past x n (parents_from w t (count - n) n) ≡ n) where
      ended_one : (a : ℕ) (ancestors : List ℕ) (s : S) → a < n → Before p a → Open n a → Had n (a ∷ ancestors) s → Had n ancestors (f n a s)
      unfolding among no_parent
      ended_one a ancestors s h b o k =
          let e : past_of w t count a ≡ n = ⊎_elim (λ q. absurd (omega (arith, q, h, within, few))) (λ q. q ∙ stops a b) o in
          let i : a < count = omega arith in
          record {
            fine = rw e at (sound a s i k.fine);
            all = λ c g j. by c g j (eqb a c) refl e i;
          }
        where
          by : (c : ℕ) → c < n → among c ancestors ≡ false → (x : Bool) → eqb a c ≡ x → past_of w t count a ≡ n → a < count → Done c (f n a s)
          by c g j true q e i = rw (sym (eqb-true a c q)) (rw e at (done a s i k.fine))
          by c g j false q e i = rw e at (keep a c s i (omega (arith, g, within)) k.fine (k.all c g (rw q j)))

      ends_had : {m a : ℕ} {ancestors : List ℕ} (s : S) → m ≤ n → Up w t m a ancestors → among p ancestors ≡ true → All (Open n) ancestors → Had n ancestors s → Had n (from p ancestors) (ends (f n) p ancestors s)
      unfolding among from ends
      ends_had s h (top {a = a} e) g os k = by (eqb a p) g
        where
          by : (x : Bool) → (x || false) ≡ true → Had n (cond x (a ∷ []) []) (cond x s (f n a s))
          by true j = k
          by false j = let z : ◌≡◌ {A = ℕ} 0 1 = cc in absurd (omega arith)
      ends_had s h (up {a = a} {ancestors = ancestors} i u) g (acons o os) k =
          by (eqb a p) g (λ j. ends_had (f n a s) (omega (arith, i, h)) u j os (ended_one a ancestors s (omega (arith, i, h)) (up_below p j u) o k))
        where
          by : (x : Bool) → (x || among p ancestors) ≡ true → (among p ancestors ≡ true → Had n (from p ancestors) (ends (f n) p ancestors (f n a s))) → Had n (cond x (a ∷ ancestors) (from p ancestors)) (cond x s (ends (f n) p ancestors (f n a s)))
          by true j q = k
          by false j q = q j

    -- in the end all are done
    pub record Over (s : S) : Type 0 where
      pub fine : Sound s
      pub all : (b : ℕ) → b < count → Done b s

    none_left : {n b : ℕ} {l : List ℕ} → n ≤ most_records → b < n → Up w t n no_parent l → among b l ≡ false
    unfolding among no_parent
    none_left {n} {b} h g (top e) = rw (ne_eqb 4294967295 b (λ q. omega (arith, q, h, g)))
    none_left h g (up k u) = absurd (omega (arith, k, h))

    has_parent : (o : Option ℕ) (n : ℕ) (b : Bool) → cond b o (Some n) ≡ None → b ≡ true
    has_parent o n true e = refl
    has_parent o n false e = absurd (none-some n (sym e))

    stops : (n p : ℕ) (ps : List ℕ) → parents_from w t (count - n) n ≡ p ∷ ps → (x : ℕ) → Before p x → past x n (parents_from w t (count - n) n) ≡ n
    unfolding past
    stops n p ps e x b = rw (e, not_inside p x x b (omega arith))

    here : (n : ℕ) → past_of w t count n ≡ past n (suc n) (parents_from w t (count - suc n) (suc n))
    unfolding past_of
    here n = refl

    wider : (n : ℕ) (l : List ℕ) (s : S) → Had n l s → Had (suc n) (n ∷ l) s
    unfolding among
    wider n l s h = record { fine = h.fine; all = λ b g j. by b g (eqb n b) refl j }
      where
        by : (b : ℕ) → b < suc n → (x : Bool) → eqb n b ≡ x → (x || among b l) ≡ false → Done b s
        by b g true q j = let z : ◌≡◌ {A = ℕ} 0 1 = cc in absurd (omega arith)
        by b g false q j = h.all b (lt_of b n g (λ e. eqb-false n b q (sym e))) j

    walk_had : (k n at : ℕ) (ancestors : List ℕ) (s : S) → n + k ≡ count → Up w t n at ancestors → bad_parent n ancestors (parents_from w t k n) ≡ None → All (Open n) ancestors → Had n ancestors s → Over (walk f n ancestors (parents_from w t k n) s)
    unfolding walk parents_from bad_parent past
    walk_had zero n at ancestors s e is good os k =
        let z : count - n ≡ 0 = omega arith in
        let h = ends_had n no_parent (omega arith) (λ x b. rw z) s (omega arith) is (none_among is) os k in
        record { fine = h.fine; all = λ b g. h.all b (omega arith) (none_left (omega arith) (omega arith) (up_from no_parent (none_among is) is)) }
    walk_had (suc k) n at ancestors s e is good os had =
        let p = parent_in w t n in
        let z : count - n ≡ suc k = omega arith in
        let y : count - suc n ≡ k = omega arith in
        let has : among p ancestors ≡ true = has_parent (bad_parent (suc n) (n ∷ from p ancestors) (parents_from w t k (suc n))) n (among p ancestors) good in
        let good' : bad_parent (suc n) (n ∷ from p ancestors) (parents_from w t k (suc n)) ≡ None = rw has at good in
        let i : n < suc n = omega arith in
        let above : Up w t n p (from p ancestors) = up_from p has is in
        let ps : parents_from w t (count - n) n ≡ p ∷ parents_from w t k (suc n) = rw z in
        let next : parents_from w t k (suc n) ≡ parents_from w t (count - suc n) (suc n) = rw y in
        let h = ends_had n p (omega arith) (stops n p (parents_from w t k (suc n)) ps) s (omega arith) is has os had in
        let opens : All (Open (suc n)) (from p ancestors) = open_next n p (parents_from w t k (suc n)) ps next (omega arith) above (from_open n p ancestors os) in
        walk_had k (suc n) n (n ∷ from p ancestors) (ends (f n) p ancestors s) (omega arith) (up i above) good' (acons (inr (here n)) opens) (wider n (from p ancestors) (ends (f n) p ancestors s) h)

    pub walked : (s : S) → Good w t count → Sound s → Over (walk f 0 (no_parent ∷ []) (parents_from w t count 0) s)
    walked s g h = walk_had count 0 no_parent (no_parent ∷ []) s (omega arith) (top refl) g.good (acons (inl refl) anil) (record { fine = h; all = λ b l. absurd (omega arith) })
