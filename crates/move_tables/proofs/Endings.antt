-- What is done of records where they end, for any state: what the code makes is what `walk` makes.
--     ending_start, ending_on, ending_done, ending_is    from ancestor to ancestor, up to p
--     walk_start, walk_passes, walk_on, walk_end         from record to record
use mathlib.Core.Path.{◌≡◌, refl, sym, ap, ◌∙◌}
use Rattle.std.specs.Prelude.{Option, Some, None}
use Rattle.std.proofs.lemmas.Option.{none-some}
use mathlib.Core.Bool.{Bool, true, false, cond}
use mathlib.Core.List.{List, [], ◌∷◌}
use Prim.Native.Nat.{ℕ, suc, ◌+◌, ◌*◌, ◌-◌, ◌≤◌, ◌<◌}
use native.Mathlib.Omega.{arith}
use lib.Dec.{eqb}
use lib.ListN.{length, set, length-set}
use Rattle.ast.specs.Column.{Past}
use Rattle.ast.specs.Lists.{All, acons}
use Rattle.ast.specs.Records.{node_width, no_parent}
use Rattle.move_tables.specs.Moves.{among, from, bad_parent}
use Rattle.move_tables.specs.Walk.{parent_in, parents_from, up_to, Up, top, up, Holds, Passes, Good, ends, walk, writes}
use Rattle.move_tables.proofs.Climbing.{before, holds_less, none_among, up_same, up_from, ancestors_left, before_below, next_parent}

-- f done of each
unfoldable pub done : {S : Type 0} → (ℕ → S → S) → List ℕ → S → S
done f [] s = s
done f (a ∷ l) s = done f l (f a s)

ends_are : {S : Type 0} (f : ℕ → S → S) (p : ℕ) (l : List ℕ) (s : S) → ends f p l s ≡ done f (before p l) s
unfolding ends before done
ends_are f p [] s = refl
ends_are f p (a ∷ l) s = by (eqb a p) (ends_are f p l (f a s))
  where
    by : (x : Bool) → ends f p l (f a s) ≡ done f (before p l) (f a s) → cond x s (ends f p l (f a s)) ≡ done f (cond x [] (a ∷ before p l)) s
    by true e = refl
    by false e = e

-- with state s, and these left, all below n: what is made in the end
pub record Ending {S : Type 0} (f : ℕ → S → S) (n : ℕ) (all : S) (l : List ℕ) (s : S) : Type 0 where
  pub below : All (λ a. a < n) l
  pub same : done f l s ≡ all

parts : {n a : ℕ} {l : List ℕ} → All (λ b. b < n) (a ∷ l) → (a < n) × All (λ b. b < n) l
parts (acons h hs) = (h, hs)

module _ {S : Type 0} {f : ℕ → S → S} {n : ℕ} {all s : S} where
  module _ {a : ℕ} {l l' : List ℕ} (e : l ≡ a ∷ l') (k : Ending f n all l s) where
    pub ending_below : a < n
    ending_below = (parts (rw e at k.below)).0

    pub ending_on : Ending f n all l' (f a s)
    unfolding done
    ending_on = record { below = (parts (rw e at k.below)).1; same = rw e at k.same }

  pub ending_done : {l : List ℕ} → l ≡ [] → Ending f n all l s → s ≡ all
  unfolding done
  ending_done e k = rw e at k.same

module _ {S : Type 0} {w : ℕ} {t : List ℕ} (f : ℕ → S → S) {n at p : ℕ} (q : Passes w t n at p) (s : S) where
  pub ending_start : Ending f n (done f (up_to (suc at) w t p at) s) (up_to (suc at) w t p at) s
  ending_start = record { below = rw (ancestors_left p q.has q.is) (before_below n p (omega arith) q.has q.is); same = refl }

  pub ending_is : (ancestors : List ℕ) → Up w t n at ancestors → done f (up_to (suc at) w t p at) s ≡ ends f p ancestors s
  ending_is ancestors is =
      rw (ancestors_left p q.has q.is, up_same q.holds.few q.holds.few is q.is) (sym (ends_are f p q.ancestors s))

-- before record n, after `at`, with state s: what the walk makes from here on is what it makes in all
pub record Walked {S : Type 0} (w : ℕ) (t : List ℕ) (f : ℕ → ℕ → S → S) (count n at : ℕ) (s all : S) : Type 0 where
  pub within : n ≤ count
  pub ancestors : List ℕ
  pub is : Up w t n at ancestors
  pub good : bad_parent n ancestors (parents_from w t (count - n) n) ≡ None
  pub same : walk f n ancestors (parents_from w t (count - n) n) s ≡ all

module _ {S : Type 0} {w : ℕ} {t : List ℕ} {f : ℕ → ℕ → S → S} where
  pub walk_start : {count : ℕ} (s : S) → Good w t count → Walked w t f count 0 no_parent s (walk f 0 (no_parent ∷ []) (parents_from w t count 0) s)
  walk_start {count} s g =
      let e : count - 0 ≡ count = omega arith in
      record { within = omega arith; ancestors = no_parent ∷ []; is = top refl; good = rw e g.good; same = rw e }

  module _ {count n at : ℕ} {s all : S} (h : n < count) (k : Walked w t f count n at s all) where
    good_one : bad_parent n k.ancestors (parent_in w t n ∷ parents_from w t (count - suc n) (suc n)) ≡ None
    good_one = ap (bad_parent n k.ancestors) (sym (next_parent w t count n h)) ∙ k.good

    has : among (parent_in w t n) k.ancestors ≡ true
    unfolding bad_parent
    has = by (bad_parent (suc n) (n ∷ from (parent_in w t n) k.ancestors) (parents_from w t (count - suc n) (suc n))) (among (parent_in w t n) k.ancestors) good_one
      where
        by : (o : Option ℕ) (b : Bool) → cond b o (Some n) ≡ None → b ≡ true
        by o true e = refl
        by o false e = absurd (none-some _ (sym e))

    pub walk_passes : Holds w t count → Passes w t n at (parent_in w t n)
    walk_passes g = let i = k.within in record { holds = holds_less i g; ancestors = k.ancestors; is = k.is; has = has }

    pub walk_on : (s' : S) → s' ≡ ends (f n) (parent_in w t n) k.ancestors s → Walked w t f count (n + 1) n s' all
    unfolding bad_parent walk
    walk_on s' e =
        let g : bad_parent (suc n) (n ∷ from (parent_in w t n) k.ancestors) (parents_from w t (count - suc n) (suc n)) ≡ None = rw has at good_one in
        let d : walk f n k.ancestors (parent_in w t n ∷ parents_from w t (count - suc n) (suc n)) s ≡ all = ap (λ (ps : List ℕ). walk f n k.ancestors ps s) (sym (next_parent w t count n h)) ∙ k.same in
        let i : n < suc n = omega arith in
        let j : n + 1 ≡ suc n = omega arith in
        rw (j, e) (record { within = omega arith; ancestors = n ∷ from (parent_in w t n) k.ancestors; is = up i (up_from (parent_in w t n) has k.is); good = g; same = d })

  module _ {count n at : ℕ} {s all : S} (h : count ≤ n) (k : Walked w t f count n at s all) where
    over : n ≡ count
    over = let i = k.within in omega arith

    pub end_passes : Holds w t count → Passes w t count at no_parent
    end_passes g = rw (sym over) (record { holds = rw over g; ancestors = k.ancestors; is = k.is; has = none_among k.is })

    pub end_up : Up w t count at k.ancestors
    end_up = rw over at k.is

    pub walk_end : (s' : S) → s' ≡ ends (f count) no_parent k.ancestors s → s' ≡ all
    unfolding walk parents_from
    walk_end s' e =
        let z : count - n ≡ 0 = omega arith in
        let d : ends (f n) no_parent k.ancestors s ≡ all = rw z at k.same in
        e ∙ ap (λ (m : ℕ). ends (f m) no_parent k.ancestors s) (sym over) ∙ d

pub ends_length : (n p : ℕ) (ancestors out : List ℕ) → length (ends (writes n) p ancestors out) ≡ length out
unfolding ends writes
ends_length n p [] out = refl
ends_length n p (a ∷ ancestors) out = by (eqb a p) (ends_length n p ancestors (set out (a * node_width + Past) n) ∙ length-set out (a * node_width + Past) n)
  where
    by : (b : Bool) → length (ends (writes n) p ancestors (set out (a * node_width + Past) n)) ≡ length out → length (cond b out (ends (writes n) p ancestors (set out (a * node_width + Past) n))) ≡ length out
    by true e = refl
    by false e = e
