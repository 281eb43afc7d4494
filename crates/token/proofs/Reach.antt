-- How a scan goes on: one byte, a run of bytes, its end.
--     reach_start   where each scan stands at first
--     reach_step    one byte on
--     reach_run     over all bytes that leave the state as it is
--     reach_end     no byte is left
--     reach_stop    the next byte ends the token
use mathlib.Core.Path.{◌≡◌, refl, sym, ap, ◌∙◌}
use mathlib.Core.Logic.{◌⊎◌, inl, inr}
use mathlib.Core.Bool.{Bool, true, false, cond, ◌&&◌}
use mathlib.Core.List.{List, [], ◌∷◌}
use Rattle.std.specs.Prelude.{Option, Some, None}
use Prim.Native.Nat.{ℕ, suc, ◌+◌, ◌<◌, ◌≤◌}
use native.Mathlib.Numerals.{add-one}
use native.Mathlib.Nat.{add-zero}
use native.Mathlib.Omega.{arith}
use borrow.Author.Tests.{leb-true, leb-false, ltb-true, ltb-false}
use lib.Dec.{leb, ltb}
use lib.ListN.{length, get_or, drop, length-drop, drop_of_length-le}
use lib.Seq.{drop-cons, get_or-drop, drop-drop}
use Rattle.token.specs.Patterns.{Rule}
use Rattle.token.specs.Scan.{derivs, first, keep, scan_from}
use Rattle.token.specs.Run.{class_of, stops, before}
use Rattle.token.specs.Automaton.{State, start, dead, rules_at, step, kind_at, longest, Reached}
use Rattle.token.specs.declared.Token.{Token}
use Rattle.token.specs.Scanned.{Scan}
use Rattle.token.proofs.Classes.{step_law, kind_law, class_below}

-- nothing is left of the rules
pub dead_scan : (n : ℕ) (b : Scan) (w : List ℕ) → scan_from [] n b w ≡ b
unfolding scan_from derivs first keep
dead_scan n b [] = refl
dead_scan n b (c ∷ w) = dead_scan (suc n) b w

pub scan_cons : (rs : List Rule) (n : ℕ) (b : Scan) (c : ℕ) (w : List ℕ)
    → scan_from rs n b (c ∷ w) ≡ scan_from (derivs c rs) (suc n) (keep (first (derivs c rs)) (suc n) b) w
unfolding scan_from
scan_cons rs n b c w = refl

pub scan_step : (s : State) (n : ℕ) (b : Scan) (c : ℕ) (w : List ℕ) → c < 256
    → scan_from (rules_at s) n b (c ∷ w) ≡ scan_from (rules_at (step s (class_of c))) (suc n) (keep (kind_at (step s (class_of c))) (suc n) b) w
scan_step s n b c w h = scan_cons (rules_at s) n b c w ∙ rw (step_law s c h, kind_law (step s (class_of c)))

pub reach_start : (t : List ℕ) → ((j : ℕ) → get_or t j 0 < 256) → Reached t start 0 None
unfolding longest rules_at
reach_start t h = record { bytes = h; inside = omega arith; decides = refl }

module _ {t : List ℕ} {s : State} {i : ℕ} {b : Scan} (r : Reached t s i b) where
  pub reach_step : (k : ℕ) → i < length t → class_of (get_or t i 0) ≡ k → Reached t (step s k) (i + 1) (keep (kind_at (step s k)) (i + 1) b)
  reach_step k h e =
      record {
        bytes = r.bytes;
        inside = omega arith;
        decides =
            r.decides ∙ ap (scan_from (rules_at s) i b) (drop-cons t i 0 h) ∙ scan_step s i b (get_or t i 0) (drop (suc i) t) (r.bytes i) ∙ rw (e, add-one);
      }

  pub reach_end : length t ≤ i → longest t ≡ b
  unfolding scan_from
  reach_end h = rw (drop_of_length-le t h) at r.decides

-- the next byte ends the token
pub reach_stop : {t : List ℕ} {s : State} {i : ℕ} {b : Scan} → Reached t s i b → (k : ℕ) → i < length t → class_of (get_or t i 0) ≡ k
    → step s k ≡ dead → longest t ≡ b
unfolding kind_at keep rules_at
reach_stop {i = i} {b = b} r k h e f = rw (f, dead_scan (i + 1) b) at (reach_step r k h e).decides

-- a state in which the next byte is taken as in another
pub reach_like : {t : List ℕ} {s : State} {i : ℕ} {b : Scan} → Reached t s i b → (q : State) (k : ℕ) → i < length t → class_of (get_or t i 0) ≡ k
    → step s k ≡ step q k → Reached t q i b
reach_like {t} {s} {i} {b} r q k h e f =
    record {
      bytes = r.bytes;
      inside = r.inside;
      decides =
          r.decides ∙ ap (scan_from (rules_at s) i b) (drop-cons t i 0 h)
          ∙ scan_step s i b (get_or t i 0) (drop (suc i) t) (r.bytes i)
          ∙ ap (λ (x : State). scan_from (rules_at x) (suc i) (keep (kind_at x) (suc i) b) (drop (suc i) t)) (ap (step s) e ∙ f ∙ ap (step q) (sym e))
          ∙ sym (scan_step q i b (get_or t i 0) (drop (suc i) t) (r.bytes i))
          ∙ ap (scan_from (rules_at q) i b) (sym (drop-cons t i 0 h));
    }

-- ---- a run of bytes

-- the classes below `from` and those from `to` on leave the state as it is
abbrev pub Spins : State → ℕ → ℕ → Type 0
Spins s from to = (k : ℕ) → k < 60 → (k < from) ⊎ (to ≤ k) → step s k ≡ s

keep_keep : (o : Option Token) (n m : ℕ) (b : Scan) → keep o n (keep o m b) ≡ keep o n b
unfolding keep
keep_keep None n m b = refl
keep_keep (Some k) n m b = refl

outside : (from to k : ℕ) → (leb from k && ltb k to) ≡ false → (k < from) ⊎ (to ≤ k)
outside from to k e = go (leb from k) refl (ltb k to) refl e
  where
    go : (p : Bool) → leb from k ≡ p → (q : Bool) → ltb k to ≡ q → (p && q) ≡ false → (k < from) ⊎ (to ≤ k)
    go false f q g h = inl (leb-false from k f)
    go true f false g h = inr (ltb-false k to g)
    go true f true g h = let z : ◌≡◌ {A = ℕ} 0 1 = cc in absurd (omega arith)

passes : (from to c : ℕ) → stops from to c ≡ false → (class_of c < from) ⊎ (to ≤ class_of c)
unfolding stops
passes from to c e = outside from to (class_of c) e

spin : (s : State) (from to : ℕ) → Spins s from to → (w : List ℕ) → ((j : ℕ) → get_or w j 0 < 256) → (i : ℕ) (b : Scan) → keep (kind_at s) i b ≡ b
    → scan_from (rules_at s) i b w ≡ scan_from (rules_at s) (i + before from to w) (keep (kind_at s) (i + before from to w) b) (drop (before from to w) w)
unfolding before
spin s from to l [] h i b e = rw (add-zero, e)
spin s from to l (c ∷ w) h i b e =
    go (stops from to c) refl (spin s from to l w (λ j. h (suc j)) (suc i) (keep (kind_at s) (suc i) b) (keep_keep (kind_at s) (suc i) (suc i) b))
  where
    n : ℕ
    n = before from to w

    go : (p : Bool) → stops from to c ≡ p
        → scan_from (rules_at s) (suc i) (keep (kind_at s) (suc i) b) w
        ≡ scan_from (rules_at s) (suc i + n) (keep (kind_at s) (suc i + n) (keep (kind_at s) (suc i) b)) (drop n w)
        → scan_from (rules_at s) i b (c ∷ w) ≡ scan_from (rules_at s) (i + cond p 0 (suc n)) (keep (kind_at s) (i + cond p 0 (suc n)) b) (drop (cond p 0 (suc n)) (c ∷ w))
    go true f ih = rw (add-zero, e)
    go false f ih =
        let q : step s (class_of c) ≡ s = l (class_of c) (class_below c (h 0)) (passes from to c f) in
        let m : suc i + n ≡ i + suc n = omega arith in
        scan_step s i b c w (h 0)
        ∙ ap (λ (x : State). scan_from (rules_at x) (suc i) (keep (kind_at x) (suc i) b) w) q
        ∙ ih
        ∙ rw (keep_keep (kind_at s) (suc i + n) (suc i) b)
        (ap (λ (x : ℕ). scan_from (rules_at s) x (keep (kind_at s) x b) (drop n w)) m)

-- how far the run goes
before_fits : (from to : ℕ) (w : List ℕ) → before from to w ≤ length w
unfolding before
before_fits from to [] = omega arith
before_fits from to (c ∷ w) = go (stops from to c) (before_fits from to w)
  where
    go : (p : Bool) → before from to w ≤ length w → cond p 0 (suc (before from to w)) ≤ suc (length w)
    go true h = omega arith
    go false h = omega arith

-- and what stands at its end
before_stops : (from to : ℕ) (w : List ℕ) → before from to w < length w → stops from to (get_or w (before from to w) 0) ≡ true
unfolding before
before_stops from to [] h = absurd (omega arith)
before_stops from to (c ∷ w) h = go (stops from to c) refl (before_stops from to w) h
  where
    go : (p : Bool) → stops from to c ≡ p → (before from to w < length w → stops from to (get_or w (before from to w) 0) ≡ true)
        → cond p 0 (suc (before from to w)) < suc (length w) → stops from to (get_or (c ∷ w) (cond p 0 (suc (before from to w))) 0) ≡ true
    go true e ih l = e
    go false e ih l = ih (omega arith)

stops_at : (from to c : ℕ) → stops from to c ≡ true → (from ≤ class_of c) × (class_of c < to)
unfolding stops
stops_at from to c e = go (leb from (class_of c)) refl (ltb (class_of c) to) refl e
  where
    go : (p : Bool) → leb from (class_of c) ≡ p → (q : Bool) → ltb (class_of c) to ≡ q → (p && q) ≡ true → (from ≤ class_of c) × (class_of c < to)
    go true f true g h = (leb-true from (class_of c) f, ltb-true (class_of c) to g)
    go true f false g h = let z : ◌≡◌ {A = ℕ} 0 1 = cc in absurd (omega arith)
    go false f q g h = let z : ◌≡◌ {A = ℕ} 0 1 = cc in absurd (omega arith)

-- where a run from i on ends
abbrev pub ended : ℕ → ℕ → List ℕ → ℕ → ℕ
ended from to t i = i + before from to (drop i t)

pub run_fits : (from to : ℕ) (t : List ℕ) (i : ℕ) → i ≤ length t → ended from to t i ≤ length t
run_fits from to t i h = omega (arith, before_fits from to (drop i t), length-drop i t)

pub run_stops : (from to : ℕ) (t : List ℕ) (i : ℕ) → i ≤ length t → ended from to t i < length t
    → (from ≤ class_of (get_or t (ended from to t i) 0)) × (class_of (get_or t (ended from to t i) 0) < to)
run_stops from to t i h l =
    stops_at from to (get_or t (ended from to t i) 0)
    (rw (get_or-drop i t (before from to (drop i t)) 0) at (before_stops from to (drop i t) (omega (arith, length-drop i t))))

pub reach_run : {t : List ℕ} {s : State} {i : ℕ} {b : Scan} → Reached t s i b → (from to : ℕ) → Spins s from to → keep (kind_at s) i b ≡ b
    → Reached t s (ended from to t i) (keep (kind_at s) (ended from to t i) b)
reach_run {t} {s} {i} {b} r from to l e =
    record {
      bytes = r.bytes;
      inside = run_fits from to t i r.inside;
      decides =
          r.decides
          ∙ spin s from to l (drop i t) (λ j. rw (get_or-drop i t j 0) (r.bytes (i + j))) i b e
          ∙ ap (scan_from (rules_at s) (ended from to t i) (keep (kind_at s) (ended from to t i) b)) (drop-drop (before from to (drop i t)) i t);
    }
