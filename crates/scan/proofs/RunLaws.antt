-- A test that passes the bytes of a run of classes alone finds the end of the run.
use mathlib.Core.Path.{◌≡◌, sym, ap, ◌∙◌}
use mathlib.Core.Bool.{Bool, true, false, cond}
use mathlib.Core.List.{List}
use mathlib.Core.Logic.{⊎_elim}
use Prim.Native.Nat.{ℕ, zero, suc, ◌+◌, ◌-◌, ◌<◌, ◌≤◌}
use native.Mathlib.Numerals.{add-one}
use native.Mathlib.Omega.{arith}
use lib.ListN.{length, drop, get_or, drop_of_length-le}
use lib.Seq.{drop-cons}
use Rattle.token.specs.Run.{stops, before}
use Rattle.token.proofs.Numbers.{lt_or_le}
use Rattle.scan.specs.First.{First}

module _ (from to : ℕ) (t : List ℕ) where
  step : (i : ℕ) → i < length t → before from to (drop i t) ≡ cond (stops from to (get_or t i 0)) 0 (suc (before from to (drop (i + 1) t)))
  unfolding before
  step i h = ap (before from to) (drop-cons t i 0 h) ∙ rw add-one

  -- the n bytes from i on do not pass, and the one behind them does, if there is one
  ends : (n i : ℕ) → i + n ≤ length t → ((j : ℕ) → i ≤ j → j < i + n → stops from to (get_or t j 0) ≡ false)
      → (i + n < length t → stops from to (get_or t (i + n) 0) ≡ true) → before from to (drop i t) ≡ n
  unfolding before
  ends zero i h f g =
      let m : i + 0 ≡ i = omega arith in
      ⊎_elim (λ l. step i l ∙ rw (rw m at g l)) (λ l. rw (drop_of_length-le t l)) (lt_or_le i (length t))
  ends (suc n) i h f g =
      let m : i + 1 + n ≡ i + suc n = omega arith in
      step i (omega arith)
      ∙ rw (f i (omega arith) (omega arith), ends n (i + 1) (omega arith) (λ j a b. f j (omega arith) (omega arith)) (rw m g))

  -- a test that is sure of the bytes of the text
  pub run_first : {test : ℕ → Bool → Type 0} → ((c : ℕ) → c < 256 → (b : Bool) → test c b → b ≡ stops from to c) → ((j : ℕ) → get_or t j 0 < 256)
      → {i r : ℕ} → First test t i r → r ≡ i + before from to (drop i t)
  run_first sure bytes {i} {r} w =
      let m : i + (r - i) ≡ r = omega (arith, w.onward) in
      let e = ends (r - i) i (omega (arith, w.within, w.onward)) (λ j a b. sym (sure _ (bytes j) false (w.passed j a (omega arith)))) (rw m (λ l. sym (sure _ (bytes r) true (w.found l)))) in
      omega (arith, w.onward)
