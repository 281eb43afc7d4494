-- A loop over members, turn by turn, whatever closes it, is skipped, shuts it and is a member, if what is skipped rests and a member falls (Bytes); W is what the
-- whole is.
--     loop_is         a loop is its first turn, and then the loop
--     loop_rests      it leaves no more bytes
use mathlib.Core.Path.{◌≡◌, ap}
use mathlib.Core.Bool.{Bool, cond}
use mathlib.Core.List.{List}
use Prim.Native.Nat.{ℕ, zero, suc, ◌<◌}
use native.Mathlib.Omega.{arith}
use Rattle.steps.specs.declared.state.State.{State}
use Rattle.steps.specs.Into.{Falls, Rests, M, after, bytes_left, loop_in, refuse_in, turns_in}
use Rattle.steps.proofs.Bytes.{weak_w, after_w, cond_w, after_same, refused_w}

module _ (text : List ℕ) (closing : State → Bool) (skips shut member : M) (rests : Rests text skips) (falls : Falls text member) where
  -- more turns than bytes are left change nothing
  fuel : (n m : ℕ) (st : State) (t u : List ℕ) → bytes_left text st < n → bytes_left text st < m
      → turns_in closing skips shut member n st t u ≡ turns_in closing skips shut member m st t u
  unfolding turns_in
  fuel zero m st t u f g = absurd (omega arith)
  fuel (suc n) zero st t u f g = absurd (omega arith)
  fuel (suc n) (suc m) st t u f g =
      after_same (rests st t u) λ st₁ t₁ u₁ h.
      ap (cond (closing st₁) (shut st₁ t₁ u₁)) (after_same (falls st₁ t₁ u₁) λ st₂ t₂ u₂ i. fuel n m st₂ t₂ u₂ (omega arith) (omega arith))

  pub loop_is : (st : State) (t u : List ℕ) → loop_in text closing skips shut member st t u
      ≡ after (skips st t u) (λ st t u. cond (closing st) (shut st t u) (after (member st t u) (loop_in text closing skips shut member)))
  unfolding loop_in turns_in
  loop_is st t u =
      after_same (rests st t u) λ st₁ t₁ u₁ h.
      ap (cond (closing st₁) (shut st₁ t₁ u₁))
      (after_same (falls st₁ t₁ u₁) λ st₂ t₂ u₂ i. fuel (bytes_left text st) (suc (bytes_left text st₂)) st₂ t₂ u₂ (omega arith) (omega arith))

  turns_rest : Rests text shut → (n : ℕ) → Rests text (turns_in closing skips shut member n)
  unfolding turns_in refuse_in
  turns_rest q zero st t u = refused_w 3 st _ _
  turns_rest q (suc n) st t u =
      after_w (rests st t u) λ st₁ t₁ u₁ h. cond_w (closing st₁) (weak_w (λ x i. omega arith) (q st₁ t₁ u₁))
      (after_w (falls st₁ t₁ u₁) λ st₂ t₂ u₂ i. weak_w (λ x j. omega arith) (turns_rest q n st₂ t₂ u₂))

  pub loop_rests : Rests text shut → Rests text (loop_in text closing skips shut member)
  unfolding loop_in
  loop_rests q st t u = turns_rest q (suc (bytes_left text st)) st t u
