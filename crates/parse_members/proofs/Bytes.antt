-- What the readers of functions and enum members leave: fewer bytes than there were (..-falls), or no more (..-rests).
use mathlib.Core.Path.{◌≡◌, refl}
use mathlib.Core.Bool.{Bool, true, false, cond}
use mathlib.Core.List.{List}
use Prim.Native.Nat.{ℕ, ◌≤◌}
use native.Mathlib.Omega.{arith}
use lib.Dec.{eqb}
use Rattle.steps.specs.declared.state.State.{State}
use Rattle.steps.specs.Into.{Falls, Rests, code_of, advanced, bytes_left, opened, sum}
use Rattle.steps.proofs.Bytes.{weak_w, after_w, cond_w, cond_known, fall_rest, rest_rest, some_by, stays_w, advance_falls, advanced_w, opened_w, leaf_rests, node_rests, own_rests, comments_rests}
use Rattle.parse_values.proofs.Bytes.{type_falls}
use Rattle.parser.specs.Definitions.{nesting}
use Rattle.parse_fields.proofs.Bytes.{token_falls, name_falls, annotations_rests, members_falls, fields_falls}
use Rattle.parse_members.specs.Into.{
  throws_in,
  return_type_in,
  flag_if,
  skip_oneway,
  function_head_in,
  function_tail_in,
  function_in,
  functions_in,
  initializer_in,
  member_in,
  enum_members_in,
}

module _ (text : List ℕ) where
  -- ---- functions

  throws_rests : (b p : ℕ) → Rests text (throws_in text b p)
  unfolding throws_in
  throws_rests b p st t u =
      cond_known (eqb (code_of st) 12)
      (λ e. weak_w (λ n h. omega arith) (advanced_w text st (some_by (λ n. eqb n 12) refl (code_of st) e) (fields_falls text 40 41 16 b p (advanced text st) t u)))
      (λ e. stays_w text st t u)

  return_type_falls : (b p : ℕ) → Falls text (return_type_in text b p)
  unfolding return_type_in
  return_type_falls b p st t u =
      cond_known (eqb (code_of st) 15)
      (λ e. advanced_w text st (some_by (λ n. eqb n 15) refl (code_of st) e) (leaf_rests text 18 b p (advanced text st) t u))
      (λ e. type_falls text nesting b p st t u)

  oneway_left : (st : State) → bytes_left text (skip_oneway text st) ≤ bytes_left text st
  unfolding skip_oneway
  oneway_left st = go (eqb (code_of st) 50) refl
    where
      go : (b : Bool) → eqb (code_of st) 50 ≡ b → bytes_left text (cond b (advanced text st) st) ≤ bytes_left text st
      go true e = omega (arith, advance_falls text st (some_by (λ n. eqb n 50) refl (code_of st) e))
      go false e = omega arith

  function_head_falls : (b p : ℕ) → Falls text (function_head_in text b p)
  unfolding function_head_in
  function_head_falls b p st t u =
      after_w (return_type_falls b p (skip_oneway text st) t u) λ st₁ t₁ u₁ h.
      let l = oneway_left st in weak_w (λ n i. omega arith) (name_falls text 2 b p st₁ t₁ u₁)

  function_tail_rests : (b p : ℕ) → Rests text (function_tail_in text b p)
  unfolding function_tail_in
  function_tail_rests b p = rest_rest (throws_rests b p) (rest_rest (comments_rests text true) (annotations_rests text b p))

  pub function_falls : (b p : ℕ) → Falls text (function_in text b p)
  unfolding function_in
  function_falls b p st t u =
      after_w (opened_w text st (own_rests text st.next (opened st) t u)) λ st₁ t₁ u₁ h. weak_w (λ n i. omega arith)
      (fall_rest (function_head_falls b st.next) (λ st₂ t₂ u₂. after_w (fields_falls text 40 41 0 b st.next st₂ t₂ u₂) λ st₃ t₃ u₃ g.
      after_w (function_tail_rests b st.next st₃ t₃ u₃) λ st₄ t₄ u₄ f. weak_w (λ n i. omega arith)
      (node_rests text st.next 11 (sum (flag_if (code_of st) 50 4) (flag_if (code_of st₃) 12 8)) st₂.last.start b p st₄ t₄ u₄)) st₁ t₁ u₁)

  pub functions_falls : (b p : ℕ) → Falls text (functions_in text b p)
  unfolding functions_in
  functions_falls b p = members_falls text 34 35 _ (function_falls b p)

  -- ---- enum members

  initializer_rests : (b p : ℕ) → Rests text (initializer_in text b p)
  unfolding initializer_in
  initializer_rests b p st t u =
      cond_known (eqb (code_of st) 45)
      (λ e. weak_w (λ n h. omega arith) (advanced_w text st (some_by (λ n. eqb n 45) refl (code_of st) e)
      (cond_w (eqb (code_of (advanced text st)) 31) (token_falls text 31 6 27 b p (advanced text st) t u) (token_falls text 32 6 24 b p (advanced text st) t u))))
      (λ e. stays_w text st t u)

  pub member_falls : (b p : ℕ) → Falls text (member_in text b p)
  unfolding member_in
  member_falls b p st t u =
      after_w (opened_w text st (own_rests text st.next (opened st) t u)) λ st₁ t₁ u₁ h. weak_w (λ n i. omega arith)
      (fall_rest (name_falls text 19 b st.next) (λ st₂ t₂ u₂. after_w (initializer_rests b st.next st₂ t₂ u₂) λ st₃ t₃ u₃ g. weak_w (λ n i. omega arith)
      (rest_rest (annotations_rests text b st.next) (node_rests text st.next 13 0 st₂.last.start b p) st₃ t₃ u₃)) st₁ t₁ u₁)

  pub enum_members_falls : (b p : ℕ) → Falls text (enum_members_in text b p)
  unfolding enum_members_in
  enum_members_falls b p = members_falls text 34 35 _ (member_falls b p)
