-- A type and a value leave the comment table as it was, whether they are read or refused.
use mathlib.Core.Bool.{true, false}
use mathlib.Core.List.{List}
use Prim.Native.Nat.{ℕ, zero, suc}
use lib.Dec.{eqb}
use Rattle.steps.specs.declared.state.State.{State}
use Rattle.steps.specs.Into.{M, Quiet, closes_at, code_of, opened, start_at}
use Rattle.steps.proofs.Quiet.{after_q, cond_q, then_q, refused_quiet, take_quiet, expect_quiet, leaf_quiet, node_quiet, skip_quiet, loop_quiet}
use Rattle.parse_values.specs.Into.{
  leaf_type,
  container_type,
  contained_in,
  complex_in,
  type_by,
  type_in,
  leaf_value,
  skip_both_in,
  elements_in,
  list_in,
  property_in,
  properties_in,
  map_in,
  is_opener,
  value_by,
  value_in,
}

module _ (text : List ℕ) where
  -- ---- types

  contained_quiet : (k : ℕ) {inner : M} → Quiet inner → Quiet (contained_in text k inner)
  unfolding contained_in
  contained_quiet k f st t u = cond_q (eqb k 22) (then_q f (then_q (expect_quiet text 44 2) f) st t u) (f st t u)

  complex_quiet : (k : ℕ) (inner : ℕ → M) → ((q : ℕ) → Quiet (inner q)) → (b p : ℕ) → Quiet (complex_in text k inner b p)
  unfolding complex_in
  complex_quiet k inner f b p st t u =
      after_q (expect_quiet text 38 2 (opened st) t u)
      (then_q (contained_quiet k (f st.next)) (then_q (expect_quiet text 39 2) (node_quiet st.next k 0 st.last.start b p)))

  type_by_quiet : (inside : State → ℕ → M) → ((st : State) (k : ℕ) → Quiet (inside st k)) → (b p : ℕ) → Quiet (type_by text inside b p)
  unfolding type_by
  type_by_quiet inside f b p st t u =
      after_q (take_quiet text st t u) λ st₁ t₁ u₁.
      cond_q (eqb (leaf_type (code_of st)) 0)
      (cond_q (eqb (container_type (code_of st)) 0) (refused_quiet 4 st t₁ u₁) (f st (container_type (code_of st)) st₁ t₁ u₁))
      (leaf_quiet (leaf_type (code_of st)) b p st₁ t₁ u₁)

  pub type_quiet : (d b p : ℕ) → Quiet (type_in text d b p)
  unfolding type_in
  type_quiet zero b p = type_by_quiet _ (λ st k st₁ t u. refused_quiet 23 st t u) b p
  type_quiet (suc d) b p = type_by_quiet _ (λ st k. complex_quiet k _ (λ q. type_quiet d b q) b p) b p

  -- ---- values

  both_quiet : Quiet (skip_both_in text)
  unfolding skip_both_in
  both_quiet = then_q (skip_quiet text true) (skip_quiet text false)

  module _ (value : ℕ → M) (f : (q : ℕ) → Quiet (value q)) (b : ℕ) where
    property_quiet : (p : ℕ) → Quiet (property_in text value b p)
    unfolding property_in
    property_quiet p st t u =
        after_q (f st.next (opened st) t u)
        (then_q (expect_quiet text 43 2) (then_q (f st.next) (node_quiet st.next 31 0 (start_at st) b p)))

    list_quiet : (p : ℕ) → Quiet (list_in text value b p)
    unfolding list_in elements_in
    list_quiet p st t u =
        after_q (loop_quiet _ _ _ (closes_at 37) both_quiet (take_quiet text) (f st.next) text (opened st) t u) (node_quiet st.next 29 0 st.last.start b p)

    map_quiet : (p : ℕ) → Quiet (map_in text value b p)
    unfolding map_in properties_in
    map_quiet p st t u =
        after_q (loop_quiet _ _ _ (closes_at 35) both_quiet (take_quiet text) (property_quiet st.next) text (opened st) t u) (node_quiet st.next 30 0 st.last.start b p)

  value_by_quiet : (inside : State → M) → ((st : State) → Quiet (inside st)) → (b p : ℕ) → Quiet (value_by text inside b p)
  unfolding value_by
  value_by_quiet inside f b p st t u =
      after_q (take_quiet text st t u) λ st₁ t₁ u₁.
      cond_q (eqb (leaf_value (code_of st)) 0) (cond_q (is_opener (code_of st)) (f st st₁ t₁ u₁) (refused_quiet 6 st t₁ u₁))
      (leaf_quiet (leaf_value (code_of st)) b p st₁ t₁ u₁)

  pub value_quiet : (d b p : ℕ) → Quiet (value_in text d b p)
  unfolding value_in
  value_quiet zero b p = value_by_quiet _ (λ st st₁ t u. refused_quiet 23 st t u) b p
  value_quiet (suc d) b p =
      value_by_quiet _
      (λ st st₁ t u. cond_q (eqb (code_of st) 36) (list_quiet _ (λ q. value_quiet d b q) b p st₁ t u) (map_quiet _ (λ q. value_quiet d b q) b p st₁ t u)) b p
