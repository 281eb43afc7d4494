-- What a type or a value leaves: fewer bytes than there were.
--     type_falls, value_falls, property_falls     each takes a token
--     both_rests          what a turn skips puts none back
use mathlib.Core.Bool.{true, false}
use mathlib.Core.List.{List}
use Prim.Native.Nat.{ℕ, zero, suc}
use native.Mathlib.Omega.{arith}
use lib.Dec.{eqb}
use Rattle.steps.specs.declared.state.State.{State}
use Rattle.steps.specs.Into.{Falls, Rests, code_of, M, closes_at, take_in}
use Rattle.steps.proofs.Bytes.{weak_w, after_w, cond_w, falls_rests, fall_rest, rest_rest, refused_w, take_falls, expect_falls, leaf_rests, node_rests, opened_w, skip_rests}
use Rattle.steps.proofs.LoopForms.{loop_rests}
use Rattle.parse_values.specs.Into.{
  leaf_type,
  container_type,
  contained_in,
  complex_in,
  type_by,
  type_in,
  leaf_value,
  skip_both_in,
  elements_in,
  list_in,
  property_in,
  properties_in,
  map_in,
  is_opener,
  value_by,
  value_in,
}

module _ (text : List ℕ) where
  -- ---- types

  contained_falls : (k : ℕ) (inner : M) → Falls text inner → Falls text (contained_in text k inner)
  unfolding contained_in
  contained_falls k inner f st t u = cond_w (eqb k 22) (fall_rest f (falls_rests (fall_rest (expect_falls text 44 2) (falls_rests f))) st t u) (f st t u)

  complex_rests : (k : ℕ) (inner : ℕ → M) → ((q : ℕ) → Falls text (inner q)) → (b p : ℕ) → Rests text (complex_in text k inner b p)
  unfolding complex_in
  complex_rests k inner f b p st t u =
      after_w (opened_w text st (expect_falls text 38 2 _ t u)) λ st₁ t₁ u₁ h. weak_w (λ n i. omega arith)
      (fall_rest (contained_falls k (inner st.next) (f st.next)) (falls_rests (fall_rest (expect_falls text 39 2) (node_rests text st.next k 0 st.last.start b p))) st₁ t₁ u₁)

  type_by_falls : (inside : State → ℕ → M) → ((st : State) (k : ℕ) → Rests text (inside st k)) → (b p : ℕ) → Falls text (type_by text inside b p)
  unfolding type_by
  type_by_falls inside f b p st t u =
      after_w (take_falls text st t u) λ st₁ t₁ u₁ h. weak_w (λ n i. omega arith)
      (cond_w (eqb (leaf_type (code_of st)) 0) (cond_w (eqb (container_type (code_of st)) 0) (refused_w 4 st _ _) (f st (container_type (code_of st)) st₁ t₁ u₁))
      (leaf_rests text (leaf_type (code_of st)) b p st₁ t₁ u₁))

  pub type_falls : (d b p : ℕ) → Falls text (type_in text d b p)
  unfolding type_in
  type_falls zero b p = type_by_falls _ (λ st k st₁ t u. refused_w 23 st _ _) b p
  type_falls (suc d) b p = type_by_falls _ (λ st k. complex_rests k _ (λ q. type_falls d b q) b p) b p

  -- ---- values

  pub both_rests : Rests text (skip_both_in text)
  unfolding skip_both_in
  both_rests = rest_rest (skip_rests text true) (skip_rests text false)

  module _ (value : ℕ → M) (falls : (q : ℕ) → Falls text (value q)) (b : ℕ) where
    pub property_falls : (p : ℕ) → Falls text (property_in text value b p)
    unfolding property_in
    property_falls p st t u =
        after_w (opened_w text st (falls st.next _ t u)) λ st₁ t₁ u₁ h. weak_w (λ n i. omega arith)
        (fall_rest (expect_falls text 43 2) (falls_rests (fall_rest (falls st.next) (node_rests text st.next 31 0 _ b p))) st₁ t₁ u₁)

    list_rests : (p : ℕ) → Rests text (list_in text value b p)
    unfolding list_in elements_in
    list_rests p st t u =
        after_w (opened_w text st (loop_rests text (closes_at 37) (skip_both_in text) (take_in text) (value st.next) both_rests (falls st.next) (falls_rests (take_falls text)) _ t u))
        λ st₁ t₁ u₁ h. weak_w (λ n i. omega arith) (node_rests text st.next 29 0 st.last.start b p st₁ t₁ u₁)

    map_rests : (p : ℕ) → Rests text (map_in text value b p)
    unfolding map_in properties_in
    map_rests p st t u =
        after_w (opened_w text st (loop_rests text (closes_at 35) (skip_both_in text) (take_in text) (property_in text value b st.next) both_rests (property_falls st.next) (falls_rests (take_falls text)) _ t u))
        λ st₁ t₁ u₁ h. weak_w (λ n i. omega arith) (node_rests text st.next 30 0 st.last.start b p st₁ t₁ u₁)

  value_by_falls : (inside : State → M) → ((st : State) → Rests text (inside st)) → (b p : ℕ) → Falls text (value_by text inside b p)
  unfolding value_by
  value_by_falls inside f b p st t u =
      after_w (take_falls text st t u) λ st₁ t₁ u₁ h. weak_w (λ n i. omega arith)
      (cond_w (eqb (leaf_value (code_of st)) 0) (cond_w (is_opener (code_of st)) (f st st₁ t₁ u₁) (refused_w 6 st _ _))
      (leaf_rests text (leaf_value (code_of st)) b p st₁ t₁ u₁))

  pub value_falls : (d b p : ℕ) → Falls text (value_in text d b p)
  unfolding value_in
  value_falls zero b p = value_by_falls _ (λ st st₁ t u. refused_w 23 st _ _) b p
  value_falls (suc d) b p =
      value_by_falls _
      (λ st st₁ t u. cond_w (eqb (code_of st) 36) (list_rests _ (λ q. value_falls d b q) b p st₁ t u) (map_rests _ (λ q. value_falls d b q) b p st₁ t u)) b p
