-- What the readers of names, annotations and fields leave: fewer bytes than there were (..-falls), or no more (..-rests).
use mathlib.Core.Path.{◌≡◌, refl, ap}
use mathlib.Core.Bool.{Bool, true, false, not, cond}
use mathlib.Core.List.{List}
use Prim.Native.Nat.{ℕ, ◌≤◌}
use native.Mathlib.Omega.{arith}
use lib.Dec.{eqb}
use Rattle.steps.specs.declared.state.State.{State}
use Rattle.steps.specs.Packed.{unpacked_loc}
use Rattle.steps.specs.Into.{Falls, Rests, code_of, M, advanced, bytes_left, closes_at, is_separator, opened, skip_in, start_at, sum, take_in, is_id_at}
use Rattle.steps.proofs.Bytes.{weak_w, after_w, cond_w, cond_known, falls_rests, fall_rest, rest_fall, rest_rest, refused_w, stays_w, some_by, advance_falls, advanced_w, opened_w, take_falls, expect_falls, leaf_rests, node_rests, own_rests, skip_rests, comments_rests, separator_some}
use Rattle.steps.proofs.LoopForms.{loop_rests}
use Rattle.parse_values.proofs.Bytes.{type_falls, value_falls}
use Rattle.parser.specs.Definitions.{nesting}
use Rattle.parse_fields.specs.Into.{
  token_in,
  name_in,
  one_separator_in,
  annotation_in,
  annotation_list_in,
  annotations_in,
  id_in,
  field_id_in,
  required_of,
  skip_required,
  is_early_name,
  is_field_name,
  field_name_in,
  default_in,
  field_head_in,
  field_tail_in,
  field_in,
  skip_member_in,
  members_in,
  fields_in,
}

module _ (text : List ℕ) where
  -- ---- tokens and names

  pub token_falls : (w e k b p : ℕ) → Falls text (token_in text w e k b p)
  unfolding token_in
  token_falls w e k b p = fall_rest (expect_falls text w e) (leaf_rests text k b p)

  pub name_falls : (e b p : ℕ) → Falls text (name_in text e b p)
  unfolding name_in
  name_falls e b p = token_falls 28 e 16 b p

  -- ---- annotations

  one_separator_rests : Rests text (one_separator_in text)
  unfolding one_separator_in
  one_separator_rests st t u =
      cond_known (is_separator (code_of st))
      (λ e. weak_w (λ n h. omega arith) (advanced_w text st (separator_some (code_of st) e) (stays_w text (advanced text st) t u))) (λ e. stays_w text st t u)

  pub annotation_falls : (b p : ℕ) → Falls text (annotation_in text b p)
  unfolding annotation_in
  annotation_falls b p st t u =
      after_w (opened_w text st (name_falls 2 b st.next _ t u)) λ st₁ t₁ u₁ h. weak_w (λ n i. omega arith)
      (fall_rest (expect_falls text 45 2) (falls_rests (fall_rest (token_falls 29 2 23 b st.next)
      (rest_rest (node_rests text st.next 15 0 st.loc.start b p) one_separator_rests))) st₁ t₁ u₁)

  annotation_list_rests : (b p : ℕ) → Rests text (annotation_list_in text b p)
  unfolding annotation_list_in
  annotation_list_rests b p =
      loop_rests text (closes_at 41) (skip_in text false) (take_in text) (annotation_in text b p) (skip_rests text false) (annotation_falls b p) (falls_rests (take_falls text))

  opened_some : (st : State) → eqb (code_of st) 40 ≡ true → eqb (code_of (opened st)) 255 ≡ false
  unfolding opened
  opened_some st e = some_by (λ n. eqb n 40) refl (code_of st) e

  pub annotations_rests : (b p : ℕ) → Rests text (annotations_in text b p)
  unfolding annotations_in
  annotations_rests b p st t u =
      cond_known (eqb (code_of st) 40)
      (λ e. after_w (opened_w text st (advanced_w text (opened st) (opened_some st e) (annotation_list_rests b st.next (advanced text (opened st)) t u)))
      λ st₁ t₁ u₁ h. weak_w (λ n i. omega arith) (node_rests text st.next 14 0 st.last.start b p st₁ t₁ u₁))
      (λ e. stays_w text st t u)

  -- ---- fields

  id_rests : (before : State) (b p : ℕ) → Rests text (id_in text before b p)
  unfolding id_in
  id_rests before b p st t u =
      cond_w (is_id_at text (unpacked_loc st.last)) (rest_rest (leaf_rests text 17 b p) (falls_rests (expect_falls text 43 2)) st t u) (refused_w 9 before _ _)

  field_id_rests : (b p : ℕ) → Rests text (field_id_in text b p)
  unfolding field_id_in
  field_id_rests b p st t u =
      cond_known (eqb (code_of st) 32)
      (λ e. weak_w (λ n h. omega arith) (advanced_w text st (some_by (λ n. eqb n 32) refl (code_of st) e) (id_rests st b p (advanced text st) t u)))
      (λ e. stays_w text st t u)

  required_some : (k : ℕ) → eqb (required_of k) 0 ≡ false → eqb k 255 ≡ false
  unfolding required_of
  required_some k e = some_by (λ n. not (eqb (required_of n) 0)) refl k (ap not e)

  required_left : (st : State) → bytes_left text (skip_required text st) ≤ bytes_left text st
  unfolding skip_required
  required_left st = go (eqb (required_of (code_of st)) 0) refl
    where
      go : (b : Bool) → eqb (required_of (code_of st)) 0 ≡ b → bytes_left text (cond b st (advanced text st)) ≤ bytes_left text st
      go true e = omega arith
      go false e = omega (arith, advance_falls text st (required_some (code_of st) e))

  field_name_falls : (b p : ℕ) → Falls text (field_name_in text b p)
  unfolding field_name_in is_field_name is_early_name
  field_name_falls b p st t u =
      cond_known (is_field_name (code_of st))
      (λ e. advanced_w text st (some_by is_field_name refl (code_of st) e) (leaf_rests text 16 b p (advanced text st) t u)) (λ e. refused_w 8 st _ _)

  pub default_rests : (b p : ℕ) → Rests text (default_in text b p)
  unfolding default_in
  default_rests b p st t u =
      cond_known (eqb (code_of st) 45)
      (λ e. weak_w (λ n h. omega arith) (advanced_w text st (some_by (λ n. eqb n 45) refl (code_of st) e) (value_falls text nesting b p (advanced text st) t u)))
      (λ e. stays_w text st t u)

  field_head_falls : (b p : ℕ) → Falls text (field_head_in text b p)
  unfolding field_head_in
  field_head_falls b p st t u =
      after_w (type_falls text nesting b p (skip_required text st) t u) λ st₁ t₁ u₁ h.
      let l = required_left st in weak_w (λ n i. omega arith) (field_name_falls b p st₁ t₁ u₁)

  field_tail_rests : (b p : ℕ) → Rests text (field_tail_in text b p)
  unfolding field_tail_in
  field_tail_rests b p = rest_rest (default_rests b p) (annotations_rests b p)

  pub field_falls : (f b p : ℕ) → Falls text (field_in text f b p)
  unfolding field_in
  field_falls f b p st t u =
      after_w (opened_w text st (own_rests text st.next (opened st) t u)) λ st₁ t₁ u₁ h. weak_w (λ n i. omega arith)
      (rest_fall (field_id_rests b st.next) (λ st₂ t₂ u₂. after_w (field_head_falls b st.next st₂ t₂ u₂) λ st₃ t₃ u₃ g. weak_w (λ n i. omega arith)
      (rest_rest (field_tail_rests b st.next) (node_rests text st.next 12 (sum (required_of (code_of st₂)) f) (start_at st) b p) st₃ t₃ u₃)) st₁ t₁ u₁)

  -- ---- members

  pub skip_member_rests : Rests text (skip_member_in text)
  unfolding skip_member_in
  skip_member_rests = rest_rest (skip_rests text true) (comments_rests text false)

  pub members_falls : (o k : ℕ) (member : M) → Falls text member → Falls text (members_in text o k member)
  unfolding members_in
  members_falls o k member f =
      fall_rest (expect_falls text o 2) (loop_rests text (closes_at k) (skip_member_in text) (take_in text) member skip_member_rests f (falls_rests (take_falls text)))

  pub fields_falls : (o k f b p : ℕ) → Falls text (fields_in text o k f b p)
  unfolding fields_in
  fields_falls o k f b p = members_falls o k _ (field_falls f b p)
