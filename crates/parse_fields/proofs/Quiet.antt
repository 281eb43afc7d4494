-- A token, a name and annotations leave the comment table as it was, whether they are read or refused.
use mathlib.Core.Bool.{false}
use mathlib.Core.List.{List}
use Prim.Native.Nat.{ℕ}
use lib.Dec.{eqb}
use Rattle.steps.specs.Into.{Quiet, answers, closes_at, code_of, is_separator, opened, advanced}
use Rattle.steps.proofs.Quiet.{after_q, cond_q, then_q, take_quiet, expect_quiet, leaf_quiet, node_quiet, skip_quiet, loop_quiet}
use Rattle.parse_fields.specs.Into.{token_in, name_in, one_separator_in, annotation_in, annotation_list_in, annotations_in}

module _ (text : List ℕ) where
  pub token_quiet : (w e k b p : ℕ) → Quiet (token_in text w e k b p)
  unfolding token_in
  token_quiet w e k b p = then_q (expect_quiet text w e) (leaf_quiet k b p)

  pub name_quiet : (e b p : ℕ) → Quiet (name_in text e b p)
  unfolding name_in
  name_quiet e b p = token_quiet 28 e 16 b p

  one_separator_quiet : Quiet (one_separator_in text)
  unfolding one_separator_in
  one_separator_quiet st t u = cond_q (is_separator (code_of st)) answers answers

  annotation_quiet : (b p : ℕ) → Quiet (annotation_in text b p)
  unfolding annotation_in
  annotation_quiet b p st t u =
      after_q (name_quiet 2 b st.next (opened st) t u)
      (then_q (expect_quiet text 45 2)
      (then_q (token_quiet 29 2 23 b st.next) (then_q (node_quiet st.next 15 0 st.loc.start b p) one_separator_quiet)))

  annotation_list_quiet : (b p : ℕ) → Quiet (annotation_list_in text b p)
  unfolding annotation_list_in
  annotation_list_quiet b p = loop_quiet _ _ _ (closes_at 41) (skip_quiet text false) (take_quiet text) (annotation_quiet b p) text

  pub annotations_quiet : (b p : ℕ) → Quiet (annotations_in text b p)
  unfolding annotations_in
  annotations_quiet b p st t u =
      cond_q (eqb (code_of st) 40)
      (after_q (annotation_list_quiet b st.next (advanced text (opened st)) t u) (node_quiet st.next 14 0 st.last.start b p))
      answers
