-- What readers of annotations and fields are, as their first call and what follows it.
use mathlib.Core.Path.{◌≡◌, refl, sym, ap, ◌∙◌}
use mathlib.Core.Bool.{Bool, true, false, cond}
use mathlib.Core.List.{List}
use Prim.Native.Nat.{ℕ}
use lib.Dec.{eqb}
use Rattle.steps.specs.declared.state.State.{State}
use Rattle.steps.specs.Packed.{unpacked_loc}
use Rattle.steps.specs.Into.{code_of, ◌⨟◌, advanced, advance_in, after, ahead_of, begin_node_in, done, enclosed_in, expect_in, is_id_at, leaf_in, node_in, open_in, opened, own_in, refused, start_at, sum}
use Rattle.steps.proofs.Shapes.{assoc₃}
use Rattle.parse_values.specs.Into.{type_in, value_in}
use Rattle.parse_fields.specs.Into.{annotation_in, annotations_in, assignment_in, bracketed_in, default_in, field_head_in, field_id_in, field_in, field_name_in, field_tail_in, id_in, is_field_name, name_in, one_separator_in, required_of, skip_required, skip_required_in, token_in}

module _ (text : List ℕ) (b p : ℕ) (st : State) (t u : List ℕ) where
  pub annotation_is : annotation_in text b p st t u ≡ after (enclosed_in 15 st.loc.start b p (λ q. assignment_in text b q) st t u) (one_separator_in text)
  unfolding annotation_in assignment_in enclosed_in open_in after
  annotation_is = sym (assoc₃ (name_in text 2 b st.next (opened st) t u) (expect_in text 45 2) (token_in text 29 2 23 b st.next) (node_in st.next 15 0 st.loc.start b p) (one_separator_in text))

  pub annotations_is : annotations_in text b p st t u ≡ cond (eqb (code_of st) 40) (enclosed_in 14 st.last.start b p (λ q. bracketed_in text b q) st t u) (done st t u)
  unfolding annotations_in bracketed_in advance_in enclosed_in open_in after
  annotations_is = refl

  pub field_id_is : field_id_in text b p st t u ≡
      cond (eqb (code_of st) 32) (cond (is_id_at text (unpacked_loc st.loc)) (after (advance_in text st t u) (leaf_in 17 b p ⨟ expect_in text 43 2)) (refused 9 st t u)) (done st t u)
  unfolding field_id_in id_in advanced ahead_of advance_in after
  field_id_is = refl

  pub field_name_is : field_name_in text b p st t u ≡ cond (is_field_name (code_of st)) (after (advance_in text st t u) (leaf_in 16 b p)) (refused 8 st t u)
  unfolding field_name_in advance_in after
  field_name_is = refl

  pub default_is : default_in text b p st t u ≡ cond (eqb (code_of st) 45) (after (advance_in text st t u) (value_in text 32 b p)) (done st t u)
  unfolding default_in advance_in after
  default_is = refl

  pub field_head_is : field_head_in text b p st t u ≡ after (skip_required_in text st t u) (type_in text 32 b p ⨟ field_name_in text b p)
  unfolding field_head_in skip_required_in after
  field_head_is = refl

pub skip_required_is : (text : List ℕ) (st : State) (t u : List ℕ) {flag : ℕ} → flag ≡ required_of (code_of st) → skip_required_in text st t u ≡ cond (eqb flag 0) (done st t u) (advance_in text st t u)
unfolding skip_required_in skip_required advance_in
skip_required_is text st t u {flag} h = go (eqb (required_of (code_of st)) 0) ∙ ap (λ (n : ℕ). cond (eqb n 0) (done st t u) (done (advanced text st) t u)) (sym h)
  where
    go : (b : Bool) → done (cond b st (advanced text st)) t u ≡ cond b (done st t u) (done (advanced text st) t u)
    go true = refl
    go false = refl

pub field_is : (text : List ℕ) (f b p : ℕ) (st : State) (t u : List ℕ) {start : ℕ} → start ≡ start_at st → field_in text f b p st t u ≡
    after (begin_node_in st t u) (field_id_in text b st.next ⨟ λ st₁ t u. after (field_head_in text b st.next st₁ t u) (field_tail_in text b st.next ⨟ node_in st.next 12 (sum (required_of (code_of st₁)) f) start b p))
unfolding field_in begin_node_in open_in after
field_is text f b p st t u s =
    ap (λ (x : ℕ). after (own_in st.next (opened st) t u) (field_id_in text b st.next ⨟ λ st₁ t u. after (field_head_in text b st.next st₁ t u) (field_tail_in text b st.next ⨟ node_in st.next 12 (sum (required_of (code_of st₁)) f) x b p)))
    (sym s)
