-- A definition leaves fewer bytes than there were: its keyword is taken.
use mathlib.Core.Path.{◌≡◌, refl}
use mathlib.Core.Bool.{Bool, true, false}
use mathlib.Core.List.{List}
use Prim.Native.Nat.{ℕ}
use native.Mathlib.Omega.{arith}
use lib.Dec.{eqb}
use borrow.Author.Tests.{eqb-true}
use Rattle.ast.specs.Records.{no_parent}
use Rattle.steps.specs.declared.state.State.{State}
use Rattle.steps.specs.Into.{Falls, Rests, Within, code_of, M, after, advanced, advance_in, bytes_left, opened, own_in, owns}
use Rattle.steps.proofs.Bytes.{weak_w, after_w, cond_w, cond_known, falls_rests, rest_rest, refused_w, some_by, stays_w, advanced_w, expect_falls, node_rests, comments_rests}
use Rattle.parse_values.proofs.Bytes.{type_falls, value_falls}
use Rattle.parser.specs.Definitions.{nesting}
use Rattle.parse_fields.proofs.Bytes.{token_falls, name_falls, annotations_rests, fields_falls}
use Rattle.parse_members.proofs.Bytes.{functions_falls, enum_members_falls}
use Rattle.parse_definitions.specs.Into.{
  begin_in,
  own_record_in,
  define_in,
  include_in,
  included_in,
  scoped_name_in,
  constant_in,
  enum_body_in,
  structure_body_in,
  service_body_in,
  definition_by,
  scope_in,
  namespace_in,
  typed_name_in,
  const_in,
  typedef_in,
  enum_in,
  structure_in,
  extends_in,
  service_head_in,
  service_in,
  definition_in,
}

module _ (text : List ℕ) where
  extends_rests : (b p : ℕ) → Rests text (extends_in text b p)
  unfolding extends_in
  extends_rests b p st t u =
      cond_known (eqb (code_of st) 11)
      (λ e. weak_w (λ n h. omega arith) (advanced_w text st (some_by (λ n. eqb n 11) refl (code_of st) e) (name_falls text 18 b p (advanced text st) t u)))
      (λ e. stays_w text st t u)

  scope_rests : (b p : ℕ) → Rests text (scope_in text b p)
  unfolding scope_in
  scope_rests b p st t u =
      weak_w (λ n h. omega arith) (cond_w (eqb (code_of st) 47) (token_falls text 47 11 16 b p st t u) (name_falls text 11 b p st t u))

  typed_name_rests : (e b p : ℕ) → Rests text (typed_name_in text e b p)
  unfolding typed_name_in
  typed_name_rests e b p = rest_rest (falls_rests (type_falls text nesting b p)) (falls_rests (name_falls text e b p))

  service_head_rests : (b p : ℕ) → Rests text (service_head_in text b p)
  unfolding service_head_in
  service_head_rests b p = rest_rest (falls_rests (name_falls text 17 b p)) (extends_rests b p)

  -- with a keyword ahead
  module _ (b : ℕ) (st : State) (some : eqb (code_of st) 255 ≡ false) (t u : List ℕ) where
    begin_w : Within text 1 (bytes_left text st) (begin_in text st t u)
    unfolding begin_in advance_in own_in owns opened after bytes_left
    begin_w = advanced_w text (owns (opened st)) some (stays_w text (advanced text (owns (opened st))) t _)

    define_w : (k : ℕ) (inside : ℕ → M) → ((n : ℕ) → Rests text (inside n)) → Within text 1 (bytes_left text st) (define_in text b k inside st t u)
    unfolding define_in own_record_in
    define_w k inside f =
        after_w begin_w λ st₁ t₁ u₁ h. weak_w (λ n i. omega arith)
        (rest_rest (f st.next) (node_rests text st.next k 0 st.loc.start b no_parent) st₁ t₁ u₁)

    include_w : (k : ℕ) → Within text 1 (bytes_left text st) (include_in text b k st t u)
    unfolding include_in included_in
    include_w k = define_w k _ (λ n. falls_rests (token_falls text 29 12 16 b n))

    namespace_w : Within text 1 (bytes_left text st) (namespace_in text b st t u)
    unfolding namespace_in scoped_name_in
    namespace_w = define_w 3 _ (λ n. rest_rest (scope_rests b n) (falls_rests (name_falls text 10 b n)))

    const_w : Within text 1 (bytes_left text st) (const_in text b st t u)
    unfolding const_in constant_in
    const_w =
        after_w (define_w 4 _ (λ n. rest_rest (typed_name_rests 13 b n) (rest_rest (falls_rests (expect_falls text 45 2)) (falls_rests (value_falls text nesting b n)))))
        λ st₁ t₁ u₁ h. weak_w (λ n i. omega arith) (comments_rests text true st₁ t₁ u₁)

    typedef_w : Within text 1 (bytes_left text st) (typedef_in text b st t u)
    unfolding typedef_in
    typedef_w = define_w 5 _ (λ n. typed_name_rests 14 b n)

    enum_w : Within text 1 (bytes_left text st) (enum_in text b st t u)
    unfolding enum_in enum_body_in
    enum_w = define_w 6 _ (λ n. rest_rest (falls_rests (name_falls text 15 b n)) (rest_rest (falls_rests (enum_members_falls text b n)) (annotations_rests text b n)))

    structure_w : (k : ℕ) → Within text 1 (bytes_left text st) (structure_in text b k st t u)
    unfolding structure_in structure_body_in
    structure_w k = define_w k _ (λ n. rest_rest (falls_rests (name_falls text 16 b n)) (rest_rest (falls_rests (fields_falls text 34 35 0 b n)) (annotations_rests text b n)))

    service_w : Within text 1 (bytes_left text st) (service_in text b st t u)
    unfolding service_in service_body_in
    service_w = define_w 10 _ (λ n. rest_rest (service_head_rests b n) (rest_rest (falls_rests (functions_falls text b n)) (annotations_rests text b n)))

    all_w : Within text 1 (bytes_left text st) (definition_in text b st t u)
    unfolding definition_in definition_by
    all_w =
        cond_w (eqb (code_of st) 1) namespace_w
        (cond_w (eqb (code_of st) 2) (include_w 2)
        (cond_w (eqb (code_of st) 3) (include_w 1)
        (cond_w (eqb (code_of st) 4) typedef_w
        (cond_w (eqb (code_of st) 5) const_w
        (cond_w (eqb (code_of st) 6) enum_w
        (cond_w (eqb (code_of st) 7) (structure_w 7)
        (cond_w (eqb (code_of st) 8) (structure_w 8)
        (cond_w (eqb (code_of st) 9) (structure_w 9)
        (cond_w (eqb (code_of st) 10) service_w
        (refused_w 2 st _ _))))))))))

  none_w : (b : ℕ) (st : State) → eqb (code_of st) 255 ≡ true → (t u : List ℕ) → Within text 1 (bytes_left text st) (definition_in text b st t u)
  unfolding definition_in definition_by
  none_w b st e t u = let k = eqb-true (code_of st) 255 e in rw k (refused_w 2 _ _ _)

  pub definition_falls : (b : ℕ) → Falls text (definition_in text b)
  definition_falls b st t u = go (eqb (code_of st) 255) refl
    where
      go : (z : Bool) → eqb (code_of st) 255 ≡ z → Within text 1 (bytes_left text st) (definition_in text b st t u)
      go true e = none_w b st e t u
      go false e = all_w b st e t u
