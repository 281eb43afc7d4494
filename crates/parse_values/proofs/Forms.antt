-- What each reader of types and values is, as its first call and what follows it; its tests are those of the code.
use mathlib.Core.Path.{◌≡◌, refl, sym, ap, ◌∙◌}
use mathlib.Core.Bool.{Bool, true, false, cond}
use mathlib.Core.List.{List}
use Prim.Native.Nat.{ℕ, zero, suc, ◌-◌}
use native.Mathlib.Omega.{arith}
use lib.Dec.{eqb}
use borrow.Author.Tests.{ne_eqb}
use Rattle.steps.specs.declared.state.State.{State}
use Rattle.steps.specs.Into.{code_of, M, Out, done, ◌⨟◌, after, advanced, advance_in, enclosed_in, expect_in, leaf_in, node_in, open_in, opened, refused, start_at, take_in}
use Rattle.steps.proofs.Shapes.{assoc₂, halted}
use Rattle.parse_values.specs.Into.{
  angles_in,
  contained_in,
  complex_in,
  container_type,
  elements_in,
  is_opener,
  leaf_type,
  leaf_value,
  list_in,
  map_in,
  pair_in,
  properties_in,
  property_in,
  type_by,
  type_in,
  value_by,
  value_in,
}

-- a claim of no depth and of one more, by the test of the code
by_depth : (F : Bool → ℕ → Out) (d : ℕ) → F false d ≡ F (eqb (suc d) 0) (suc d - 1)
by_depth F d = ap (λ (z : Bool). F z d) (sym (ne_eqb (suc d) 0 (λ e. omega arith))) ∙ ap (F (eqb (suc d) 0)) (omega arith)

-- a token that is there is taken
module _ (text : List ℕ) (st : State) (t u : List ℕ) where
  taken : (k : M) → after (take_in text st t u) k ≡ cond (eqb (code_of st) 255) (refused 3 st t u) (k (advanced text st) t u)
  unfolding take_in after
  taken k = go (eqb (code_of st) 255)
    where
      go : (b : Bool) → after (cond b (refused 3 st t u) (done (advanced text st) t u)) k ≡ cond b (refused 3 st t u) (k (advanced text st) t u)
      go true = halted 3 st t u k
      go false = refl

-- by the first token of a type or a value: its record as a leaf, its record as a container, and whether no container is left
abbrev pub by_token : ℕ → ℕ → ℕ → Bool → Out → Out → M
by_token e leaf container none inside alone st t u =
    cond (eqb (code_of st) 255) (refused 3 st t u) (cond (eqb leaf 0) (cond (eqb container 0) (refused e st t u) (cond none (refused 23 st t u) inside)) alone)

-- ---- types

module _ (text : List ℕ) (k : ℕ) (inner : ℕ → M) (b p : ℕ) (st : State) (t u : List ℕ) where
  pub complex_is : complex_in text k inner b p st t u ≡ enclosed_in k st.last.start b p (λ q. angles_in text k (inner q)) st t u
  unfolding complex_in enclosed_in angles_in open_in after
  complex_is = sym (assoc₂ (expect_in text 38 2 (opened st) t u) (contained_in text k (inner st.next)) (expect_in text 39 2) (node_in st.next k 0 st.last.start b p))

abbrev pub type_rest : List ℕ → ℕ → ℕ → ℕ → ℕ → Bool → ℕ → M
type_rest text b p leaf container none d st t u =
    by_token 4 leaf container none (after (advance_in text st t u) (complex_in text container (λ q. type_in text d b q) b p)) (after (advance_in text st t u) (leaf_in leaf b p)) st t u

type_at : (text : List ℕ) (d b p : ℕ) (st : State) (t u : List ℕ) → type_in text d b p st t u ≡ type_rest text b p (leaf_type (code_of st)) (container_type (code_of st)) (eqb d 0) (d - 1) st t u
unfolding type_in type_by advance_in after
type_at text zero b p st t u = taken text st t u _
type_at text (suc d) b p st t u =
    taken text st t u _ ∙ by_depth (λ z n. type_rest text b p (leaf_type (code_of st)) (container_type (code_of st)) z n st t u) d

type_is : (text : List ℕ) (d b p : ℕ) (st : State) (t u : List ℕ) {leaf container : ℕ} → leaf ≡ leaf_type (code_of st) → container ≡ container_type (code_of st) →
    type_in text d b p st t u ≡ type_rest text b p leaf container (eqb d 0) (d - 1) st t u
type_is text d b p st t u {leaf} {container} l c =
    type_at text d b p st t u
    ∙ ap (λ (x : ℕ). type_rest text b p x (container_type (code_of st)) (eqb d 0) (d - 1) st t u) (sym l)
    ∙ ap (λ (x : ℕ). type_rest text b p leaf x (eqb d 0) (d - 1) st t u) (sym c)

module _ (text : List ℕ) (d b p : ℕ) (st : State) (t u : List ℕ) where
  pub type_absent : eqb (code_of st) 255 ≡ true → type_in text d b p st t u ≡ refused 3 st t u
  type_absent h = type_is text d b p st t u refl refl ∙ rw h

  module _ (h : eqb (code_of st) 255 ≡ false) where
    pub type_alone : {leaf : ℕ} → leaf ≡ leaf_type (code_of st) → eqb leaf 0 ≡ false → type_in text d b p st t u ≡ after (advance_in text st t u) (leaf_in leaf b p)
    type_alone l z = type_is text d b p st t u l refl ∙ rw (h, z)

    pub type_unknown : 0 ≡ leaf_type (code_of st) → 0 ≡ container_type (code_of st) → type_in text d b p st t u ≡ refused 4 st t u
    type_unknown l k = type_is text d b p st t u l k ∙ rw h

    module _ {container : ℕ} (l : 0 ≡ leaf_type (code_of st)) (k : container ≡ container_type (code_of st)) (z : eqb container 0 ≡ false) where
      pub type_deep : eqb d 0 ≡ true → type_in text d b p st t u ≡ refused 23 st t u
      type_deep n = type_is text d b p st t u l k ∙ rw (h, z, n)

      pub type_inside : eqb d 0 ≡ false → type_in text d b p st t u ≡ after (advance_in text st t u) (complex_in text container (λ q. type_in text (d - 1) b q) b p)
      type_inside n = type_is text d b p st t u l k ∙ rw (h, z, n)

-- ---- values

module _ (text : List ℕ) (value : ℕ → M) (b p : ℕ) (st : State) (t u : List ℕ) where
  pub list_is : list_in text value b p st t u ≡ enclosed_in 29 st.last.start b p (λ q. elements_in text (value q)) st t u
  unfolding list_in enclosed_in open_in after
  list_is = refl

  pub map_is : map_in text value b p st t u ≡ enclosed_in 30 st.last.start b p (λ q. properties_in text (property_in text value b q)) st t u
  unfolding map_in enclosed_in open_in after
  map_is = refl

  pub property_is : {start : ℕ} → start ≡ start_at st → property_in text value b p st t u ≡ enclosed_in 31 start b p (λ q. pair_in text (value q)) st t u
  unfolding property_in enclosed_in pair_in open_in after
  property_is {start} h =
      ap (λ (s : ℕ). after (value st.next (opened st) t u) (expect_in text 43 2 ⨟ (value st.next ⨟ node_in st.next 31 0 s b p))) (sym h)
      ∙ sym (assoc₂ (value st.next (opened st) t u) (expect_in text 43 2) (value st.next) (node_in st.next 31 0 start b p))

-- by a value's first token: its record as a leaf, and whether no container is left
abbrev value_rest : List ℕ → ℕ → ℕ → ℕ → Bool → ℕ → M
value_rest text b p leaf none d st t u =
    cond (eqb (code_of st) 255) (refused 3 st t u)
    (cond (eqb leaf 0)
    (cond (is_opener (code_of st))
    (cond none (refused 23 st t u)
    (cond (eqb (code_of st) 36) (after (advance_in text st t u) (list_in text (λ q. value_in text d b q) b p)) (after (advance_in text st t u) (map_in text (λ q. value_in text d b q) b p)))) (refused 6 st t u))
    (after (advance_in text st t u) (leaf_in leaf b p)))

value_at_law : (text : List ℕ) (d b p : ℕ) (st : State) (t u : List ℕ) → value_in text d b p st t u ≡ value_rest text b p (leaf_value (code_of st)) (eqb d 0) (d - 1) st t u
unfolding value_in value_by advance_in after
value_at_law text zero b p st t u = taken text st t u _
value_at_law text (suc d) b p st t u = taken text st t u _ ∙ by_depth (λ z n. value_rest text b p (leaf_value (code_of st)) z n st t u) d

value_is : (text : List ℕ) (d b p : ℕ) (st : State) (t u : List ℕ) {leaf : ℕ} → leaf ≡ leaf_value (code_of st) → value_in text d b p st t u ≡ value_rest text b p leaf (eqb d 0) (d - 1) st t u
value_is text d b p st t u {leaf} l = value_at_law text d b p st t u ∙ ap (λ (x : ℕ). value_rest text b p x (eqb d 0) (d - 1) st t u) (sym l)

module _ (text : List ℕ) (d b p : ℕ) (st : State) (t u : List ℕ) where
  pub value_absent : eqb (code_of st) 255 ≡ true → value_in text d b p st t u ≡ refused 3 st t u
  value_absent h = value_is text d b p st t u refl ∙ rw h

  module _ (h : eqb (code_of st) 255 ≡ false) where
    pub value_alone : {leaf : ℕ} → leaf ≡ leaf_value (code_of st) → eqb leaf 0 ≡ false → value_in text d b p st t u ≡ after (advance_in text st t u) (leaf_in leaf b p)
    value_alone l z = value_is text d b p st t u l ∙ rw (h, z)

    module _ (l : 0 ≡ leaf_value (code_of st)) where
      pub value_unknown : is_opener (code_of st) ≡ false → value_in text d b p st t u ≡ refused 6 st t u
      value_unknown o = value_is text d b p st t u l ∙ rw (h, o)

      module _ (o : is_opener (code_of st) ≡ true) where
        pub value_deep : eqb d 0 ≡ true → value_in text d b p st t u ≡ refused 23 st t u
        value_deep n = value_is text d b p st t u l ∙ rw (h, o, n)

        module _ (n : eqb d 0 ≡ false) where
          pub value_list : eqb (code_of st) 36 ≡ true → value_in text d b p st t u ≡ after (advance_in text st t u) (list_in text (λ q. value_in text (d - 1) b q) b p)
          value_list k = value_is text d b p st t u l ∙ rw (h, o, n, k)

          pub value_map : eqb (code_of st) 36 ≡ false → value_in text d b p st t u ≡ after (advance_in text st t u) (map_in text (λ q. value_in text (d - 1) b q) b p)
          value_map k = value_is text d b p st t u l ∙ rw (h, o, n, k)
