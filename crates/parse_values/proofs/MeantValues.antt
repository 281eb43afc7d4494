-- The code (its model, specs/Into) reads constant values as the definitions do.
--     value_m             a value, with so many containers left
use mathlib.Core.Path.{◌≡◌, refl, ap, ◌∙◌}
use mathlib.Core.Bool.{cond}
use mathlib.Core.List.{List, []}
use Prim.Native.Nat.{ℕ, zero, suc, ◌≤◌}
use lib.Dec.{eqb}
use lib.ListN.{length}
use Rattle.token.specs.Code.{code, is, among}
use Rattle.token.specs.declared.Token.{Token}
use Rattle.token.specs.declared.Token.TheVariants as T
use Rattle.lexer.specs.declared.location.LOC.{LOC}
use Rattle.lexer.specs.Tokens.{Lexeme, lexeme}
use Rattle.ast.specs.Ast.{FieldInitialValue, nil, cons, Properties, pnil}
use Rattle.ast.specs.Tree.{Tree, Forest, bare, grown, leaf, inner, single, both, value_kind, literal_tree, value_tree, element_trees, property_trees}
use Rattle.steps.specs.declared.state.State.{State}
use Rattle.parser.specs.Steps.{kind, place, St, P, refuse}
use Rattle.parser.specs.Values as D
use Rattle.parser.specs.Values.{leaf_values, openers, values_end, Property, property, map_property, list_value, map_value, container_value, field_value}
use Rattle.steps.specs.Into.{Falls, code_of, M, leaf_in, node_in, take_in, closes_at, start_at}
use Rattle.parse_values.specs.Into.{leaf_value, skip_both_in, elements_in, list_in, property_in, properties_in, map_in, is_opener, value_by, value_in}
use Rattle.parse_values.proofs.Bytes.{both_rests, property_falls, value_falls}
use Rattle.parse_values.proofs.KindTests.{leaf_value_none, leaf_value_law, opener_test}
use Rattle.steps.proofs.ForestLaws.{◌⊕◌}
use Rattle.parser.proofs.Paid.{property_tree}
use Rattle.steps.proofs.Seen.{First, last_of, Frame, At, less, regrown, Meant, went, bind_m, cond_m, unless_m, Means}
use Rattle.steps.proofs.StepLaws.{take_m, expect_m, refuse_at_m, here_in, start_in, start_at_law, start_of}
use Rattle.steps.proofs.SkipLaws.{separators_m, discard_m}
use Rattle.steps.proofs.NodeLaws.{open_at, finish_at, leaf_at, Turn, turn_after, turn_last, closed_turn, loop_m}

pub literal_tree_law : (tok : Lexeme) → leaf (value_kind (kind tok)) tok ≡ literal_tree tok
unfolding literal_tree kind
literal_tree_law (lexeme k w l) = refl

put_tree : (a : Property) (ps : Properties) → property_trees (D.put a ps) ≡ grown (property_tree a) (property_trees ps)
unfolding D.put property_trees property_tree
put_tree (property l k v) ps = refl

module _ (text : List ℕ) (short : length text ≤ 65536) where
  values_turn : (k : Token) {i b p : ℕ} {fr : Frame} {f : Forest} {st : State} {t u : List ℕ} {s : St} → At text i b p fr f st t u s
      → Turn text i b p fr f (closes_at (code k)) (take_in text) (skip_both_in text st t u) (values_end k s)
  unfolding skip_both_in values_end
  values_turn k h =
      turn_after (separators_m text short _ h) λ a st₁ t₁ u₁ s₁ h₁. turn_last (discard_m text short _ h₁) λ a st₂ t₂ u₂ s₂ h₂. closed_turn text short k s₂ h₂

  module _ (b : ℕ) (q : P FieldInitialValue) (m : ℕ → M) (falls : (p : ℕ) → Falls text (m p))
      (reads : (i p : ℕ) → Means text i b p (λ a. single (value_tree a)) (m p) q) where
    property_m : {i p : ℕ} {fr : Frame} {f : Forest} {st : State} {t u : List ℕ} {s : St} → At text (suc i) b p fr f st t u s
        → Meant (λ a. At text (suc i) b p fr (f ⊕ single (property_tree a))) (property_in text m b p st t u) (map_property q s)
    unfolding property_in map_property node_in code property_tree inner both single
    property_m {st = st} {s = s} h =
        start_in s _
        (bind_m (reads _ st.next _ _ _ _ _ _ (open_at h)) λ k st₁ t₁ u₁ s₁ h₁.
        bind_m (expect_m text short T.Colon _ 2 h₁) λ x st₂ t₂ u₂ s₂ h₂.
        bind_m (reads _ st.next _ _ st₂ t₂ u₂ s₂ h₂.at) λ v st₃ t₃ u₃ s₃ h₃. here_in s₃ _
        (went (less (finish_at 31 0 (start_of s) (start_at st) [] [] h h₃ (start_at_law s h)))))

    module _ {i p : ℕ} {fr : Frame} {f : Forest} {st : State} {t u : List ℕ} {s : St} (tok : Lexeme) where
      list_m : At text (suc (suc i)) b p fr f st t u s → last_of s ≡ place tok
          → Meant (λ a. At text i b p fr (f ⊕ single (value_tree a))) (list_in text m b p st t u) (list_value q tok s)
      unfolding list_in list_value elements_in node_in code value_tree element_trees inner single
      list_m h e =
          bind_m (loop_m value_tree element_trees (closes_at 37) (skip_both_in text) (take_in text) (m st.next) (both_rests text) (falls st.next) nil cons (values_end T.RightBracket) q refl (λ a x. refl)
          (λ f st t u s h. values_turn T.RightBracket h) (reads _ st.next _) short bare _ _ _ _ (open_at h)) λ vs st₁ t₁ u₁ s₁ h₁. here_in s₁ _
          (went (less (finish_at 29 0 (place tok) st.last.start [] [] h h₁ (ap (λ (l : LOC). l.start) (h.last ∙ e)))))

      map_m : At text (suc (suc i)) b p fr f st t u s → last_of s ≡ place tok
          → Meant (λ a. At text i b p fr (f ⊕ single (value_tree a))) (map_in text m b p st t u) (map_value q tok s)
      unfolding map_in map_value properties_in node_in code value_tree property_trees inner
      map_m h e =
          bind_m (loop_m property_tree property_trees (closes_at 35) (skip_both_in text) (take_in text) (property_in text m b st.next) (both_rests text) (property_falls text m falls b st.next)
          pnil D.put (values_end T.RightBrace) (map_property q) refl put_tree
          (λ f st t u s h. values_turn T.RightBrace h) (λ f st t u s h. property_m h) short bare _ _ _ _ (open_at h)) λ ps st₁ t₁ u₁ s₁ h₁. here_in s₁ _
          (went (less (finish_at 30 0 (place tok) st.last.start [] [] h h₁ (ap (λ (l : LOC). l.start) (h.last ∙ e)))))

      container_m : (k : ℕ) → k ≡ code (kind tok) → At text (suc (suc i)) b p fr f st t u s → last_of s ≡ place tok
          → Meant (λ a. At text i b p fr (f ⊕ single (value_tree a))) (cond (eqb k 36) (list_in text m b p st t u) (map_in text m b p st t u)) (container_value q tok s)
      unfolding container_value is code
      container_m k x h e = cond_m _ _ s _ (is (kind tok) T.LeftBracket) (ap (λ (n : ℕ). eqb n 36) x) (λ y. list_m h e) (λ y. map_m h e)

  -- a value by its first token; `inside` reads a container
  value_by_m : (b p : ℕ) (m : State → M) (q : Lexeme → P FieldInitialValue) {i : ℕ} {fr : Frame} {f : Forest} {st : State} {t u : List ℕ} {s : St}
      → ((tok : Lexeme) (st₁ : State) (t u : List ℕ) (s : St) → First text (code_of st) st.loc tok
      → At text (suc (suc i)) b p fr f st₁ t u s → last_of s ≡ place tok
      → Meant (λ a. At text i b p fr (f ⊕ single (value_tree a))) (m st st₁ t u) (q tok s))
      → At text i b p fr f st t u s → Meant (λ a. At text i b p fr (f ⊕ single (value_tree a))) (value_by text m b p st t u) (D.value_by q s)
  unfolding value_by D.value_by leaf_in value_tree
  value_by_m b p m q {f = f} {st = st} insides h =
      bind_m (take_m text short _ h) λ tok st₁ t₁ u₁ s₁ h₁.
      let c = h₁.first.coded in
      unless_m _ _ s₁ _ (among (kind tok) leaf_values) (ap (λ (n : ℕ). eqb (leaf_value n) 0) c ∙ leaf_value_none (kind tok))
      (λ y. went (less
      (regrown (ap (λ (z : Tree). f ⊕ single z) (ap (λ (n : ℕ). leaf n tok) (ap leaf_value c ∙ leaf_value_law (kind tok) y) ∙ literal_tree_law tok))
      (leaf_at (leaf_value (code_of st)) tok h₁.at h₁.there))))
      (λ y. cond_m _ _ s₁ _ (among (kind tok) openers) (ap is_opener c ∙ opener_test.agrees (kind tok))
      (λ z. insides tok st₁ t₁ u₁ s₁ h₁.first h₁.at h₁.there)
      (λ z. refuse_at_m 6 st tok s₁ _ _ h₁.first))

  pub value_m : (d : ℕ) {i b p : ℕ} {fr : Frame} {f : Forest} {st : State} {t u : List ℕ} {s : St} → At text i b p fr f st t u s
      → Meant (λ a. At text i b p fr (f ⊕ single (value_tree a))) (value_in text d b p st t u) (field_value d s)
  unfolding value_in field_value
  value_m zero {b = b} {p = p} {st = st} h = value_by_m b p _ (refuse 23) (λ tok st₁ t u s g a e. refuse_at_m 23 st tok s _ _ g) h
  value_m (suc d) {b = b} {p = p} {st = st} h =
      value_by_m b p _ (container_value (field_value d))
      (λ tok st₁ t u s g a e. container_m b (field_value d) (λ q. value_in text d b q) (λ q. value_falls text d b q) (λ i p fr f st t u s h. value_m d h) tok (code_of st) g.coded a e)
      h
