-- The code (its model, specs/Into) reads types as the definitions do.
--     type_m              a type, with so many containers left
use mathlib.Core.Path.{◌≡◌, refl, ap, ◌∙◌}
use mathlib.Core.Bool.{Bool, true, false, cond}
use mathlib.Core.List.{List, []}
use Prim.Native.Nat.{ℕ, zero, suc, ◌≤◌}
use native.Mathlib.Omega.{arith}
use lib.Dec.{eqb}
use lib.ListN.{length}
use Rattle.token.specs.Code.{code, is, among}
use Rattle.token.specs.declared.Token.TheVariants as T
use Rattle.lexer.specs.declared.location.LOC.{LOC}
use Rattle.lexer.specs.Error.{UnexpectedEOF}
use Rattle.lexer.specs.Tokens.{Lexeme, lexeme}
use Rattle.ast.specs.Ast.{FieldType, CommonType, ListType, SetType}
use Rattle.ast.specs.Tree.{Tree, node, Forest, leaf, inner, single, both, type_tree}
use Rattle.steps.specs.declared.state.State.{State}
use Rattle.parser.proofs.TypeStep.{type_step}
use Rattle.parser.specs.Steps.{kind, place, span, St, MissingTypeDeclaration, P, test, refuse}
use Rattle.parser.specs.Types as D
use Rattle.parser.specs.Types.{leaf_types, container_types, complex_type, map_type, field_type}
use Rattle.steps.specs.Into.{code_of, M, leaf_in, node_in}
use Rattle.parse_values.specs.Into.{leaf_type, container_type, contained_in, complex_in, type_by, type_in}
use Rattle.parse_values.proofs.KindTests.{leaf_type_none, leaf_type_law, container_type_none, container_type_law}
use Rattle.steps.proofs.ForestLaws.{◌⊕◌}
use Rattle.steps.proofs.Seen.{First, last_of, Frame, At, less, fewer, regrown, Meant, went, bind_m, next_none, unless_m, needs_m, grouped, Means}
use Rattle.steps.proofs.StepLaws.{take_m, expect_m, refuse_at_m, here_in}
use Rattle.steps.proofs.NodeLaws.{open_at, finish_at, leaf_at}

pub common_tree : (tok : Lexeme) → leaf (cond (is (kind tok) T.Identifier) 19 18) tok ≡ type_tree (CommonType tok)
unfolding type_tree kind
common_tree (lexeme k w l) = refl

module _ (text : List ℕ) (short : length text ≤ 65536) where
  module _ (b p : ℕ) (q : P FieldType) (m : ℕ → M) (reads : (i p : ℕ) → Means text i b p (λ a. single (type_tree a)) (m p) q)
      {i : ℕ} {fr : Frame} {f : Forest} {st : State} {t u : List ℕ} {s : St} (tok : Lexeme) where
    complex_m : (k : ℕ) → eqb k 22 ≡ false → (create : LOC → Lexeme → FieldType → FieldType)
        → ((l : LOC) (x : Lexeme) (a : FieldType) → node k 0 l [] [] (single (type_tree a)) ≡ type_tree (create l x a))
        → At text (suc (suc i)) b p fr f st t u s → last_of s ≡ place tok
        → Meant (λ a. At text i b p fr (f ⊕ single (type_tree a))) (complex_in text k m b p st t u) (complex_type create q tok s)
    unfolding complex_in complex_type contained_in node_in code
    complex_m k ne create tree h e =
        bind_m (expect_m text short T.LeftAngle _ 2 (open_at h)) λ x st₁ t₁ u₁ s₁ h₁. rw ne
        (bind_m (reads _ st.next _ _ st₁ t₁ u₁ s₁ h₁.at) λ a st₂ t₂ u₂ s₂ h₂.
        bind_m (expect_m text short T.RightAngle _ 2 h₂) λ x st₃ t₃ u₃ s₃ h₃. here_in s₃ _
        (went (fewer (omega arith)
        (regrown (ap (λ (z : Tree). f ⊕ single z) (tree (span (place tok) (last_of s₃)) tok a))
        (finish_at k 0 (place tok) st.last.start [] [] h h₃.at (ap (λ (l : LOC). l.start) (h.last ∙ e)))))))

    map_type_m : At text (suc (suc i)) b p fr f st t u s → last_of s ≡ place tok
        → Meant (λ a. At text i b p fr (f ⊕ single (type_tree a))) (complex_in text 22 m b p st t u) (map_type q tok s)
    unfolding complex_in map_type contained_in node_in code type_tree inner both single
    map_type_m h e =
        bind_m (expect_m text short T.LeftAngle _ 2 (open_at h)) λ x st₁ t₁ u₁ s₁ h₁.
        grouped _ _ _
        (bind_m (reads _ st.next _ _ st₁ t₁ u₁ s₁ h₁.at) λ a st₂ t₂ u₂ s₂ h₂.
        grouped _ _ _
        (bind_m (expect_m text short T.Comma _ 2 h₂) λ x st₃ t₃ u₃ s₃ h₃.
        bind_m (reads _ st.next _ _ st₃ t₃ u₃ s₃ h₃.at) λ c st₄ t₄ u₄ s₄ h₄.
        bind_m (expect_m text short T.RightAngle _ 2 h₄) λ x st₅ t₅ u₅ s₅ h₅. here_in s₅ _
        (went (fewer (omega arith) (finish_at 22 0 (place tok) st.last.start [] [] h h₅.at (ap (λ (l : LOC). l.start) (h.last ∙ e)))))))

    -- by the keyword that was taken
    keyword_m : (y z : Bool) → At text (suc (suc i)) b p fr f st t u s → last_of s ≡ place tok
        → Meant (λ a. At text i b p fr (f ⊕ single (type_tree a))) (complex_in text (cond y 20 (cond z 21 22)) m b p st t u)
        (test y (complex_type ListType q tok) (test z (complex_type SetType q tok) (map_type q tok)) s)
    unfolding test type_tree inner
    keyword_m true z h e = complex_m 20 refl ListType (λ l x a. refl) h e
    keyword_m false true h e = complex_m 21 refl SetType (λ l x a. refl) h e
    keyword_m false false h e = map_type_m h e

    container_m : (k : ℕ) → k ≡ cond (is (kind tok) T.List) 20 (cond (is (kind tok) T.Set) 21 22)
        → At text (suc (suc i)) b p fr f st t u s → last_of s ≡ place tok
        → Meant (λ a. At text i b p fr (f ⊕ single (type_tree a))) (complex_in text k m b p st t u) (D.container_type q tok s)
    unfolding D.container_type
    container_m k x h e = rw x (keyword_m (is (kind tok) T.List) (is (kind tok) T.Set) h e)

  -- a type by its first token; `inside` reads a container
  type_by_m : (b p : ℕ) (m : State → ℕ → M) (q : Lexeme → P FieldType) {i : ℕ} {fr : Frame} {f : Forest} {st : State} {t u : List ℕ} {s : St}
      → ((tok : Lexeme) (st₁ : State) (t u : List ℕ) (s : St) → First text (code_of st) st.loc tok → among (kind tok) container_types ≡ true
      → At text (suc (suc i)) b p fr f st₁ t u s → last_of s ≡ place tok
      → Meant (λ a. At text i b p fr (f ⊕ single (type_tree a))) (m st (container_type (code_of st)) st₁ t u) (q tok s))
      → At text i b p fr f st t u s → Meant (λ a. At text i b p fr (f ⊕ single (type_tree a))) (type_by text m b p st t u) (D.type_by q s)
  unfolding type_by D.type_by leaf_in
  type_by_m b p m q {f = f} {st = st} {s = s} insides h =
      needs_m UnexpectedEOF MissingTypeDeclaration (type_step q) s (next_none _)
      (bind_m (take_m text short _ h) λ tok st₁ t₁ u₁ s₁ h₁.
      let c = h₁.first.coded in
      unless_m _ _ s₁ _ (among (kind tok) leaf_types) (ap (λ (n : ℕ). eqb (leaf_type n) 0) c ∙ leaf_type_none (kind tok))
      (λ y. went (less
      (regrown (ap (λ (z : Tree). f ⊕ single z) (ap (λ (n : ℕ). leaf n tok) (ap leaf_type c ∙ leaf_type_law (kind tok) y) ∙ common_tree tok))
      (leaf_at (leaf_type (code_of st)) tok h₁.at h₁.there))))
      (λ y. unless_m _ _ s₁ _ (among (kind tok) container_types) (ap (λ (n : ℕ). eqb (container_type n) 0) c ∙ container_type_none (kind tok))
      (λ z. insides tok st₁ t₁ u₁ s₁ h₁.first z h₁.at h₁.there)
      (λ z. refuse_at_m 4 st tok s₁ _ _ h₁.first)))

  pub type_m : (d : ℕ) {i b p : ℕ} {fr : Frame} {f : Forest} {st : State} {t u : List ℕ} {s : St} → At text i b p fr f st t u s
      → Meant (λ a. At text i b p fr (f ⊕ single (type_tree a))) (type_in text d b p st t u) (field_type d s)
  unfolding type_in field_type
  type_m zero {b = b} {p = p} {st = st} h = type_by_m b p _ (refuse 23) (λ tok st₁ t u s g z a e. refuse_at_m 23 st tok s _ _ g) h
  type_m (suc d) {b = b} {p = p} {st = st} h =
      type_by_m b p _ (D.container_type (field_type d))
      (λ tok st₁ t u s g z a e.
      container_m b p (field_type d) (λ q. type_in text d b q) (λ i p fr f st t u s h. type_m d h) tok (container_type (code_of st))
      (ap container_type g.coded ∙ container_type_law (kind tok) z) a e)
      h
