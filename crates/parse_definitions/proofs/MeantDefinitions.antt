-- The code (its model, specs/Into) reads definitions as the definitions do, into a table that begins with the definition's own record.
--     definition_m        a definition
use mathlib.Core.Path.{◌≡◌, refl, sym, ap, ◌∙◌}
use mathlib.Core.Bool.{Bool, true, false, cond, false≢true}
use mathlib.Core.List.{List, [], ◌∷◌}
use Rattle.std.specs.Prelude.{Option}
use Prim.Native.Nat.{ℕ, suc, ◌≤◌}
use native.Mathlib.Omega.{arith}
use lib.ListN.{length}
use Rattle.token.specs.Code.{code, is, among}
use Rattle.token.specs.declared.Token.{Token}
use Rattle.token.specs.declared.Token.TheVariants as T
use Rattle.lexer.specs.declared.location.LOC.{LOC}
use Rattle.lexer.specs.Tokens.{Lexeme}
use Rattle.ast.specs.Ast.{Annotations, Field, EnumMember, Function, Structure, Struct, Union, Exception, Definition, Include, CppInclude, Enum, structure, Service}
use Rattle.ast.specs.Tree.{
  Tree,
  node,
  Forest,
  bare,
  leaf,
  single,
  both,
  each,
  perhaps,
  name_tree,
  type_tree,
  annotations_tree,
  field_tree,
  member_tree,
  function_tree,
  structure_kind,
  definition_tree,
}
use Rattle.ast.specs.Records.{no_parent}
use Rattle.steps.specs.declared.state.State.{State}
use Rattle.parser.specs.Steps.{kind, place, span, St, pos, Res, P, bind, test, peek, when, next, taken}
use Rattle.parser.specs.Definitions.{
  parse_type,
  parse_value,
  parse_field,
  parse_function,
  parse_enum_member,
  parse_include,
  parse_namespace,
  parse_const,
  parse_typedef,
  parse_enum,
  parse_structure,
  parse_extends,
  parse_service,
  parse_definition,
}
use Rattle.steps.specs.Into.{Out, M, after, opened, owns, node_in, advance_in}
use Rattle.parse_fields.specs.Into.{name_in, field_in, fields_in}
use Rattle.parse_members.specs.Into.{function_in, functions_in, member_in, enum_members_in}
use Rattle.parse_definitions.specs.Into.{
  begin_in,
  own_record_in,
  define_in,
  include_in,
  included_in,
  scoped_name_in,
  constant_in,
  enum_body_in,
  structure_body_in,
  service_body_in,
  definition_by,
  scope_in,
  namespace_in,
  typed_name_in,
  const_in,
  typedef_in,
  enum_in,
  structure_in,
  extends_in,
  service_head_in,
  service_in,
  definition_in,
}
use Rattle.parser.proofs.KindLaws.{one_test, one_kind}
use Rattle.steps.proofs.ForestLaws.{◌⊕◌, plus_bare, plus_assoc, perhaps_plus, each_plus}
use Rattle.steps.proofs.Seen.{last_of, waiting_of, Frame, At, fewer, regrown, Meant, went, bind_m, here_m, last_m, grouped}
use Rattle.steps.proofs.StepLaws.{tested, Wanted, step_m, one_m, expect_m, refuse_m, here_in, taken_in, emptied}
use Rattle.steps.proofs.SkipLaws.{trivia_m}
use Rattle.steps.proofs.NodeLaws.{inside, own_at, finish_at}
use Rattle.parse_fields.proofs.Bytes.{field_falls}
use Rattle.parse_members.proofs.Bytes.{function_falls, member_falls}
use Rattle.parse_fields.proofs.MeantFields.{token_m, noded, owning, name_m, annotations_m, field_m, members_m}
use Rattle.parse_values.proofs.MeantTypes.{type_m}
use Rattle.parse_values.proofs.MeantValues.{value_m}
use Rattle.parse_members.proofs.MeantFunctions.{function_m, member_m, either_m}

-- ---- the trees

enum_node : (l : LOC) (c : List Lexeme) (n : Lexeme) (xs : List EnumMember) (a : Annotations)
    → node 6 0 l [] c ((single (name_tree n) ⊕ each member_tree xs bare) ⊕ annotations_tree a bare) ≡ definition_tree (Enum l c n xs a)
unfolding definition_tree single
enum_node l c n xs a = simp plus_assoc (simp each_plus)

structure_node : (y : Structure) (l : LOC) (c : List Lexeme) (n : Lexeme) (xs : List Field) (a : Annotations)
    → node (structure_kind y) 0 l [] c ((single (name_tree n) ⊕ each (field_tree 0) xs bare) ⊕ annotations_tree a bare) ≡ definition_tree (structure y l c n xs a)
unfolding definition_tree single
structure_node y l c n xs a = simp plus_assoc (simp each_plus)

service_node : (l : LOC) (c : List Lexeme) (n : Lexeme) (x : Option Lexeme) (xs : List Function) (a : Annotations)
    → node 10 0 l [] c (((single (name_tree n) ⊕ perhaps name_tree x bare) ⊕ each function_tree xs bare) ⊕ annotations_tree a bare) ≡ definition_tree (Service l c n x xs a)
unfolding definition_tree single
service_node l c n x xs a = simp plus_assoc (simp (perhaps_plus, each_plus))

peek_emptied : (ks : List Token) (s : St) → peek ks (emptied s) ≡ peek ks s
unfolding peek
peek_emptied ks (pos l c []) = refl
peek_emptied ks (pos l c (t ∷ ts)) = refl

-- where the token ahead is of the kind j
kind_ahead : (j k : Token) (s : St) → peek (j ∷ []) s ≡ true → peek (k ∷ []) s ≡ among j (k ∷ [])
unfolding peek
kind_ahead j k (pos l c []) e = absurd (false≢true e)
kind_ahead j k (pos l c (t ∷ ts)) e = ap (λ (x : Token). among x (k ∷ [])) (one_kind (kind t) j e)

either_way : {A : Type 0} {Q : A → State → List ℕ → List ℕ → St → Type 0} {o v : Out} {r : Res A} (c b : Bool) → c ≡ b → (b ≡ true → Meant Q o r)
    → (b ≡ false → Meant Q v r) → Meant Q (cond c o v) r
either_way c true e f g = rw e (f refl)
either_way c false e f g = rw e (g refl)

module _ (text : List ℕ) (short : length text ≤ 65536) where
  -- a keyword that is ahead is taken; the comments that wait are the definition's
  begin_m : {A : Type 0} {Q : A → State → List ℕ → List ℕ → St → Type 0} {i b p : ℕ} {fr : Frame} {f : Forest} {st : State} {t u : List ℕ} {s : St}
      (ks : List Token) (j : M) (g : List Lexeme → Lexeme → P A) → peek ks s ≡ true → At text (suc i) b p fr f st t u s
      → ((k : Lexeme) (st₁ : State) (t₁ u₁ : List ℕ) (s₁ : St)
      → Wanted ks text (suc (suc i)) b st.next (inside fr f st.next t (waiting_of s)) bare (owns (opened st)) k st₁ t₁ u₁ s₁
      → Meant Q (j st₁ t₁ u₁) (g (waiting_of s) k s₁))
      → Meant Q (after (begin_in text st t u) j) (bind (taken s) (λ c s. bind (next s) (λ k. g c k)))
  unfolding begin_in advance_in
  begin_m {st = st} {t = t} {u = u} {s = s} ks j g e h go =
      grouped _ _ _ (owning st t u _ (taken_in s _ (bind_m (step_m text short ks (emptied s) (peek_emptied ks s ∙ e) (own_at s h)) go)))

  module _ {i : ℕ} {fr : Frame} {f : Forest} {st : State} {t u : List ℕ} {s : St} (ks : List Token) (e : peek ks s ≡ true) (h : At text (suc i) st.next no_parent fr f st t u s) where
    include_m : (k : ℕ) (create : LOC → List Lexeme → Lexeme → Definition)
        → ((l : LOC) (c : List Lexeme) (n : Lexeme) → node k 0 l [] c (single (leaf 16 n)) ≡ definition_tree (create l c n))
        → Meant (λ d. At text (suc i) st.next no_parent fr (f ⊕ single (definition_tree d))) (include_in text st.next k st t u) (parse_include create s)
    unfolding include_in included_in parse_include define_in own_record_in node_in code owns opened
    include_m k create tree =
        begin_m ks _ _ e h λ w st₁ t₁ u₁ s₁ h₁.
        bind_m (token_m text short T.StringLiteral 16 _ 12 h₁.at) λ n st₂ t₂ u₂ s₂ h₂.
        went (fewer (omega arith)
        (regrown (ap (λ (l : LOC). f ⊕ single (node k 0 (span (place w) l) [] (waiting_of s) (single (leaf 16 n)))) h₂.there
        ∙ ap (λ (x : Tree). f ⊕ single x) (tree (span (place w) (place n)) (waiting_of s) n))
        (finish_at k 0 (place w) st.loc.start [] (waiting_of s) h h₂.at (ap (λ (l : LOC). l.start) h₁.first.placed))))

    namespace_m : Meant (λ d. At text (suc i) st.next no_parent fr (f ⊕ single (definition_tree d))) (namespace_in text st.next st t u) (parse_namespace s)
    unfolding namespace_in scoped_name_in parse_namespace define_in own_record_in node_in code owns opened scope_in name_in name_tree definition_tree both single
    namespace_m =
        begin_m ks _ _ e h λ w st₁ t₁ u₁ s₁ h₁.
        grouped _ _ _
        (bind_m (either_m text short name_tree T.Identifier T.Star 16 16 11 (λ tok z. refl) (λ tok z. refl) h₁.at) λ y st₂ t₂ u₂ s₂ h₂.
        bind_m (name_m text short 10 h₂.at) λ n st₃ t₃ u₃ s₃ h₃.
        went (fewer (omega arith)
        (regrown (ap (λ (l : LOC). f ⊕ single (node 3 0 (span (place w) l) [] (waiting_of s) (both (name_tree y) (name_tree n)))) h₃.there)
        (finish_at 3 0 (place w) st.loc.start [] (waiting_of s) h h₃.at (ap (λ (l : LOC). l.start) h₁.first.placed)))))

    const_m : Meant (λ d. At text (suc i) st.next no_parent fr (f ⊕ single (definition_tree d))) (const_in text st.next st t u) (parse_const s)
    unfolding const_in constant_in parse_const define_in own_record_in code owns opened typed_name_in parse_type parse_value definition_tree both single
    const_m =
        grouped _ _ _
        (begin_m ks _ _ e h λ w st₁ t₁ u₁ s₁ h₁.
        grouped _ _ _
        (grouped _ _ _
        (grouped _ _ _
        (bind_m (type_m text short 32 h₁.at) λ y st₂ t₂ u₂ s₂ h₂.
        bind_m (name_m text short 13 h₂) λ n st₃ t₃ u₃ s₃ h₃.
        grouped _ _ _
        (bind_m (expect_m text short T.Equals _ 2 h₃.at) λ x st₄ t₄ u₄ s₄ h₄.
        bind_m (value_m text short 32 h₄.at) λ v st₅ t₅ u₅ s₅ h₅. here_in s₅ _
        (noded _ _ _ _ _ _ st₅ t₅ u₅ _
        (last_m (trivia_m text short _ (finish_at 4 0 (place w) st.loc.start [] (waiting_of s) h h₅ (ap (λ (l : LOC). l.start) h₁.first.placed))) λ x st₆ t₆ u₆ s₆ h₆.
        went (fewer (omega arith) h₆))))))))

    typedef_m : Meant (λ d. At text (suc i) st.next no_parent fr (f ⊕ single (definition_tree d))) (typedef_in text st.next st t u) (parse_typedef s)
    unfolding typedef_in parse_typedef define_in own_record_in node_in code owns opened typed_name_in parse_type definition_tree both single
    typedef_m =
        begin_m ks _ _ e h λ w st₁ t₁ u₁ s₁ h₁.
        grouped _ _ _
        (bind_m (type_m text short 32 h₁.at) λ y st₂ t₂ u₂ s₂ h₂.
        bind_m (name_m text short 14 h₂) λ n st₃ t₃ u₃ s₃ h₃.
        went (fewer (omega arith)
        (regrown (ap (λ (l : LOC). f ⊕ single (node 5 0 (span (place w) l) [] (waiting_of s) (both (type_tree y) (name_tree n)))) h₃.there)
        (finish_at 5 0 (place w) st.loc.start [] (waiting_of s) h h₃.at (ap (λ (l : LOC). l.start) h₁.first.placed)))))

    enum_m : Meant (λ d. At text (suc i) st.next no_parent fr (f ⊕ single (definition_tree d))) (enum_in text st.next st t u) (parse_enum s)
    unfolding enum_in enum_body_in parse_enum define_in own_record_in node_in code owns opened enum_members_in
    enum_m =
        begin_m ks _ _ e h λ w st₁ t₁ u₁ s₁ h₁.
        grouped _ _ _
        (bind_m (name_m text short 15 h₁.at) λ n st₂ t₂ u₂ s₂ h₂.
        grouped _ _ _
        (bind_m (members_m text short member_tree T.LeftBrace T.RightBrace (member_in text st.next st.next) (member_falls text st.next st.next) parse_enum_member
        (λ fr f st t u s h. member_m text short h) h₂.at) λ xs st₃ t₃ u₃ s₃ h₃.
        bind_m (annotations_m text short h₃) λ a st₄ t₄ u₄ s₄ h₄. here_in s₄ _
        (went (fewer (omega arith)
        (regrown (ap (λ (x : Tree). f ⊕ single x) (enum_node (span (place w) (last_of s₄)) (waiting_of s) n xs a))
        (finish_at 6 0 (place w) st.loc.start [] (waiting_of s) h h₄ (ap (λ (l : LOC). l.start) h₁.first.placed)))))))

    structure_m : (y : Structure)
        → Meant (λ d. At text (suc i) st.next no_parent fr (f ⊕ single (definition_tree d))) (structure_in text st.next (structure_kind y) st t u) (parse_structure y s)
    unfolding structure_in structure_body_in parse_structure define_in own_record_in node_in code owns opened fields_in
    structure_m y =
        begin_m ks _ _ e h λ w st₁ t₁ u₁ s₁ h₁.
        grouped _ _ _
        (bind_m (name_m text short 16 h₁.at) λ n st₂ t₂ u₂ s₂ h₂.
        grouped _ _ _
        (bind_m (members_m text short (field_tree 0) T.LeftBrace T.RightBrace (field_in text 0 st.next st.next) (field_falls text 0 st.next st.next) parse_field
        (λ fr f st t u s h. field_m text short 0 (omega arith) h) h₂.at) λ xs st₃ t₃ u₃ s₃ h₃.
        bind_m (annotations_m text short h₃) λ a st₄ t₄ u₄ s₄ h₄. here_in s₄ _
        (went (fewer (omega arith)
        (regrown (ap (λ (x : Tree). f ⊕ single x) (structure_node y (span (place w) (last_of s₄)) (waiting_of s) n xs a))
        (finish_at (structure_kind y) 0 (place w) st.loc.start [] (waiting_of s) h h₄ (ap (λ (l : LOC). l.start) h₁.first.placed)))))))

  extends_m : {i b p : ℕ} {fr : Frame} {f : Forest} {st : State} {t u : List ℕ} {s : St} → At text i b p fr f st t u s
      → Meant (λ x. At text i b p fr (f ⊕ perhaps name_tree x bare)) (extends_in text b p st t u) (parse_extends s)
  unfolding extends_in parse_extends code perhaps single
  extends_m {b = b} {p = p} {f = f} {s = s} h =
      one_m text short T.Extends _ _ s h
      (λ e. here_m {k = name_in text 18 b p} (step_m text short (T.Extends ∷ []) s e h) λ x st₁ t₁ u₁ s₁ h₁.
      last_m (name_m text short 18 h₁.at) λ n st₂ t₂ u₂ s₂ h₂. went (fewer (omega arith) h₂.at))
      (λ e. went (regrown (sym (plus_bare f)) h))

  service_m : {i : ℕ} {fr : Frame} {f : Forest} {st : State} {t u : List ℕ} {s : St} (ks : List Token) → peek ks s ≡ true
      → At text (suc i) st.next no_parent fr f st t u s
      → Meant (λ d. At text (suc i) st.next no_parent fr (f ⊕ single (definition_tree d))) (service_in text st.next st t u) (parse_service s)
  unfolding service_in service_body_in parse_service service_head_in define_in own_record_in node_in code owns opened functions_in
  service_m {f = f} {st = st} {s = s} ks e h =
      begin_m ks _ _ e h λ w st₁ t₁ u₁ s₁ h₁.
      grouped _ _ _
      (grouped _ _ _
      (bind_m (name_m text short 17 h₁.at) λ n st₂ t₂ u₂ s₂ h₂.
      bind_m (extends_m h₂.at) λ x st₃ t₃ u₃ s₃ h₃.
      grouped _ _ _
      (bind_m (members_m text short function_tree T.LeftBrace T.RightBrace (function_in text st.next st.next) (function_falls text st.next st.next) parse_function
      (λ fr f st t u s h. function_m text short h) h₃) λ xs st₄ t₄ u₄ s₄ h₄.
      bind_m (annotations_m text short h₄) λ a st₅ t₅ u₅ s₅ h₅. here_in s₅ _
      (went (fewer (omega arith)
      (regrown (ap (λ (z : Tree). f ⊕ single z) (service_node (span (place w) (last_of s₅)) (waiting_of s) n x xs a))
      (finish_at 10 0 (place w) st.loc.start [] (waiting_of s) h h₅ (ap (λ (l : LOC). l.start) h₁.first.placed))))))))

  -- ---- by the keyword

  pub definition_m : {i : ℕ} {fr : Frame} {f : Forest} {st : State} {t u : List ℕ} {s : St} → At text (suc i) st.next no_parent fr f st t u s
      → Meant (λ d. At text (suc i) st.next no_parent fr (f ⊕ single (definition_tree d))) (definition_in text st.next st t u) (parse_definition s)
  unfolding definition_in definition_by parse_definition when test among is code structure_kind definition_tree name_tree single
  definition_m {s = s} h =
      either_way _ (peek (T.Namespace ∷ []) s) (tested s (one_test T.Namespace) h.ahead)
      (λ e. rw (kind_ahead T.Namespace T.Include s e, kind_ahead T.Namespace T.CppInclude s e, e) (namespace_m (T.Namespace ∷ []) e h)) λ n₁.
      either_way _ (peek (T.CppInclude ∷ []) s) (tested s (one_test T.CppInclude) h.ahead)
      (λ e. rw (kind_ahead T.CppInclude T.Include s e, e) (include_m (T.CppInclude ∷ []) e h 2 CppInclude (λ l c n. refl))) λ n₂.
      either_way _ (peek (T.Include ∷ []) s) (tested s (one_test T.Include) h.ahead)
      (λ e. rw e (include_m (T.Include ∷ []) e h 1 Include (λ l c n. refl))) λ n₃.
      either_way _ (peek (T.Typedef ∷ []) s) (tested s (one_test T.Typedef) h.ahead)
      (λ e. rw (n₃, n₂, n₁, kind_ahead T.Typedef T.Const s e, e) (typedef_m (T.Typedef ∷ []) e h)) λ n₄.
      either_way _ (peek (T.Const ∷ []) s) (tested s (one_test T.Const) h.ahead)
      (λ e. rw (n₃, n₂, n₁, e) (const_m (T.Const ∷ []) e h)) λ n₅.
      either_way _ (peek (T.Enum ∷ []) s) (tested s (one_test T.Enum) h.ahead)
      (λ e. rw (n₃, n₂, n₁, n₅, n₄, e) (enum_m (T.Enum ∷ []) e h)) λ n₆.
      either_way _ (peek (T.Struct ∷ []) s) (tested s (one_test T.Struct) h.ahead)
      (λ e. rw (n₃, n₂, n₁, n₅, n₄, n₆, e) (structure_m (T.Struct ∷ []) e h Struct)) λ n₇.
      either_way _ (peek (T.Union ∷ []) s) (tested s (one_test T.Union) h.ahead)
      (λ e. rw (n₃, n₂, n₁, n₅, n₄, n₆, n₇, e) (structure_m (T.Union ∷ []) e h Union)) λ n₈.
      either_way _ (peek (T.Exception ∷ []) s) (tested s (one_test T.Exception) h.ahead)
      (λ e. rw (n₃, n₂, n₁, n₅, n₄, n₆, n₇, n₈, e) (structure_m (T.Exception ∷ []) e h Exception)) λ n₉.
      either_way _ (peek (T.Service ∷ []) s) (tested s (one_test T.Service) h.ahead)
      (λ e. rw (n₃, n₂, n₁, n₅, n₄, n₆, n₇, n₈, n₉, e) (service_m (T.Service ∷ []) e h)) λ n₀.
      rw (n₃, n₂, n₁, n₅, n₄, n₆, n₇, n₈, n₉, n₀) (refuse_m s 2 h)
