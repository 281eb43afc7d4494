-- The code (its model, specs/Into) reads functions and enum members as the definitions do.
--     parameters_m        fields in parentheses
--     function_m          a function
--     member_m            an enum member
--     either_m            a token of one of two kinds
use mathlib.Core.Path.{◌≡◌, refl, sym, ap, ◌∙◌}
use mathlib.Core.Bool.{Bool, true, false, cond, ◌||◌, false≢true}
use mathlib.Core.List.{List, [], ◌∷◌}
use Rattle.std.specs.Prelude.{Option, Some, None}
use Prim.Native.Nat.{ℕ, suc, ◌+◌, ◌≤◌}
use native.Mathlib.Omega.{arith}
use lib.Dec.{eqb}
use lib.ListN.{length}
use Rattle.token.specs.Code.{code, is, among}
use Rattle.token.specs.declared.Token.{Token}
use Rattle.token.specs.declared.Token.TheVariants as T
use Rattle.lexer.specs.declared.location.LOC.{LOC}
use Rattle.lexer.specs.Tokens.{Lexeme}
use Rattle.ast.specs.Ast.{FieldType, CommonType, Annotations, Field, member, function}
use Rattle.ast.specs.Tree.{
  Tree,
  node,
  Forest,
  bare,
  leaf,
  single,
  each,
  perhaps,
  name_tree,
  type_tree,
  value_kind,
  literal_tree,
  annotations_tree,
  field_tree,
  member_tree,
  oneway_flag,
  throws_flag,
  throws_trees,
  function_tree,
}
use Rattle.steps.specs.declared.state.State.{State}
use Rattle.parser.specs.Steps.{kind, place, span, St, pos, MissingTypeDeclaration, InvalidReturnType, test, peek, when, want}
use Rattle.parser.specs.Definitions.{
  parse_type,
  parse_field,
  parse_parameters,
  parse_throws,
  parse_return_type,
  parse_oneway,
  parse_function,
  parse_initializer,
  parse_enum_member,
}
use Rattle.steps.specs.Into.{code_of, done, after, ◌⨟◌, sum, opened, owns, node_in}
use Rattle.parse_fields.specs.Into.{token_in, name_in, field_in, fields_in}
use Rattle.parse_members.specs.Into.{throws_in, return_type_in, flag_if, skip_oneway, function_head_in, function_tail_in, function_in, initializer_in, member_in}
use Rattle.parser.proofs.FirstToken.{type_missing}
use Rattle.parser.proofs.KindLaws.{one_test, one_kind}
use Rattle.steps.proofs.ForestLaws.{◌⊕◌, plus_bare, plus_assoc, perhaps_plus, each_plus, throws_plus}
use Rattle.steps.proofs.Seen.{small_sum, last_of, waiting_of, Frame, At, less, fewer, regrown, Meant, went, bind_m, here_m, last_m, weak_m, needs_m, grouped}
use Rattle.steps.proofs.StepLaws.{tested, step_m, one_m, here_in, taken_in}
use Rattle.steps.proofs.SkipLaws.{trivia_m}
use Rattle.steps.proofs.NodeLaws.{own_at, finish_at, leaf_m}
use Rattle.parse_fields.proofs.Bytes.{field_falls}
use Rattle.parse_fields.proofs.MeantFields.{token_m, owning, literal_of, name_m, annotations_m, field_m, members_m}
use Rattle.parse_values.proofs.MeantTypes.{common_tree, type_m}

-- ---- the trees

flag_if_law : (k w f : ℕ) (z : Bool) → eqb k w ≡ z → flag_if k w f ≡ cond z f 0
unfolding flag_if
flag_if_law k w f z e = rw e

void_tree : (tok : Lexeme) → among (kind tok) (T.Void ∷ []) ≡ true → leaf 18 tok ≡ type_tree (CommonType tok)
unfolding is code
void_tree tok h =
    let e : ◌≡◌ {A = ℕ} (cond (is (kind tok) T.Identifier) 19 18) 18 = rw (one_kind (kind tok) T.Void h) in
    sym (ap (λ (n : ℕ). leaf n tok) e) ∙ common_tree tok

function_node : (k : ℕ) (l : LOC) (c : List Lexeme) (o : Bool) (y : FieldType) (n : Lexeme) (ps : List Field) (th : Option (List Field)) (a : Annotations)
    → k ≡ oneway_flag o + throws_flag th
    → node 11 k l [] c ((((single (type_tree y) ⊕ single (name_tree n)) ⊕ each (field_tree 0) ps bare) ⊕ throws_trees th bare) ⊕ annotations_tree a bare)
    ≡ function_tree (function l c o y n ps th a)
unfolding function_tree single
function_node k l c o y n ps th a e = rw e (simp plus_assoc (simp (each_plus, throws_plus)))

member_node : (l : LOC) (c : List Lexeme) (n : Lexeme) (v : Option Lexeme) (a : Annotations)
    → node 13 0 l [] c ((single (name_tree n) ⊕ perhaps literal_tree v bare) ⊕ annotations_tree a bare) ≡ member_tree (member l c n v a)
unfolding member_tree single
member_node l c n v a = simp plus_assoc (simp perhaps_plus)

flags_small : (o : Bool) (th : Option (List Field)) → oneway_flag o + throws_flag th ≤ 12
unfolding oneway_flag throws_flag
flags_small true None = omega arith
flags_small true (Some fs) = omega arith
flags_small false None = omega arith
flags_small false (Some fs) = omega arith

-- ---- a token of one of two kinds

peek_two : (j k : Token) (s : St) (z : Bool) → peek (k ∷ []) s ≡ z → peek (j ∷ k ∷ []) s ≡ cond z (peek (k ∷ []) s) (peek (j ∷ []) s)
unfolding peek among
peek_two j k (pos l c []) true e = absurd (false≢true e)
peek_two j k (pos l c []) false e = refl
peek_two j k (pos l c (t ∷ ts)) true e = go (is (kind t) j) (is (kind t) k) e
  where
    go : (x y : Bool) → (y || false) ≡ true → (x || (y || false)) ≡ (y || false)
    go true true e = refl
    go false true e = refl
    go x false e = absurd (false≢true e)
peek_two j k (pos l c (t ∷ ts)) false e = go (is (kind t) j) (is (kind t) k) e
  where
    go : (x y : Bool) → (y || false) ≡ false → (x || (y || false)) ≡ (x || false)
    go x true e = absurd (false≢true (sym e))
    go true false e = refl
    go false false e = refl

want_two : (j k : Token) (e : ℕ) (s : St) (z : Bool) → peek (k ∷ []) s ≡ z → want (j ∷ k ∷ []) e s ≡ cond z (want (k ∷ []) e s) (want (j ∷ []) e s)
unfolding want when
want_two j k e s true h = rw (peek_two j k s true h)
want_two j k e s false h = rw (peek_two j k s false h)

module _ (text : List ℕ) (short : length text ≤ 65536) where
  -- behind a token that is a leaf
  pub record Leaf (G : Lexeme → Tree) (i b p : ℕ) (fr : Frame) (f : Forest) (tok : Lexeme) (st : State) (t u : List ℕ) (s : St) : Type 0 where
    pub at : At text i b p fr (f ⊕ single (G tok)) st t u s
    pub there : last_of s ≡ place tok

  two_m : (G : Lexeme → Tree) (j : Token) (k e : ℕ) → ((tok : Lexeme) → among (kind tok) (j ∷ []) ≡ true → leaf k tok ≡ G tok)
      → {i b p : ℕ} {fr : Frame} {f : Forest} {st : State} {t u : List ℕ} {s : St} → At text i b p fr f st t u s
      → Meant (Leaf G (suc i) b p fr f) (token_in text (code j) e k b p st t u) (want (j ∷ []) e s)
  two_m G j k e tree {f = f} h =
      weak_m (λ tok st t u s g. record { at = regrown (ap (λ (z : Tree). f ⊕ single z) (tree tok g.kinds)) g.at; there = g.there }) (token_m text short j k _ e h)

  either_by : (G : Lexeme → Tree) (j k : Token) (x y e : ℕ) → ((tok : Lexeme) → among (kind tok) (j ∷ []) ≡ true → leaf x tok ≡ G tok)
      → ((tok : Lexeme) → among (kind tok) (k ∷ []) ≡ true → leaf y tok ≡ G tok)
      → {i b p : ℕ} {fr : Frame} {f : Forest} {st : State} {t u : List ℕ} {s : St} → At text i b p fr f st t u s
      → (z : Bool) → eqb (code_of st) (code k) ≡ z → peek (k ∷ []) s ≡ z
      → Meant (Leaf G (suc i) b p fr f) (cond (eqb (code_of st) (code k)) (token_in text (code k) e y b p st t u) (token_in text (code j) e x b p st t u)) (want (j ∷ k ∷ []) e s)
  either_by G j k x y e hj hk {s = s} h true q w = rw (q, want_two j k e s true w) (two_m G k y e hk h)
  either_by G j k x y e hj hk {s = s} h false q w = rw (q, want_two j k e s false w) (two_m G j x e hj h)

  pub either_m : (G : Lexeme → Tree) (j k : Token) (x y e : ℕ) → ((tok : Lexeme) → among (kind tok) (j ∷ []) ≡ true → leaf x tok ≡ G tok)
      → ((tok : Lexeme) → among (kind tok) (k ∷ []) ≡ true → leaf y tok ≡ G tok)
      → {i b p : ℕ} {fr : Frame} {f : Forest} {st : State} {t u : List ℕ} {s : St} → At text i b p fr f st t u s
      → Meant (Leaf G (suc i) b p fr f) (cond (eqb (code_of st) (code k)) (token_in text (code k) e y b p st t u) (token_in text (code j) e x b p st t u)) (want (j ∷ k ∷ []) e s)
  either_m G j k x y e hj hk {s = s} h = either_by G j k x y e hj hk h (peek (k ∷ []) s) (tested s (one_test k) h.ahead) refl

  -- ---- functions

  parameters_m : (fl : ℕ) → fl ≤ 16 → {i b p : ℕ} {fr : Frame} {f : Forest} {st : State} {t u : List ℕ} {s : St} → At text (suc i) b p fr f st t u s
      → Meant (λ xs. At text (suc i) b p fr (f ⊕ each (field_tree fl) xs bare)) (fields_in text 40 41 fl b p st t u) (parse_parameters s)
  unfolding fields_in parse_parameters code
  parameters_m fl small {b = b} {p = p} h =
      members_m text short (field_tree fl) T.LeftParen T.RightParen (field_in text fl b p) (field_falls text fl b p) parse_field (λ fr f st t u s h. field_m text short fl small h) h

  -- behind what may be there, with its flag
  record Flagged {A : Type 0} (G : A → Forest) (flag : A → ℕ) (k w v i b p : ℕ) (fr : Frame) (f : Forest) (a : A) (st : State) (t u : List ℕ) (s : St) : Type 0 where
    at : At text i b p fr (f ⊕ G a) st t u s
    flagged : flag_if k w v ≡ flag a

  throws_m : {i b p : ℕ} {fr : Frame} {f : Forest} {st : State} {t u : List ℕ} {s : St} → At text (suc i) b p fr f st t u s
      → Meant (Flagged (λ th. throws_trees th bare) throws_flag (code_of st) 12 8 (suc i) b p fr f) (throws_in text b p st t u) (parse_throws s)
  unfolding throws_in parse_throws code throws_trees throws_flag
  throws_m {b = b} {p = p} {f = f} {st = st} {s = s} h =
      one_m text short T.Throws _ _ s h
      (λ e. here_m {k = fields_in text 40 41 16 b p} (step_m text short (T.Throws ∷ []) s e h) λ x st₁ t₁ u₁ s₁ h₁.
      last_m (parameters_m 16 (omega arith) h₁.at) λ fs st₂ t₂ u₂ s₂ h₂.
      went (record { at = less (less h₂); flagged = flag_if_law (code_of st) 12 8 true (tested s (one_test T.Throws) h.ahead ∙ e) }))
      (λ e. went (record { at = regrown (sym (plus_bare f)) h; flagged = flag_if_law (code_of st) 12 8 false (tested s (one_test T.Throws) h.ahead ∙ e) }))

  return_type_m : {i b p : ℕ} {fr : Frame} {f : Forest} {st : State} {t u : List ℕ} {s : St} → At text i b p fr f st t u s
      → Meant (λ a. At text i b p fr (f ⊕ single (type_tree a))) (return_type_in text b p st t u) (parse_return_type s)
  unfolding return_type_in parse_return_type parse_type code after
  return_type_m {f = f} {s = s} h =
      one_m text short T.Void _ _ s h
      (λ e. last_m (leaf_m 18 (step_m text short (T.Void ∷ []) s e h)) λ tok st₁ t₁ u₁ s₁ h₁.
      went (less (regrown (ap (λ (z : Tree). f ⊕ single z) (void_tree tok h₁.kinds)) h₁.at)))
      (λ e. needs_m MissingTypeDeclaration InvalidReturnType parse_type s type_missing (type_m text short 32 h))

  oneway_by_law : {i b p : ℕ} {fr : Frame} {f : Forest} {st : State} {t u : List ℕ} {s : St} → At text i b p fr f st t u s
      → (z : Bool) → eqb (code_of st) 50 ≡ z → peek (T.Oneway ∷ []) s ≡ z
      → Meant (Flagged (λ o. bare) oneway_flag (code_of st) 50 4 i b p fr f) (done (skip_oneway text st) t u) (parse_oneway s)
  unfolding skip_oneway parse_oneway when test oneway_flag
  oneway_by_law {f = f} {st = st} {s = s} h true k e =
      rw (k, e) (last_m (step_m text short (T.Oneway ∷ []) s e h) λ x st₁ t₁ u₁ s₁ h₁.
      went (record { at = regrown (sym (plus_bare f)) (less (less h₁.at)); flagged = flag_if_law (code_of st) 50 4 true k }))
  oneway_by_law {f = f} {st = st} h false k e = rw (k, e) (went (record { at = regrown (sym (plus_bare f)) h; flagged = flag_if_law (code_of st) 50 4 false k }))

  oneway_m : {i b p : ℕ} {fr : Frame} {f : Forest} {st : State} {t u : List ℕ} {s : St} → At text i b p fr f st t u s
      → Meant (Flagged (λ o. bare) oneway_flag (code_of st) 50 4 i b p fr f) (done (skip_oneway text st) t u) (parse_oneway s)
  unfolding code
  oneway_m {s = s} h = oneway_by_law h (peek (T.Oneway ∷ []) s) (tested s (one_test T.Oneway) h.ahead) refl

  pub function_m : {i b p : ℕ} {fr : Frame} {f : Forest} {st : State} {t u : List ℕ} {s : St} → At text (suc i) b p fr f st t u s
      → Meant (λ a. At text (suc i) b p fr (f ⊕ single (function_tree a))) (function_in text b p st t u) (parse_function s)
  unfolding function_in parse_function function_head_in function_tail_in node_in owns opened
  function_m {b = b} {p = p} {f = f} {st = st} {t = t} {u = u} {s = s} h =
      let n = st.next in
      taken_in s _
      (owning st t u _
      (grouped _ _ _
      (here_m {k = return_type_in text b n ⨟ (name_in text 2 b n ⨟ λ st₁ t u. after (fields_in text 40 41 0 b n st₁ t u) (λ st₂ t u. after (function_tail_in text b n st₂ t u)
      (node_in n 11 (sum (flag_if (code_of st) 50 4) (flag_if (code_of st₂) 12 8)) st₁.last.start b p)))} (oneway_m (own_at s h)) λ o st₁ t₁ u₁ s₁ h₁.
      bind_m (return_type_m h₁.at) λ y st₂ t₂ u₂ s₂ h₂.
      bind_m (name_m text short 2 h₂) λ m st₃ t₃ u₃ s₃ h₃.
      bind_m (parameters_m 0 (omega arith) h₃.at) λ ps st₄ t₄ u₄ s₄ h₄.
      grouped _ _ _
      (bind_m (throws_m h₄) λ th st₅ t₅ u₅ s₅ h₅.
      grouped _ _ _
      (bind_m (trivia_m text short _ h₅.at) λ x st₆ t₆ u₆ s₆ h₆.
      bind_m (annotations_m text short h₆) λ a st₇ t₇ u₇ s₇ h₇. here_in s₇ _
      (let l = span (place m) (last_of s₇) in
      let k = sum (flag_if (code_of st) 50 4) (flag_if (code_of st₄) 12 8) in
      let z : k ≡ oneway_flag o + throws_flag th =
      small_sum (flag_if (code_of st) 50 4) (flag_if (code_of st₄) 12 8) (omega (arith, h₁.flagged, h₅.flagged, flags_small o th)) ∙ omega (arith, h₁.flagged, h₅.flagged) in
      went
      (regrown (ap (λ (x : Tree). f ⊕ single x) (function_node k l (waiting_of s) o y m ps th a z))
      (finish_at 11 k (place m) st₃.last.start [] (waiting_of s) h h₇ (ap (λ (l : LOC). l.start) (h₃.at.last ∙ h₃.there))))))))))

  -- ---- enum members

  initializer_m : {i b p : ℕ} {fr : Frame} {f : Forest} {st : State} {t u : List ℕ} {s : St} → At text i b p fr f st t u s
      → Meant (λ v. At text i b p fr (f ⊕ perhaps literal_tree v bare)) (initializer_in text b p st t u) (parse_initializer s)
  unfolding initializer_in parse_initializer code perhaps single value_kind is
  initializer_m {b = b} {p = p} {f = f} {s = s} h =
      one_m text short T.Equals _ _ s h
      (λ e. here_m {k = λ st t u. cond (eqb (code_of st) 31) (token_in text 31 6 27 b p st t u) (token_in text 32 6 24 b p st t u)}
      (step_m text short (T.Equals ∷ []) s e h) λ x st₁ t₁ u₁ s₁ h₁.
      last_m (either_m literal_tree T.IntegerLiteral T.HexLiteral 24 27 6 (λ tok. literal_of T.IntegerLiteral 24 tok refl)
      (λ tok. literal_of T.HexLiteral 27 tok refl) h₁.at) λ v st₂ t₂ u₂ s₂ h₂.
      went (fewer (omega arith) h₂.at))
      (λ e. went (regrown (sym (plus_bare f)) h))

  pub member_m : {i b p : ℕ} {fr : Frame} {f : Forest} {st : State} {t u : List ℕ} {s : St} → At text (suc i) b p fr f st t u s
      → Meant (λ a. At text (suc i) b p fr (f ⊕ single (member_tree a))) (member_in text b p st t u) (parse_enum_member s)
  unfolding member_in parse_enum_member node_in
  member_m {b = b} {p = p} {f = f} {st = st} {t = t} {u = u} {s = s} h =
      taken_in s _
      (owning st t u _
      (bind_m (name_m text short 19 (own_at s h)) λ m st₁ t₁ u₁ s₁ h₁.
      bind_m (initializer_m h₁.at) λ v st₂ t₂ u₂ s₂ h₂.
      bind_m (annotations_m text short h₂) λ a st₃ t₃ u₃ s₃ h₃. here_in s₃ _
      (went
      (regrown (ap (λ (x : Tree). f ⊕ single x) (member_node (span (place m) (last_of s₃)) (waiting_of s) m v a))
      (finish_at 13 0 (place m) st₁.last.start [] (waiting_of s) h h₃ (ap (λ (l : LOC). l.start) (h₁.at.last ∙ h₁.there)))))))
