-- The code (its model, specs/Into) reads annotations, fields and lists of members as the definitions do.
--     token_m, name_m     a token, a name
--     annotations_m       annotations, or none
--     field_m             a field
--     members_m           members from one bracket to another
use mathlib.Core.Path.{◌≡◌, refl, sym, ap, ◌∙◌}
use mathlib.Core.Bool.{Bool, true, false, cond}
use mathlib.Core.List.{List, [], ◌∷◌}
use Rattle.std.specs.Prelude.{Option}
use Prim.Native.Nat.{ℕ, suc, ◌+◌, ◌≤◌}
use native.Mathlib.Omega.{arith}
use lib.Dec.{eqb}
use lib.ListN.{length}
use Rattle.token.specs.Code.{code, is, among}
use Rattle.token.specs.declared.Token.{Token}
use Rattle.token.specs.declared.Token.TheVariants as T
use Rattle.lexer.specs.declared.location.LOC.{LOC}
use Rattle.lexer.specs.Tokens.{Lexeme}
use Rattle.ast.specs.Ast.{FieldType, FieldInitialValue, annotation, Annotations, Required, default, required, optional, field}
use Rattle.ast.specs.Tree.{
  Tree,
  node,
  Forest,
  bare,
  grown,
  leaf,
  inner,
  single,
  both,
  each,
  perhaps,
  name_tree,
  id_tree,
  type_tree,
  value_kind,
  literal_tree,
  value_tree,
  annotation_tree,
  annotations_tree,
  required_flag,
  field_tree,
}
use Rattle.steps.specs.declared.state.State.{State}
use Rattle.parser.specs.Steps.{kind, bytes, place, span, St, Res, P, test, peek, when, want, separators}
use Rattle.parser.specs.Definitions.{
  is_id,
  one_separator,
  parse_type,
  parse_value,
  parse_annotation,
  annotations_end,
  parse_annotations,
  parse_field_id,
  parse_required,
  field_names,
  parse_default,
  parse_field,
  members_end,
  parse_members,
}
use Rattle.steps.specs.Packed.{unpacked_loc}
use Rattle.steps.specs.Into.{
  Falls,
  code_of,
  done,
  M,
  after,
  ◌⨟◌,
  sum,
  put,
  place_of,
  opened,
  leaf_in,
  put_node,
  node_in,
  take_in,
  owners,
  owns,
  own_in,
  skip_in,
  closes_at,
  start_at,
  is_id_at,
}
use Rattle.parse_values.specs.Into.{type_in, value_in}
use Rattle.parse_fields.specs.Into.{token_in, name_in, one_separator_in, annotation_in, annotation_list_in, annotations_in, id_in, field_id_in, required_of, skip_required, field_name_in, default_in, field_head_in, field_tail_in, field_in, skip_member_in, members_in}
use Rattle.ast.specs.Records.{node_width, node_row}
use Rattle.parser.proofs.KindLaws.{one_test, one_kind}
use Rattle.steps.proofs.SkipLaws.{separator_test, separators_m, discard_m, comments_m}
use Rattle.parse_fields.proofs.KindTests.{name_test}
use Rattle.steps.proofs.ForestLaws.{◌⊕◌, plus_bare, plus_assoc, perhaps_plus}
use Rattle.steps.proofs.Seen.{
  small_sum,
  last_of,
  waiting_of,
  Frame,
  At,
  less,
  fewer,
  regrown,
  Meant,
  went,
  bind_m,
  here_m,
  last_m,
  cond_m,
  grouped,
  Means,
}
use Rattle.steps.proofs.StepLaws.{
  tested,
  Wanted,
  step_m,
  when_m,
  one_m,
  expect_m,
  refuse_m,
  refuse_at_m,
  here_in,
  start_in,
  start_at_law,
  start_of,
  taken_in,
  emptied,
}
use Rattle.steps.proofs.Bytes.{skip_rests}
use Rattle.parse_fields.proofs.Bytes.{annotation_falls, skip_member_rests}
use Rattle.steps.proofs.NodeLaws.{open_at, own_at, finish_at, leaf_at, leaf_m, Turn, turn_after, turn_last, closed_turn, loop_m}
use Rattle.parse_values.proofs.MeantTypes.{type_m}
use Rattle.parse_values.proofs.MeantValues.{literal_tree_law, value_m}

-- ---- steps that only write

module _ {A : Type 0} {Q : A → State → List ℕ → List ℕ → St → Type 0} {r : Res A} where
  pub noded : (n k f x b p : ℕ) (st : State) (t u : List ℕ) (j : M) → Meant Q (j st (put_node n k f x b p st t) u) r
      → Meant Q (after (node_in n k f x b p st t u) j) r
  unfolding after node_in
  noded n k f x b p st t u j h = h

  leafed : (k b p : ℕ) (st : State) (t u : List ℕ) (j : M) → Meant Q (j (opened st) (put node_width (place_of b st.next) (node_row k p 0 (unpacked_loc st.last) (opened st).next) t) u) r
      → Meant Q (after (leaf_in k b p st t u) j) r
  unfolding after leaf_in
  leafed k b p st t u j h = h

  pub owning : (st : State) (t u : List ℕ) (j : M) → Meant Q (j (owns (opened st)) t (owners st.owned st.waiting st.next u)) r
      → Meant Q (after (own_in st.next (opened st) t u) j) r
  unfolding after own_in opened
  owning st t u j h = h

-- a literal of a kind that is known
pub literal_of : (j : Token) (k : ℕ) (tok : Lexeme) → value_kind j ≡ k → among (kind tok) (j ∷ []) ≡ true → leaf k tok ≡ literal_tree tok
literal_of j k tok e h = ap (λ (n : ℕ). leaf n tok) (sym e ∙ sym (ap value_kind (one_kind (kind tok) j h))) ∙ literal_tree_law tok

annotation_tree_law : (a l : LOC) (n v : Lexeme) → l ≡ place v → among (kind v) (T.StringLiteral ∷ []) ≡ true
    → node 15 0 (span a l) [] [] (single (leaf 16 n) ⊕ single (leaf 23 v)) ≡ annotation_tree (annotation (span a (place v)) n v)
unfolding annotation_tree inner both name_tree single value_kind is code
annotation_tree_law a l n v e h = rw (e, literal_of T.StringLiteral 23 v refl h)

required_small : (r : Required) → required_flag r ≤ 2
unfolding required_flag
required_small default = omega arith
required_small required = omega arith
required_small optional = omega arith

field_forest : (o : Option Lexeme) (y : FieldType) (n : Lexeme) (v : Option FieldInitialValue) (a : Annotations)
    → (((perhaps id_tree o bare ⊕ single (type_tree y)) ⊕ single (leaf 16 n)) ⊕ perhaps value_tree v bare) ⊕ annotations_tree a bare
    ≡ perhaps id_tree o (grown (type_tree y) (grown (name_tree n) (perhaps value_tree v (annotations_tree a bare))))
unfolding single name_tree
field_forest o y n v a = simp plus_assoc (simp perhaps_plus)

field_node : (fl : ℕ) (l : LOC) (c : List Lexeme) (o : Option Lexeme) (r : Required) (y : FieldType) (n : Lexeme)
    (v : Option FieldInitialValue) (a : Annotations) (k : ℕ) → k ≡ required_flag r + fl
    → node 12 k l [] c ((((perhaps id_tree o bare ⊕ single (type_tree y)) ⊕ single (leaf 16 n)) ⊕ perhaps value_tree v bare) ⊕ annotations_tree a bare)
    ≡ field_tree fl (field l c o r y n v a)
unfolding field_tree
field_node fl l c o r y n v a k e = rw (e, field_forest o y n v a)

-- the flag of a requiredness by its kind
flag_of : (k : ℕ) (x y : Bool) → eqb k 13 ≡ x → eqb k 14 ≡ y → required_of k ≡ cond x 1 (cond y 2 0)
unfolding required_of
flag_of k x y d e = rw (d, e)

-- a token as a node
pub token_m : (text : List ℕ) (short : length text ≤ 65536) {i b p : ℕ} {fr : Frame} {f : Forest} {st : State} {t u : List ℕ} (j : Token) (k : ℕ) (s : St) (e : ℕ)
    → At text i b p fr f st t u s
    → Meant (λ tok. Wanted (j ∷ []) text (suc i) b p fr (f ⊕ single (leaf k tok)) st tok) (token_in text (code j) e k b p st t u) (want (j ∷ []) e s)
unfolding token_in
token_m text short j k s e h = leaf_m k (expect_m text short j s e h)

module _ (text : List ℕ) (short : length text ≤ 65536) where
  pub name_m : {i b p : ℕ} {fr : Frame} {f : Forest} {st : State} {t u : List ℕ} {s : St} (e : ℕ) → At text i b p fr f st t u s
      → Meant (λ tok. Wanted (T.Identifier ∷ []) text (suc i) b p fr (f ⊕ single (name_tree tok)) st tok) (name_in text e b p st t u) (want (T.Identifier ∷ []) e s)
  unfolding name_in code name_tree
  name_m e h = token_m text short T.Identifier 16 _ e h

  -- ---- annotations

  one_separator_m : {i b p : ℕ} {fr : Frame} {f : Forest} {st : State} {t u : List ℕ} {s : St} → At text i b p fr f st t u s
      → Meant (λ (a : Unit {0}). At text i b p fr f) (one_separator_in text st t u) (one_separator s)
  unfolding one_separator_in one_separator
  one_separator_m {s = s} h =
      when_m text short _ _ s separator_test h
      (λ e. last_m (step_m text short separators s e h) λ tok st₁ t₁ u₁ s₁ h₁. went (less (less h₁.at)))
      (λ e. went h)

  annotation_m : {i b p : ℕ} {fr : Frame} {f : Forest} {st : State} {t u : List ℕ} {s : St} → At text (suc i) b p fr f st t u s
      → Meant (λ a. At text (suc i) b p fr (f ⊕ single (annotation_tree a))) (annotation_in text b p st t u) (parse_annotation s)
  unfolding annotation_in parse_annotation code name_tree opened
  annotation_m {f = f} {st = st} h =
      bind_m (name_m 2 (open_at h)) λ n st₁ t₁ u₁ s₁ h₁.
      bind_m (expect_m text short T.Equals _ 2 h₁.at) λ x st₂ t₂ u₂ s₂ h₂.
      bind_m (token_m text short T.StringLiteral 23 _ 2 h₂.at) λ v st₃ t₃ u₃ s₃ h₃.
      noded _ _ _ _ _ _ st₃ t₃ u₃ _
      (last_m (one_separator_m
      (regrown (ap (λ (z : Tree). f ⊕ single z) (annotation_tree_law (place n) (last_of s₃) n v h₃.there h₃.kinds))
      (finish_at 15 0 (place n) st.loc.start [] [] h h₃.at (ap (λ (l : LOC). l.start) h₁.first.placed))))
      λ x st₄ t₄ u₄ s₄ h₄. went (fewer (omega arith) h₄))

  annotations_turn : {i b p : ℕ} {fr : Frame} {f : Forest} {st : State} {t u : List ℕ} {s : St} → At text i b p fr f st t u s
      → Turn text i b p fr f (closes_at 41) (take_in text) (skip_in text false st t u) (annotations_end s)
  unfolding annotations_end code
  annotations_turn h = turn_last (discard_m text short _ h) λ a st₁ t₁ u₁ s₁ h₁. closed_turn text short T.RightParen s₁ h₁

  pub annotations_m : {i b p : ℕ} {fr : Frame} {f : Forest} {st : State} {t u : List ℕ} {s : St} → At text (suc i) b p fr f st t u s
      → Meant (λ a. At text (suc i) b p fr (f ⊕ annotations_tree a bare)) (annotations_in text b p st t u) (parse_annotations s)
  unfolding annotations_in parse_annotations annotation_list_in node_in code annotations_tree inner single each
  annotations_m {b = b} {p = p} {f = f} {st = st} {s = s} h =
      one_m text short T.LeftParen _ _ s h
      (λ e. here_in s _
      (here_m {k = annotation_list_in text b st.next ⨟ node_in st.next 14 0 st.last.start b p}
      (step_m text short (T.LeftParen ∷ []) s e (open_at h)) λ x st₁ t₁ u₁ s₁ h₁.
      bind_m (loop_m annotation_tree (λ xs. each annotation_tree xs bare) (closes_at 41) (skip_in text false) (take_in text) (annotation_in text b st.next) (skip_rests text false) (annotation_falls text b st.next)
      [] ◌∷◌ annotations_end parse_annotation refl (λ a x. refl)
      (λ f st t u s h. annotations_turn h) (λ f st t u s h. annotation_m h) short bare _ _ _ _ h₁.at) λ xs st₂ t₂ u₂ s₂ h₂. here_in s₂ _
      (went (fewer (omega arith) (finish_at 14 0 (last_of s) st.last.start [] [] h h₂ (ap (λ (l : LOC). l.start) h.last))))))
      (λ e. went (regrown (sym (plus_bare f)) h))

  -- ---- fields

  field_id_m : {i b p : ℕ} {fr : Frame} {f : Forest} {st : State} {t u : List ℕ} {s : St} → At text i b p fr f st t u s
      → Meant (λ o. At text i b p fr (f ⊕ perhaps id_tree o bare)) (field_id_in text b p st t u) (parse_field_id s)
  unfolding field_id_in id_in parse_field_id perhaps id_tree single code
  field_id_m {b = b} {p = p} {f = f} {st = st} {s = s} h =
      one_m text short T.IntegerLiteral _ _ s h
      (λ e. here_m {k = id_in text st b p} (step_m text short (T.IntegerLiteral ∷ []) s e h) λ tok st₁ t₁ u₁ s₁ h₁.
      cond_m _ _ s₁ _ (is_id (bytes tok)) (ap (is_id_at text) (h₁.at.last ∙ h₁.there) ∙ h₁.first.spelled)
      (λ y. leafed 17 b p st₁ t₁ u₁ _
      (last_m (expect_m text short T.Colon _ 2 (leaf_at 17 tok h₁.at h₁.there)) λ x st₂ t₂ u₂ s₂ h₂. went (fewer (omega arith) h₂.at)))
      (λ y. refuse_at_m 9 st tok s₁ _ _ h₁.first))
      (λ e. went (regrown (sym (plus_bare f)) h))

  -- the state behind a requiredness that may be there, and its flag
  record Flagged (i b p : ℕ) (fr : Frame) (f : Forest) (before : State) (r : Required) (st : State) (t u : List ℕ) (s : St) : Type 0 where
    at : At text i b p fr f st t u s
    flag : required_of (code_of before) ≡ required_flag r

  required_by : {i b p : ℕ} {fr : Frame} {f : Forest} {st : State} {t u : List ℕ} {s : St} → At text i b p fr f st t u s
      → (x y : Bool) → eqb (code_of st) 13 ≡ x → peek (T.Required ∷ []) s ≡ x → eqb (code_of st) 14 ≡ y → peek (T.Optional ∷ []) s ≡ y
      → Meant (Flagged i b p fr f st) (done (skip_required text st) t u) (parse_required s)
  unfolding parse_required when test skip_required required_flag
  required_by {st = st} {s = s} h true y k e k' e' =
      let z : required_of (code_of st) ≡ 1 = flag_of (code_of st) true y k k' in
      rw (z, e) (last_m (step_m text short (T.Required ∷ []) s e h) λ x st₁ t₁ u₁ s₁ h₁. went (record { at = less (less h₁.at); flag = z }))
  required_by {st = st} {s = s} h false true k e k' e' =
      let z : required_of (code_of st) ≡ 2 = flag_of (code_of st) false true k k' in
      rw (z, e, e') (last_m (step_m text short (T.Optional ∷ []) s e' h) λ x st₁ t₁ u₁ s₁ h₁. went (record { at = less (less h₁.at); flag = z }))
  required_by {st = st} h false false k e k' e' =
      let z : required_of (code_of st) ≡ 0 = flag_of (code_of st) false false k k' in
      rw (z, e, e') (went (record { at = h; flag = z }))

  required_m : {i b p : ℕ} {fr : Frame} {f : Forest} {st : State} {t u : List ℕ} {s : St} → At text i b p fr f st t u s
      → Meant (Flagged i b p fr f st) (done (skip_required text st) t u) (parse_required s)
  unfolding code
  required_m {s = s} h =
      required_by h (peek (T.Required ∷ []) s) (peek (T.Optional ∷ []) s) (tested s (one_test T.Required) h.ahead) refl (tested s (one_test T.Optional) h.ahead) refl

  field_name_m : {i b p : ℕ} {fr : Frame} {f : Forest} {st : State} {t u : List ℕ} {s : St} → At text i b p fr f st t u s
      → Meant (λ tok. Wanted field_names text (suc i) b p fr (f ⊕ single (leaf 16 tok)) st tok) (field_name_in text b p st t u) (want field_names 8 s)
  unfolding field_name_in want after
  field_name_m {s = s} h = when_m text short _ _ s name_test h (λ e. leaf_m 16 (step_m text short field_names s e h)) (λ e. refuse_m s 8 h)

  default_m : {i b p : ℕ} {fr : Frame} {f : Forest} {st : State} {t u : List ℕ} {s : St} → At text i b p fr f st t u s
      → Meant (λ o. At text i b p fr (f ⊕ perhaps value_tree o bare)) (default_in text b p st t u) (parse_default s)
  unfolding default_in parse_default parse_value code perhaps single
  default_m {b = b} {p = p} {f = f} {s = s} h =
      one_m text short T.Equals _ _ s h
      (λ e. here_m {k = value_in text 32 b p} (step_m text short (T.Equals ∷ []) s e h) λ x st₁ t₁ u₁ s₁ h₁.
      last_m (value_m text short 32 h₁.at) λ v st₂ t₂ u₂ s₂ h₂. went (less (less h₂)))
      (λ e. went (regrown (sym (plus_bare f)) h))

  pub field_m : (fl : ℕ) → fl ≤ 16 → {i b p : ℕ} {fr : Frame} {f : Forest} {st : State} {t u : List ℕ} {s : St} → At text (suc i) b p fr f st t u s
      → Meant (λ a. At text (suc i) b p fr (f ⊕ single (field_tree fl a))) (field_in text fl b p st t u) (parse_field s)
  unfolding field_in parse_field field_head_in field_tail_in parse_type node_in start_at owns opened field_tree
  field_m fl small {b = b} {p = p} {f = f} {st = st} {t = t} {u = u} {s = s} h =
      let n = st.next in
      let o = own_at s h in
      taken_in s _ (start_in (emptied s) _
      (owning st t u _
      (bind_m (field_id_m o) λ i st₁ t₁ u₁ s₁ h₁.
      grouped _ _ _
      (here_m {k = type_in text 32 b n ⨟ (field_name_in text b n ⨟ (field_tail_in text b n ⨟ node_in n 12 (sum (required_of (code_of st₁)) fl) (start_at st) b p))}
      (required_m h₁) λ r st₂ t₂ u₂ s₂ h₂.
      bind_m (type_m text short 32 h₂.at) λ y st₃ t₃ u₃ s₃ h₃.
      bind_m (field_name_m h₃) λ m st₄ t₄ u₄ s₄ h₄.
      grouped _ _ _
      (bind_m (default_m h₄.at) λ v st₅ t₅ u₅ s₅ h₅.
      bind_m (annotations_m h₅) λ a st₆ t₆ u₆ s₆ h₆. here_in s₆ _
      (let l = span (start_of (emptied s)) (last_of s₆) in
      let z : sum (required_of (code_of st₁)) fl ≡ required_flag r + fl =
      small_sum (required_of (code_of st₁)) fl (omega (arith, h₂.flag, required_small r)) ∙ omega (arith, h₂.flag) in
      went
      (regrown (ap (λ (x : Tree). f ⊕ single x) (field_node fl l (waiting_of s) i r y m v a _ z))
      (finish_at 12 (sum (required_of (code_of st₁)) fl) (start_of (emptied s)) (start_at st) [] (waiting_of s) h h₆ (start_at_law (emptied s) o)))))))))

  -- ---- members

  members_turn : (k : Token) {i b p : ℕ} {fr : Frame} {f : Forest} {st : State} {t u : List ℕ} {s : St} → At text i b p fr f st t u s
      → Turn text i b p fr f (closes_at (code k)) (take_in text) (skip_member_in text st t u) (members_end k s)
  unfolding skip_member_in members_end
  members_turn k h =
      turn_after (separators_m text short _ h) λ a st₁ t₁ u₁ s₁ h₁. turn_last (comments_m text short _ h₁) λ a st₂ t₂ u₂ s₂ h₂. closed_turn text short k s₂ h₂

  pub members_m : {A : Type 0} (G : A → Tree) (l r : Token) (m : M) → Falls text m → (q : P A) {i b p : ℕ} → Means text i b p (λ a. single (G a)) m q
      → {fr : Frame} {f : Forest} {st : State} {t u : List ℕ} {s : St} → At text i b p fr f st t u s
      → Meant (λ xs. At text i b p fr (f ⊕ each G xs bare)) (members_in text (code l) (code r) m st t u) (parse_members l r q s)
  unfolding members_in parse_members each
  members_m G l r m falls q reads {fr = fr} {f = f} h =
      bind_m (expect_m text short l _ 2 h) λ x st₁ t₁ u₁ s₁ h₁.
      loop_m G (λ xs. each G xs bare) (closes_at (code r)) (skip_member_in text) (take_in text) m (skip_member_rests text) falls [] ◌∷◌ (members_end r) q refl (λ a x. refl)
      (λ f st t u s h. members_turn r h) (reads fr) short f st₁ t₁ u₁ s₁ (less (less h₁.at))
