-- What is read has at most two node records and one comment for each token taken.
--     Paid            a reading's records and comments, bounded by the tokens and comments that it takes; a law for each reader
--     nodes_bound     at most twice as many node records as tokens
--     notes_bound     at most as many comments as tokens
--     tokens_bound    at most as many tokens as bytes
--     read_bounds     the same for a text that is read, and its bytes: so at most 131072 node records and 65536 comments
use mathlib.Core.Path.{◌≡◌, refl}
use mathlib.Core.Bool.{Bool, true, false, cond}
use mathlib.Core.List.{List, [], ◌∷◌, ◌++◌}
use Rattle.std.specs.Prelude.{Option, Some, None}
use Prim.Native.Nat.{ℕ, suc, zero, ◌+◌, ◌*◌, ◌-◌, ◌≤◌}
use native.Mathlib.Omega.{arith}
use lib.ListN.{length, take, drop, length-append}
use Rattle.token.specs.Scan.{scan}
use Rattle.token.specs.declared.Token.{Token}
use Rattle.token.specs.declared.Token.TheVariants as T
use Rattle.token.specs.Scanned.{Scan}
use Rattle.lexer.specs.Outcome.{Outcome, accepted, refused as rejected}
use Rattle.lexer.specs.declared.location.LOC.{LOC}
use Rattle.lexer.specs.declared.location.Lexer.{Lexer}
use Rattle.lexer.specs.Cuts.{cut_at, cuts_from, cuts}
use Rattle.lexer.specs.Location.{pass as passed, opening, between}
use Rattle.lexer.specs.Tokens.{Lexeme, lexeme, skipped, lexemes, tokens}
use Rattle.lexer.specs.Check.{checked}
use Rattle.lexer.proofs.Ascii.{fine_means}
use Rattle.ast.specs.Ast.{
  FieldType,
  CommonType,
  ListType,
  SetType,
  MapType,
  FieldInitialValue,
  ConstValue,
  ConstList,
  ConstMap,
  Elements,
  nil,
  cons,
  Properties,
  pnil,
  pcons,
  Annotation,
  annotation,
  Annotations,
  absent,
  annotations,
  Required,
  Field,
  field,
  EnumMember,
  member,
  Function,
  function,
  Structure,
  Struct,
  Union,
  Exception,
  Definition,
  Include,
  CppInclude,
  Namespace,
  Const,
  Typedef,
  Enum,
  structure,
  Service,
}
use Rattle.ast.specs.Tree.{
  Tree,
  node,
  Forest,
  bare,
  grown,
  leaf,
  inner,
  single,
  both,
  each,
  perhaps,
  name_tree,
  id_tree,
  type_tree,
  literal_tree,
  value_tree,
  element_trees,
  property_trees,
  annotation_tree,
  annotations_tree,
  field_tree,
  member_tree,
  throws_trees,
  function_tree,
  definition_tree,
}
use Rattle.parser.specs.Steps.{
  kind,
  place,
  St,
  pos,
  Raised,
  Res,
  ok,
  no,
  P,
  bind,
  test,
  when,
  fail,
  needs,
  refuse,
  next,
  want,
  start,
  here,
  taken,
  Fate,
  stop,
  over,
  wait,
  by,
  pass,
  skip,
  skip_separator,
  skip_comments,
  skip_comments_discard,
  skip_trivia,
  closed,
  loop,
  many,
}
use Rattle.parser.specs.Types.{complex_type, map_type, container_type, type_by, field_type}
use Rattle.parser.proofs.TypeStep.{type_step}
use Rattle.parser.specs.Values.{
  values_end,
  Property,
  property,
  put,
  map_property,
  list_value,
  map_value,
  container_value,
  value_by,
  field_value,
}
use Rattle.parser.specs.Definitions as D
use Rattle.parser.specs.Definitions.{
  parse_type,
  parse_value,
  one_separator,
  parse_annotation,
  annotations_end,
  parse_annotations,
  parse_field_id,
  parse_required,
  field_names,
  parse_default,
  parse_field,
  members_end,
  parse_members,
  parse_parameters,
  parse_throws,
  parse_return_type,
  parse_oneway,
  parse_function,
  parse_initializer,
  parse_enum_member,
  parse_include,
  parse_namespace,
  parse_const,
  parse_typedef,
  parse_enum,
  parse_structure,
  parse_extends,
  parse_service,
  parse_definition,
  document_end,
  parse_document,
}
use Rattle.parser.specs.Read.{parsed, answered, outcome_by, outcome}
use Rattle.ast.specs.Records.{size, sizes, forest, node_rows, notes}
use Rattle.ast.proofs.Counts.{note_count, note_counts, node_rows_size, notes_count}

-- ---- the parts of each tree

-- a count of a tree: so many for each node by its comments
record Counted (count : Tree → ℕ) (counts : Forest → ℕ) (own : List Lexeme → ℕ) : Type 0 where
  of_node : (k f : ℕ) (l : LOC) (w : List ℕ) (c : List Lexeme) (ts : Forest) → count (node k f l w c ts) ≡ own c + counts ts
  of_bare : counts bare ≡ 0
  of_grown : (t : Tree) (ts : Forest) → counts (grown t ts) ≡ count t + counts ts

nodes : Counted size sizes (λ c. 1)
unfolding size sizes
nodes = record { of_node = λ k f l w c ts. omega arith; of_bare = refl; of_grown = λ t ts. refl }

comments : Counted note_count note_counts length
unfolding note_count note_counts
comments = record { of_node = λ k f l w c ts. refl; of_bare = refl; of_grown = λ t ts. refl }

module _ {count : Tree → ℕ} {counts : Forest → ℕ} {own : List Lexeme → ℕ} (m : Counted count counts own) where
  of_leaf : (k : ℕ) (t : Lexeme) → count (leaf k t) ≡ own []
  unfolding leaf
  of_leaf k (lexeme t w l) = omega (arith, m.of_node k 0 l w [] bare, m.of_bare)

  of_name : (t : Lexeme) → count (name_tree t) ≡ own []
  unfolding name_tree
  of_name t = of_leaf 16 t

  of_id : (t : Lexeme) → count (id_tree t) ≡ own []
  unfolding id_tree
  of_id t = of_leaf 17 t

  of_literal : (t : Lexeme) → count (literal_tree t) ≡ own []
  unfolding literal_tree
  of_literal (lexeme t w l) = of_leaf _ (lexeme t w l)

  of_inner : (k : ℕ) (l : LOC) (ts : Forest) → count (inner k l ts) ≡ own [] + counts ts
  unfolding inner
  of_inner k l ts = m.of_node k 0 l [] [] ts

  of_single : (t : Tree) → counts (single t) ≡ count t
  unfolding single
  of_single t = omega (arith, m.of_grown t bare, m.of_bare)

  of_both : (t u : Tree) → counts (both t u) ≡ count t + count u
  unfolding both
  of_both t u = omega (arith, m.of_grown t (single u), of_single u)

  of_perhaps : {A : Type 0} (f : A → Tree) (o : Option A) (r : Forest) → counts (perhaps f o r) ≡ counts (perhaps f o bare) + counts r
  unfolding perhaps
  of_perhaps f None r = omega (arith, m.of_bare)
  of_perhaps f (Some x) r = omega (arith, m.of_grown (f x) r, m.of_grown (f x) bare, m.of_bare)

  of_some : {A : Type 0} (f : A → Tree) (x : A) → counts (perhaps f (Some x) bare) ≡ count (f x)
  unfolding perhaps
  of_some f x = omega (arith, m.of_grown (f x) bare, m.of_bare)

  of_none : {A : Type 0} (f : A → Tree) → counts (perhaps f None bare) ≡ 0
  unfolding perhaps
  of_none f = m.of_bare

  of_each : {A : Type 0} (f : A → Tree) (xs : List A) (r : Forest) → counts (each f xs r) ≡ counts (each f xs bare) + counts r
  unfolding each
  of_each f [] r = omega (arith, m.of_bare)
  of_each f (x ∷ xs) r = omega (arith, m.of_grown (f x) (each f xs r), m.of_grown (f x) (each f xs bare), of_each f xs r)

  of_empty : {A : Type 0} (f : A → Tree) → counts (each f [] bare) ≡ 0
  unfolding each
  of_empty f = m.of_bare

  of_first : {A : Type 0} (f : A → Tree) (x : A) (xs : List A) → counts (each f (x ∷ xs) bare) ≡ count (f x) + counts (each f xs bare)
  unfolding each
  of_first f x xs = m.of_grown (f x) (each f xs bare)

  of_common : (t : Lexeme) → count (type_tree (CommonType t)) ≡ own []
  unfolding type_tree
  of_common (lexeme t w l) = of_leaf _ (lexeme t w l)

  of_list_type : (l : LOC) (k : Lexeme) (t : FieldType) → count (type_tree (ListType l k t)) ≡ own [] + count (type_tree t)
  unfolding type_tree
  of_list_type l k t = rw (of_inner, of_single)

  of_set_type : (l : LOC) (k : Lexeme) (t : FieldType) → count (type_tree (SetType l k t)) ≡ own [] + count (type_tree t)
  unfolding type_tree
  of_set_type l k t = rw (of_inner, of_single)

  of_map_type : (l : LOC) (k : Lexeme) (t u : FieldType) → count (type_tree (MapType l k t u)) ≡ own [] + (count (type_tree t) + count (type_tree u))
  unfolding type_tree
  of_map_type l k t u = rw (of_inner, of_both)

  of_value : (t : Lexeme) → count (value_tree (ConstValue t)) ≡ own []
  unfolding value_tree
  of_value = of_literal

  of_list_value : (l : LOC) (vs : Elements) → count (value_tree (ConstList l vs)) ≡ own [] + counts (element_trees vs)
  unfolding value_tree
  of_list_value l vs = of_inner _ l _

  of_map_value : (l : LOC) (ps : Properties) → count (value_tree (ConstMap l ps)) ≡ own [] + counts (property_trees ps)
  unfolding value_tree
  of_map_value l ps = of_inner _ l _

  of_nil : counts (element_trees nil) ≡ 0
  unfolding element_trees
  of_nil = m.of_bare

  of_cons : (v : FieldInitialValue) (vs : Elements) → counts (element_trees (cons v vs)) ≡ count (value_tree v) + counts (element_trees vs)
  unfolding element_trees
  of_cons v vs = m.of_grown _ _

  of_pnil : counts (property_trees pnil) ≡ 0
  unfolding property_trees
  of_pnil = m.of_bare

  of_pcons : (l : LOC) (k v : FieldInitialValue) (ps : Properties) →
      counts (property_trees (pcons l k v ps)) ≡ own [] + (count (value_tree k) + count (value_tree v)) + counts (property_trees ps)
  unfolding property_trees
  of_pcons l k v ps = rw (m.of_grown, of_inner, of_both)

  of_annotation : (l : LOC) (n v : Lexeme) → count (annotation_tree (annotation l n v)) ≡ own [] + (own [] + own [])
  unfolding annotation_tree
  of_annotation l n v = rw (of_inner, of_both, of_name, of_literal)

  of_absent : counts (annotations_tree absent bare) ≡ 0
  unfolding annotations_tree
  of_absent = m.of_bare

  of_annotations : (l : LOC) (xs : List Annotation) → counts (annotations_tree (annotations l xs) bare) ≡ own [] + counts (each annotation_tree xs bare)
  unfolding annotations_tree
  of_annotations l xs = let ts = each annotation_tree xs bare in omega (arith, m.of_grown (inner 14 l ts) bare, m.of_bare, of_inner 14 l ts)

  of_field : (f : ℕ) (l : LOC) (c : List Lexeme) (i : Option Lexeme) (r : Required) (t : FieldType) (n : Lexeme) (v : Option FieldInitialValue) (a : Annotations) →
      count (field_tree f (field l c i r t n v a))
      ≡ own c + (counts (perhaps id_tree i bare) + (count (type_tree t) + (own [] + (counts (perhaps value_tree v bare) + counts (annotations_tree a bare)))))
  unfolding field_tree
  of_field f l c i r t n v a = rw (m.of_node, of_perhaps id_tree i, m.of_grown, m.of_grown, of_name, of_perhaps value_tree v)

  of_member : (l : LOC) (c : List Lexeme) (n : Lexeme) (v : Option Lexeme) (a : Annotations) →
      count (member_tree (member l c n v a)) ≡ own c + (own [] + (counts (perhaps literal_tree v bare) + counts (annotations_tree a bare)))
  unfolding member_tree
  of_member l c n v a = rw (m.of_node, m.of_grown, of_name, of_perhaps literal_tree v)

  of_throws : (th : Option (List Field)) (r : Forest) → counts (throws_trees th r) ≡ counts (throws_trees th bare) + counts r
  unfolding throws_trees
  of_throws None r = omega (arith, m.of_bare)
  of_throws (Some fs) r = of_each (field_tree 16) fs r

  of_quiet : counts (throws_trees None bare) ≡ 0
  unfolding throws_trees
  of_quiet = m.of_bare

  of_thrown : (fs : List Field) → counts (throws_trees (Some fs) bare) ≡ counts (each (field_tree 16) fs bare)
  unfolding throws_trees
  of_thrown fs = refl

  of_function : (l : LOC) (c : List Lexeme) (o : Bool) (t : FieldType) (n : Lexeme) (ps : List Field) (th : Option (List Field)) (a : Annotations) →
      count (function_tree (function l c o t n ps th a))
      ≡ own c + (count (type_tree t) + (own [] + (counts (each (field_tree 0) ps bare) + (counts (throws_trees th bare) + counts (annotations_tree a bare)))))
  unfolding function_tree
  of_function l c o t n ps th a = rw (m.of_node, m.of_grown, m.of_grown, of_name, of_each (field_tree 0) ps, of_throws th)

  of_include : (l : LOC) (c : List Lexeme) (n : Lexeme) → count (definition_tree (Include l c n)) ≡ own c + own []
  unfolding definition_tree
  of_include l c n = rw (m.of_node, of_single, of_name)

  of_cpp_include : (l : LOC) (c : List Lexeme) (n : Lexeme) → count (definition_tree (CppInclude l c n)) ≡ own c + own []
  unfolding definition_tree
  of_cpp_include l c n = rw (m.of_node, of_single, of_name)

  of_namespace : (l : LOC) (c : List Lexeme) (s n : Lexeme) → count (definition_tree (Namespace l c s n)) ≡ own c + (own [] + own [])
  unfolding definition_tree
  of_namespace l c s n = rw (m.of_node, of_both, of_name s, of_name n)

  of_const : (l : LOC) (c : List Lexeme) (t : FieldType) (n : Lexeme) (v : FieldInitialValue) →
      count (definition_tree (Const l c t n v)) ≡ own c + (count (type_tree t) + (own [] + count (value_tree v)))
  unfolding definition_tree
  of_const l c t n v = rw (m.of_node, m.of_grown, of_both, of_name)

  of_typedef : (l : LOC) (c : List Lexeme) (t : FieldType) (n : Lexeme) → count (definition_tree (Typedef l c t n)) ≡ own c + (count (type_tree t) + own [])
  unfolding definition_tree
  of_typedef l c t n = rw (m.of_node, of_both, of_name)

  of_enum : (l : LOC) (c : List Lexeme) (n : Lexeme) (xs : List EnumMember) (a : Annotations) →
      count (definition_tree (Enum l c n xs a)) ≡ own c + (own [] + (counts (each member_tree xs bare) + counts (annotations_tree a bare)))
  unfolding definition_tree
  of_enum l c n xs a = rw (m.of_node, m.of_grown, of_name, of_each member_tree xs)

  of_structure : (k : Structure) (l : LOC) (c : List Lexeme) (n : Lexeme) (fs : List Field) (a : Annotations) →
      count (definition_tree (structure k l c n fs a)) ≡ own c + (own [] + (counts (each (field_tree 0) fs bare) + counts (annotations_tree a bare)))
  unfolding definition_tree
  of_structure k l c n fs a = rw (m.of_node, m.of_grown, of_name, of_each (field_tree 0) fs)

  of_service : (l : LOC) (c : List Lexeme) (n : Lexeme) (x : Option Lexeme) (fs : List Function) (a : Annotations) →
      count (definition_tree (Service l c n x fs a))
      ≡ own c + (own [] + (counts (perhaps name_tree x bare) + (counts (each function_tree fs bare) + counts (annotations_tree a bare))))
  unfolding definition_tree
  of_service l c n x fs a = rw (m.of_node, m.of_grown, of_name, of_perhaps name_tree x, of_each function_tree fs)

-- ---- what a reading takes

-- the tokens left
abbrev pub tokens_left : St → ℕ
tokens_left (pos l c ts) = length ts

-- the comments that wait and the tokens left
abbrev pub comments_left : St → ℕ
comments_left (pos l c ts) = length c + length ts

-- x node records and y comments and what is left in s are within a and b
pub record Spent (x y a b : ℕ) (s : St) : Type 0 where
  pub nodes : x + 2 * tokens_left s ≤ a
  pub comments : y + comments_left s ≤ b

-- a reading refuses, or its answer's node records x and comments y and what it leaves are within a and b
pub data Paid {A : Type 0} (x y : A → ℕ) (a b : ℕ) : Res A → Type 0 where
  paid : {v : A} {s : St} → Spent (x v) (y v) a b s → Paid x y a b (ok v s)
  refused : {e : Raised} {l : LOC} → Paid x y a b (no e l)

pays : {A : Type 0} {x y : A → ℕ} {a b : ℕ} {v : A} {s : St} → x v + 2 * tokens_left s ≤ a → y v + comments_left s ≤ b → Paid x y a b (ok v s)
pays {s = s} n c = paid {s = s} (record { nodes = n; comments = c })

-- what an answer took
paid_ok : {A : Type 0} {x y : A → ℕ} {a b : ℕ} {v : A} {s : St} → Paid x y a b (ok v s) → Spent (x v) (y v) a b s
paid_ok (paid h) = h

pub spent : {A : Type 0} {x y : A → ℕ} {a b : ℕ} {r : Res A} {v : A} {s : St} → Paid x y a b r → r ≡ ok v s → Spent (x v) (y v) a b s
spent h e = paid_ok (rw e at h)

-- from the state s: a reading of x node records and y comments; of a tree; of a forest; of nothing; of a token
abbrev pub Pays : {A : Type 0} → (A → ℕ) → (A → ℕ) → St → Res A → Type 0
Pays x y s = Paid x y (2 * tokens_left s) (comments_left s)

abbrev pub PaysTree : {A : Type 0} → (A → Tree) → St → Res A → Type 0
PaysTree f = Pays (λ v. size (f v)) (λ v. note_count (f v))

abbrev pub PaysForest : {A : Type 0} → (A → Forest) → St → Res A → Type 0
PaysForest f = Pays (λ v. sizes (f v)) (λ v. note_counts (f v))

abbrev pub PaysNothing : {A : Type 0} → St → Res A → Type 0
PaysNothing = Pays (λ v. 0) (λ v. 0)

abbrev pub PaysToken : {A : Type 0} → St → Res A → Type 0
PaysToken = Pays (λ v. 2) (λ v. 1)

-- of a tree whose first token, a keyword or a bracket, was taken
abbrev pub PaysInside : {A : Type 0} → (A → Tree) → St → Res A → Type 0
PaysInside f s = Paid (λ v. size (f v)) (λ v. note_count (f v)) (2 + 2 * tokens_left s) (1 + comments_left s)

pub bind_p : {A B : Type 0} {x y : A → ℕ} {z w : B → ℕ} {a b d e : ℕ} {m : Res A} {k : A → P B} →
    Paid x y a b m → ((v : A) (s : St) → Spent (x v) (y v) a b s → Paid z w d e (k v s)) → Paid z w d e (bind m k)
unfolding bind
bind_p (paid {v = v} {s = s} h) f = f v s h
bind_p refused f = refused

pub weak_p : {A : Type 0} {x y z w : A → ℕ} {a b d e : ℕ} {m : Res A} →
    ((v : A) (s : St) → Spent (x v) (y v) a b s → Spent (z v) (w v) d e s) → Paid x y a b m → Paid z w d e m
weak_p f (paid {v = v} {s = s} h) = paid (f v s h)
weak_p f refused = refused

-- a reading that starts within a and b; and one that starts behind a token
pub after_p : {A : Type 0} {x y a b : ℕ} {z w : A → ℕ} {s : St} {m : Res A} → Spent x y a b s → Pays z w s m → Paid z w a b m
after_p h = weak_p (λ v s g. record { nodes = omega arith; comments = omega arith })

pub inside_p : {A : Type 0} {a b : ℕ} {z w : A → ℕ} {s : St} {m : Res A} → Spent 2 1 a b s → Paid z w (2 + 2 * tokens_left s) (1 + comments_left s) m → Paid z w a b m
inside_p h = weak_p (λ v s g. record { nodes = omega arith; comments = omega arith })

pub test_p : {A : Type 0} {x y : A → ℕ} {a b : ℕ} (t : Bool) (p q : P A) (s : St) →
    Paid x y a b (p s) → Paid x y a b (q s) → Paid x y a b (test t p q s)
unfolding test
test_p true p q s f g = f
test_p false p q s f g = g

pub when_p : {A : Type 0} {x y : A → ℕ} {a b : ℕ} (ks : List Token) (p q : P A) (s : St) →
    Paid x y a b (p s) → Paid x y a b (q s) → Paid x y a b (when ks p q s)
unfolding when
when_p ks p q s = test_p _ p q s

pub fail_p : {A : Type 0} {x y : A → ℕ} {a b : ℕ} (e : ℕ) (s : St) → Paid x y a b (fail {A = A} e s)
unfolding fail
fail_p e (pos l c []) = refused
fail_p e (pos l c (t ∷ ts)) = refused

pub needs_p : {A : Type 0} {x y : A → ℕ} {a b : ℕ} (e : ℕ) (p : P A) (s : St) → Paid x y a b (p s) → Paid x y a b (needs e p s)
needs_p e p (pos l c []) h = refused
needs_p e p (pos l c (t ∷ ts)) h = h

pub refuse_p : {A : Type 0} {x y : A → ℕ} {a b : ℕ} (e : ℕ) (t : Lexeme) (s : St) → Paid x y a b (refuse {A = A} e t s)
unfolding refuse
refuse_p e t s = refused

pub next_p : (s : St) → PaysToken s (next s)
unfolding next
next_p (pos l c []) = refused
next_p (pos l c (t ∷ ts)) = pays (omega arith) (omega arith)

pub want_p : (ks : List Token) (e : ℕ) (s : St) → PaysToken s (want ks e s)
unfolding want
want_p ks e s = when_p ks next (fail e) s (next_p s) (fail_p e s)

pub here_p : (s : St) → PaysNothing s (here s)
unfolding here
here_p (pos l c ts) = pays (omega arith) (omega arith)

pub start_p : (s : St) → PaysNothing s (start s)
unfolding start
start_p (pos l c []) = pays (omega arith) (omega arith)
start_p (pos l c (t ∷ ts)) = pays (omega arith) (omega arith)

pub taken_p : (s : St) → Pays (λ c. 0) length s (taken s)
unfolding taken
taken_p (pos l c ts) = pays (omega arith) (omega arith)

-- ---- the skips

by_p : {a b : ℕ} (f : Fate) (s t u : St) → Spent 0 0 a b s → Spent 0 0 a b t → Spent 0 0 a b u → Spent 0 0 a b (by f s t u)
unfolding by
by_p stop s t u f g h = f
by_p over s t u f g h = g
by_p wait s t u f g h = h

pass_p : (f : Token → Fate) (l : LOC) (c ts : List Lexeme) → Spent 0 0 (2 * length ts) (length c + length ts) (pass f l c ts)
unfolding pass
pass_p f l c [] = record { nodes = omega arith; comments = omega arith }
pass_p f l c (t ∷ ts) =
    let g = pass_p f (place t) c ts in
    let h = pass_p f (place t) (c ++ t ∷ []) ts in
    let n = length-append c (t ∷ []) in
    by_p (f (kind t)) _ _ _ (record { nodes = omega arith; comments = omega arith }) (record { nodes = omega arith; comments = omega arith })
    (record { nodes = omega arith; comments = omega arith })

skip_p : (f : Token → Fate) (s : St) → PaysNothing s (skip f s)
unfolding skip
skip_p f (pos l c ts) = paid (pass_p f l c ts)

pub separator_p : (s : St) → PaysNothing s (skip_separator s)
unfolding skip_separator
separator_p = skip_p _

pub comments_p : (s : St) → PaysNothing s (skip_comments s)
unfolding skip_comments
comments_p = skip_p _

pub discard_p : (s : St) → PaysNothing s (skip_comments_discard s)
unfolding skip_comments_discard
discard_p = skip_p _

pub trivia_p : (s : St) → PaysNothing s (skip_trivia s)
unfolding skip_trivia
trivia_p = skip_p _

pub closed_p : (k : Token) (s : St) → PaysNothing s (closed k s)
unfolding closed
closed_p k s =
    when_p _ _ _ s (bind_p (next_p s) λ t s h. pays (omega arith) (omega arith))
    (pays (omega arith) (omega arith))

-- ---- the loop

module _ {A B : Type 0} (x y : A → ℕ) (z w : B → ℕ) (e : B) (c : A → B → B) (end : P Bool) (p : P A)
    (ze : z e ≡ 0) (we : w e ≡ 0) (zc : (a : A) (v : B) → z (c a v) ≡ x a + z v) (wc : (a : A) (v : B) → w (c a v) ≡ y a + w v)
    (he : (s : St) → PaysNothing s (end s)) (hp : (s : St) → Pays x y s (p s)) where
  pub loop_p : (n : ℕ) (s : St) → Pays z w s (loop e c end p n s)
  unfolding loop
  loop_p zero s = fail_p _ s
  loop_p (suc n) s =
      bind_p (he s) λ b s h. test_p _ _ _ s (pays (omega arith) (omega arith))
      (bind_p (hp s) λ a s g. bind_p (loop_p n s) λ v s i. pays (omega (arith, zc a v)) (omega (arith, wc a v)))

  pub many_p : (s : St) → Pays z w s (many e c end p s)
  unfolding many
  many_p = loop_p _

pub list_p : {A : Type 0} (f : A → Tree) (end : P Bool) (p : P A) → ((s : St) → PaysNothing s (end s)) → ((s : St) → PaysTree f s (p s)) →
    (s : St) → PaysForest (λ xs. each f xs bare) s (many [] ◌∷◌ end p s)
list_p f end p =
    many_p (λ v. size (f v)) (λ v. note_count (f v)) (λ xs. sizes (each f xs bare)) (λ xs. note_counts (each f xs bare)) [] ◌∷◌ end p
    (of_empty nodes f) (of_empty comments f) (of_first nodes f) (of_first comments f)

-- ---- types

complex_p : (create : LOC → Lexeme → FieldType → FieldType) →
    ((l : LOC) (k : Lexeme) (t : FieldType) → size (type_tree (create l k t)) ≡ 1 + size (type_tree t)) →
    ((l : LOC) (k : Lexeme) (t : FieldType) → note_count (type_tree (create l k t)) ≡ 0 + note_count (type_tree t)) →
    (p : P FieldType) → ((s : St) → PaysTree type_tree s (p s)) → (t : Lexeme) (s : St) → PaysInside type_tree s (complex_type create p t s)
unfolding complex_type
complex_p create f g p hp t s =
    bind_p (want_p _ 2 s) λ x s h1. bind_p (hp s) λ a s h2. bind_p (want_p _ 2 s) λ x s h3. bind_p (here_p s) λ e s h4.
    pays (rw f (omega arith)) (rw g (omega arith))

module _ (p : P FieldType) (hp : (s : St) → PaysTree type_tree s (p s)) where
  map_type_p : (t : Lexeme) (s : St) → PaysInside type_tree s (map_type p t s)
  unfolding map_type
  map_type_p t s =
      bind_p (want_p _ 2 s) λ x s h1. bind_p (hp s) λ a s h2. bind_p (want_p _ 2 s) λ x s h3. bind_p (hp s) λ b s h4.
      bind_p (want_p _ 2 s) λ x s h5. bind_p (here_p s) λ e s h6.
      pays (rw (of_map_type nodes) (omega arith)) (rw (of_map_type comments) (omega arith))

  container_type_p : (t : Lexeme) (s : St) → PaysInside type_tree s (container_type p t s)
  unfolding container_type
  container_type_p t s =
      test_p _ _ _ s (complex_p ListType (of_list_type nodes) (of_list_type comments) p hp t s)
      (test_p _ _ _ s (complex_p SetType (of_set_type nodes) (of_set_type comments) p hp t s) (map_type_p t s))

type_by_p : (p : Lexeme → P FieldType) → ((t : Lexeme) (s : St) → PaysInside type_tree s (p t s)) → (s : St) → PaysTree type_tree s (type_by p s)
unfolding type_by
type_by_p p hp s =
    needs_p 5 (type_step p) s
    (bind_p (next_p s) λ t s h. test_p _ _ _ s (pays (rw (of_common nodes) (omega arith)) (rw (of_common comments) (omega arith)))
    (test_p _ _ _ s (inside_p h (hp t s)) (refuse_p 4 t s)))

pub type_p : (d : ℕ) (s : St) → PaysTree type_tree s (field_type d s)
unfolding field_type
type_p zero s = type_by_p (refuse 23) (λ t s. refuse_p 23 t s) s
type_p (suc d) s = type_by_p (container_type (field_type d)) (container_type_p (field_type d) (λ s. type_p d s)) s

pub parse_type_p : (s : St) → PaysTree type_tree s (parse_type s)
unfolding parse_type
parse_type_p = type_p _

-- ---- values

values_end_p : (k : Token) (s : St) → PaysNothing s (values_end k s)
unfolding values_end
values_end_p k s = bind_p (separator_p s) λ u s h1. bind_p (discard_p s) λ u s h2. after_p h1 (after_p h2 (closed_p k s))

-- a property's node with its key's and its value's
unfoldable pub property_tree : Property → Tree
property_tree (property l k v) = inner 31 l (both (value_tree k) (value_tree v))

of_property : {count : Tree → ℕ} {counts : Forest → ℕ} {own : List Lexeme → ℕ} (m : Counted count counts own) (l : LOC) (k v : FieldInitialValue) →
    count (property_tree (property l k v)) ≡ own [] + (count (value_tree k) + count (value_tree v))
unfolding property_tree
of_property m l k v = rw (of_inner m, of_both m)

of_put : {count : Tree → ℕ} {counts : Forest → ℕ} {own : List Lexeme → ℕ} (m : Counted count counts own) (a : Property) (ps : Properties) →
    counts (property_trees (put a ps)) ≡ count (property_tree a) + counts (property_trees ps)
unfolding put
of_put m (property l k v) ps = rw (of_pcons m, of_property m)

module _ (p : P FieldInitialValue) (hp : (s : St) → PaysTree value_tree s (p s)) where
  property_p : (s : St) → PaysTree property_tree s (map_property p s)
  unfolding map_property
  property_p s =
      bind_p (start_p s) λ b s h1. bind_p (hp s) λ k s h2. bind_p (want_p _ 2 s) λ x s h3. bind_p (hp s) λ v s h4. bind_p (here_p s) λ e s h5.
      pays (rw (of_property nodes) (omega arith)) (rw (of_property comments) (omega arith))

  elements_p : (s : St) → PaysForest element_trees s (many nil cons (values_end T.RightBracket) p s)
  elements_p =
      many_p _ _ (λ vs. sizes (element_trees vs)) (λ vs. note_counts (element_trees vs)) nil cons (values_end T.RightBracket) p (of_nil nodes)
      (of_nil comments) (of_cons nodes) (of_cons comments) (values_end_p T.RightBracket) hp

  properties_p : (s : St) → PaysForest property_trees s (many pnil put (values_end T.RightBrace) (map_property p) s)
  properties_p =
      many_p _ _ (λ ps. sizes (property_trees ps)) (λ ps. note_counts (property_trees ps)) pnil put (values_end T.RightBrace) (map_property p)
      (of_pnil nodes) (of_pnil comments) (of_put nodes) (of_put comments) (values_end_p T.RightBrace) property_p

  list_value_p : (t : Lexeme) (s : St) → PaysInside value_tree s (list_value p t s)
  unfolding list_value
  list_value_p t s =
      bind_p (elements_p s) λ vs s h1.
      bind_p (here_p s) λ e s h2. pays (rw (of_list_value nodes) (omega arith)) (rw (of_list_value comments) (omega arith))

  map_value_p : (t : Lexeme) (s : St) → PaysInside value_tree s (map_value p t s)
  unfolding map_value
  map_value_p t s =
      bind_p (properties_p s) λ ps s h1.
      bind_p (here_p s) λ e s h2. pays (rw (of_map_value nodes) (omega arith)) (rw (of_map_value comments) (omega arith))

  container_value_p : (t : Lexeme) (s : St) → PaysInside value_tree s (container_value p t s)
  unfolding container_value
  container_value_p t s = test_p _ _ _ s (list_value_p t s) (map_value_p t s)

value_by_p : (p : Lexeme → P FieldInitialValue) → ((t : Lexeme) (s : St) → PaysInside value_tree s (p t s)) → (s : St) → PaysTree value_tree s (value_by p s)
unfolding value_by
value_by_p p hp s =
    bind_p (next_p s) λ t s h. test_p _ _ _ s (pays (rw (of_value nodes) (omega arith)) (rw (of_value comments) (omega arith)))
    (test_p _ _ _ s (inside_p h (hp t s)) (refuse_p 6 t s))

pub value_p : (d : ℕ) (s : St) → PaysTree value_tree s (field_value d s)
unfolding field_value
value_p zero s = value_by_p (refuse 23) (λ t s. refuse_p 23 t s) s
value_p (suc d) s = value_by_p (container_value (field_value d)) (container_value_p (field_value d) (λ s. value_p d s)) s

pub parse_value_p : (s : St) → PaysTree value_tree s (parse_value s)
unfolding parse_value
parse_value_p = value_p _

-- ---- annotations

one_separator_p : (s : St) → PaysNothing s (one_separator s)
unfolding one_separator
one_separator_p s = when_p _ _ _ s (bind_p (next_p s) λ t s h. pays (omega arith) (omega arith)) (pays (omega arith) (omega arith))

pub annotation_p : (s : St) → PaysTree annotation_tree s (parse_annotation s)
unfolding parse_annotation
annotation_p s =
    bind_p (want_p _ 2 s) λ t s h1. bind_p (want_p _ 2 s) λ x s h2. bind_p (want_p _ 2 s) λ v s h3. bind_p (one_separator_p s) λ x s h4.
    pays (rw (of_annotation nodes) (omega arith)) (rw (of_annotation comments) (omega arith))

annotations_end_p : (s : St) → PaysNothing s (annotations_end s)
unfolding annotations_end
annotations_end_p s = bind_p (discard_p s) λ u s h. after_p h (closed_p T.RightParen s)

pub annotations_p : (s : St) → PaysForest (λ a. annotations_tree a bare) s (parse_annotations s)
unfolding parse_annotations
annotations_p s =
    when_p _ _ _ s
    (bind_p (here_p s) λ b s h1. bind_p (next_p s) λ t s h2.
    bind_p (list_p annotation_tree annotations_end parse_annotation annotations_end_p annotation_p s) λ xs s h3. bind_p (here_p s) λ e s h4.
    pays (rw (of_annotations nodes) (omega arith)) (rw (of_annotations comments) (omega arith)))
    (pays (rw (of_absent nodes) (omega arith)) (rw (of_absent comments) (omega arith)))

-- ---- fields

pub field_id_p : (s : St) → PaysForest (λ i. perhaps id_tree i bare) s (parse_field_id s)
unfolding parse_field_id
field_id_p s =
    when_p _ _ _ s
    (bind_p (next_p s) λ t s h1.
    test_p _ _ _ s
    (bind_p (want_p _ 2 s) λ x s h2. pays (rw (of_some nodes, of_id nodes) (omega arith)) (rw (of_some comments, of_id comments) (omega arith)))
    (refuse_p 9 t s))
    (pays (rw (of_none nodes) (omega arith)) (rw (of_none comments) (omega arith)))

required_p : (s : St) → PaysNothing s (parse_required s)
unfolding parse_required
required_p s =
    when_p _ _ _ s (bind_p (next_p s) λ t s h. pays (omega arith) (omega arith))
    (when_p _ _ _ s (bind_p (next_p s) λ t s h. pays (omega arith) (omega arith)) (pays (omega arith) (omega arith)))

pub default_p : (s : St) → PaysForest (λ v. perhaps value_tree v bare) s (parse_default s)
unfolding parse_default
default_p s =
    when_p _ _ _ s
    (bind_p (next_p s) λ t s h1. bind_p (parse_value_p s) λ v s h2. pays (rw (of_some nodes) (omega arith)) (rw (of_some comments) (omega arith)))
    (pays (rw (of_none nodes) (omega arith)) (rw (of_none comments) (omega arith)))

pub field_p : (f : ℕ) (s : St) → PaysTree (field_tree f) s (parse_field s)
unfolding parse_field
field_p f s =
    bind_p (taken_p s) λ c s h1. bind_p (start_p s) λ b s h2. bind_p (field_id_p s) λ i s h3. bind_p (required_p s) λ r s h4.
    bind_p (parse_type_p s) λ t s h5. bind_p (want_p field_names 8 s) λ m s h6. bind_p (default_p s) λ v s h7. bind_p (annotations_p s) λ a s h8.
    bind_p (here_p s) λ e s h9. pays (rw (of_field nodes) (omega arith)) (rw (of_field comments) (omega arith))

members_end_p : (k : Token) (s : St) → PaysNothing s (members_end k s)
unfolding members_end
members_end_p k s = bind_p (separator_p s) λ u s h1. bind_p (comments_p s) λ u s h2. after_p h1 (after_p h2 (closed_p k s))

-- and two records more, for the opening bracket
pub members_p : {A : Type 0} (f : A → Tree) (l r : Token) (p : P A) → ((s : St) → PaysTree f s (p s)) →
    (s : St) → Pays (λ xs. 2 + sizes (each f xs bare)) (λ xs. note_counts (each f xs bare)) s (parse_members l r p s)
unfolding parse_members
members_p f l r p hp s =
    bind_p (want_p _ 2 s) λ x s h1. weak_p (λ v s h2. record { nodes = omega arith; comments = omega arith }) (list_p f (members_end r) p (members_end_p r) hp s)

pub parameters_p : (f : ℕ) (s : St) → Pays (λ xs. 2 + sizes (each (field_tree f) xs bare)) (λ xs. note_counts (each (field_tree f) xs bare)) s (parse_parameters s)
unfolding parse_parameters
parameters_p f = members_p (field_tree f) T.LeftParen T.RightParen parse_field (field_p f)

-- ---- functions

pub throws_p : (s : St) → PaysForest (λ th. throws_trees th bare) s (parse_throws s)
unfolding parse_throws
throws_p s =
    when_p _ _ _ s
    (bind_p (next_p s) λ t s h1. bind_p (parameters_p 16 s) λ fs s h2. pays (rw (of_thrown nodes) (omega arith)) (rw (of_thrown comments) (omega arith)))
    (pays (rw (of_quiet nodes) (omega arith)) (rw (of_quiet comments) (omega arith)))

pub return_type_p : (s : St) → PaysTree type_tree s (parse_return_type s)
unfolding parse_return_type
return_type_p s =
    when_p _ _ _ s (bind_p (next_p s) λ t s h. pays (rw (of_common nodes) (omega arith)) (rw (of_common comments) (omega arith))) (needs_p 7 parse_type s (parse_type_p s))

oneway_p : (s : St) → PaysNothing s (parse_oneway s)
unfolding parse_oneway
oneway_p s = when_p _ _ _ s (bind_p (next_p s) λ t s h. pays (omega arith) (omega arith)) (pays (omega arith) (omega arith))

pub function_p : (s : St) → PaysTree function_tree s (parse_function s)
unfolding parse_function
function_p s =
    bind_p (taken_p s) λ c s h1. bind_p (oneway_p s) λ o s h2. bind_p (return_type_p s) λ t s h3. bind_p (want_p _ 2 s) λ m s h4.
    bind_p (parameters_p 0 s) λ ps s h5. bind_p (throws_p s) λ th s h6. bind_p (trivia_p s) λ x s h7. bind_p (annotations_p s) λ a s h8.
    bind_p (here_p s) λ e s h9. pays (rw (of_function nodes) (omega arith)) (rw (of_function comments) (omega arith))

-- ---- enum members

pub initializer_p : (s : St) → PaysForest (λ v. perhaps literal_tree v bare) s (parse_initializer s)
unfolding parse_initializer
initializer_p s =
    when_p _ _ _ s
    (bind_p (next_p s) λ x s h1. bind_p (want_p _ 6 s) λ t s h2.
    pays (rw (of_some nodes, of_literal nodes) (omega arith)) (rw (of_some comments, of_literal comments) (omega arith)))
    (pays (rw (of_none nodes) (omega arith)) (rw (of_none comments) (omega arith)))

pub member_p : (s : St) → PaysTree member_tree s (parse_enum_member s)
unfolding parse_enum_member
member_p s =
    bind_p (taken_p s) λ c s h1. bind_p (want_p _ 19 s) λ m s h2. bind_p (initializer_p s) λ v s h3. bind_p (annotations_p s) λ a s h4.
    bind_p (here_p s) λ e s h5. pays (rw (of_member nodes) (omega arith)) (rw (of_member comments) (omega arith))

-- ---- definitions

pub include_p : (s : St) → PaysTree definition_tree s (parse_include Include s)
unfolding parse_include
include_p s =
    bind_p (taken_p s) λ c s h1. bind_p (next_p s) λ k s h2. bind_p (want_p _ 12 s) λ m s h3.
    pays (rw (of_include nodes) (omega arith)) (rw (of_include comments) (omega arith))

pub cpp_include_p : (s : St) → PaysTree definition_tree s (parse_include CppInclude s)
unfolding parse_include
cpp_include_p s =
    bind_p (taken_p s) λ c s h1. bind_p (next_p s) λ k s h2. bind_p (want_p _ 12 s) λ m s h3.
    pays (rw (of_cpp_include nodes) (omega arith)) (rw (of_cpp_include comments) (omega arith))

pub namespace_p : (s : St) → PaysTree definition_tree s (parse_namespace s)
unfolding parse_namespace
namespace_p s =
    bind_p (taken_p s) λ c s h1. bind_p (next_p s) λ k s h2. bind_p (want_p _ 11 s) λ x s h3. bind_p (want_p _ 10 s) λ m s h4.
    pays (rw (of_namespace nodes) (omega arith)) (rw (of_namespace comments) (omega arith))

pub const_p : (s : St) → PaysTree definition_tree s (parse_const s)
unfolding parse_const
const_p s =
    bind_p (taken_p s) λ c s h1. bind_p (next_p s) λ k s h2. bind_p (parse_type_p s) λ t s h3. bind_p (want_p _ 13 s) λ m s h4.
    bind_p (want_p _ 2 s) λ x s h5. bind_p (parse_value_p s) λ v s h6. bind_p (here_p s) λ e s h7. bind_p (trivia_p s) λ x s h8.
    pays (rw (of_const nodes) (omega arith)) (rw (of_const comments) (omega arith))

pub typedef_p : (s : St) → PaysTree definition_tree s (parse_typedef s)
unfolding parse_typedef
typedef_p s =
    bind_p (taken_p s) λ c s h1. bind_p (next_p s) λ k s h2. bind_p (parse_type_p s) λ t s h3. bind_p (want_p _ 14 s) λ m s h4.
    pays (rw (of_typedef nodes) (omega arith)) (rw (of_typedef comments) (omega arith))

pub enum_p : (s : St) → PaysTree definition_tree s (parse_enum s)
unfolding parse_enum
enum_p s =
    bind_p (taken_p s) λ c s h1. bind_p (next_p s) λ k s h2. bind_p (want_p _ 15 s) λ m s h3.
    bind_p (members_p member_tree T.LeftBrace T.RightBrace parse_enum_member member_p s) λ xs s h4. bind_p (annotations_p s) λ a s h5.
    bind_p (here_p s) λ e s h6. pays (rw (of_enum nodes) (omega arith)) (rw (of_enum comments) (omega arith))

pub structure_p : (k : Structure) (s : St) → PaysTree definition_tree s (parse_structure k s)
unfolding parse_structure
structure_p k s =
    bind_p (taken_p s) λ c s h1. bind_p (next_p s) λ k s h2. bind_p (want_p _ 16 s) λ m s h3.
    bind_p (members_p (field_tree 0) T.LeftBrace T.RightBrace parse_field (field_p 0) s) λ fs s h4. bind_p (annotations_p s) λ a s h5.
    bind_p (here_p s) λ e s h6. pays (rw (of_structure nodes) (omega arith)) (rw (of_structure comments) (omega arith))

pub extends_p : (s : St) → PaysForest (λ x. perhaps name_tree x bare) s (parse_extends s)
unfolding parse_extends
extends_p s =
    when_p _ _ _ s
    (bind_p (next_p s) λ x s h1. bind_p (want_p _ 18 s) λ t s h2.
    pays (rw (of_some nodes, of_name nodes) (omega arith)) (rw (of_some comments, of_name comments) (omega arith)))
    (pays (rw (of_none nodes) (omega arith)) (rw (of_none comments) (omega arith)))

pub service_p : (s : St) → PaysTree definition_tree s (parse_service s)
unfolding parse_service
service_p s =
    bind_p (taken_p s) λ c s h1. bind_p (next_p s) λ k s h2. bind_p (want_p _ 17 s) λ m s h3. bind_p (extends_p s) λ x s h4.
    bind_p (members_p function_tree T.LeftBrace T.RightBrace parse_function function_p s) λ fs s h5. bind_p (annotations_p s) λ a s h6.
    bind_p (here_p s) λ e s h7. pays (rw (of_service nodes) (omega arith)) (rw (of_service comments) (omega arith))

pub definition_p : (s : St) → PaysTree definition_tree s (parse_definition s)
unfolding parse_definition
definition_p s =
    when_p _ _ _ s (include_p s)
    (when_p _ _ _ s (cpp_include_p s)
    (when_p _ _ _ s (namespace_p s)
    (when_p _ _ _ s (const_p s)
    (when_p _ _ _ s (typedef_p s)
    (when_p _ _ _ s (enum_p s)
    (when_p _ _ _ s (structure_p Struct s)
    (when_p _ _ _ s (structure_p Union s)
    (when_p _ _ _ s (structure_p Exception s)
    (when_p _ _ _ s (service_p s) (fail_p 2 s))))))))))

-- ---- the document

over_p : (s : St) → PaysNothing s (D.over s)
unfolding D.over
over_p (pos l c []) = test_p _ _ _ (pos l c []) (fail_p 1 (pos l c [])) (pays (omega arith) (omega arith))
over_p (pos l c (t ∷ ts)) = pays (omega arith) (omega arith)

document_end_p : (s : St) → PaysNothing s (document_end s)
unfolding document_end
document_end_p s =
    bind_p (separator_p s) λ u s h1. bind_p (comments_p s) λ u s h2. bind_p (separator_p s) λ u s h3. after_p h1 (after_p h2 (after_p h3 (over_p s)))

pub document_p : (s : St) → PaysForest forest s (parse_document s)
unfolding parse_document forest
document_p = list_p definition_tree document_end parse_definition document_end_p definition_p

-- ---- a whole text

parsed_spent : (t : List ℕ) (ds : List Definition) (s : St) → parsed t ≡ ok ds s →
    Spent (sizes (forest ds)) (note_counts (forest ds)) (2 * length (tokens t opening)) (0 + length (tokens t opening)) s
unfolding parsed
parsed_spent t ds s e = spent (document_p _) e

pub nodes_bound : (t : List ℕ) (ds : List Definition) (s : St) → parsed t ≡ ok ds s → length (node_rows ds) ≤ 2 * length (tokens t opening)
nodes_bound t ds s e = omega (arith, node_rows_size ds, parsed_spent t ds s e)

pub notes_bound : (t : List ℕ) (ds : List Definition) (s : St) → parsed t ≡ ok ds s → length (notes ds) ≤ length (tokens t opening)
notes_bound t ds s e = omega (arith, notes_count ds, parsed_spent t ds s e)

-- ---- tokens and bytes

from_bound : (t : List ℕ) (n : ℕ) (s : Lexer) → length (lexemes (cuts_from t n) s) ≤ length t
unfolding cuts_from lexemes cut_at
from_bound [] n s = omega arith
from_bound (c ∷ t) (suc n) s = let h = from_bound t n s in omega arith
from_bound (c ∷ t) zero s = go (scan (c ∷ t)) (from_bound t)
  where
    kept : (b : Bool) (x : Lexeme) (ts : List Lexeme) → length (cond b ts (x ∷ ts)) ≤ suc (length ts)
    kept true x ts = omega arith
    kept false x ts = omega arith

    go : (a : Scan) → ((n : ℕ) (s : Lexer) → length (lexemes (cuts_from t n) s) ≤ length t) →
        length (lexemes (cut_at a (c ∷ t) (cuts_from t)) s) ≤ suc (length t)
    go None ih = omega arith
    go (Some (k, n)) ih =
        let e = passed (take n (c ∷ t)) k (drop n (c ∷ t)) s in
        omega (arith, kept (skipped k) (lexeme k (take n (c ∷ t)) (between s e)) (lexemes (cuts_from t (n - 1)) e), ih (n - 1) e)

pub tokens_bound : (t : List ℕ) → length (tokens t opening) ≤ length t
unfolding tokens opening cuts
tokens_bound t = from_bound t 0 opening

-- ---- a text that is read

-- no more records than this for a text of these bytes
pub record Bounded (t : List ℕ) (ds : List Definition) : Type 0 where
  pub nodes : length (node_rows ds) ≤ 2 * length t
  pub comments : length (notes ds) ≤ length t
  pub bytes : length t ≤ 65536

pub read_bounds : (t : List ℕ) (ds : List Definition) → outcome t ≡ accepted ds → Bounded t ds
unfolding outcome outcome_by answered
read_bounds t ds o = go (checked t) refl o
  where
    never : {e p n : ℕ} → rejected e p n ≡ accepted ds → Bounded t ds
    never a = let z : ◌≡◌ {A = ℕ} 0 1 = cc in absurd (omega arith)

    by_parsed : (r : Res (List Definition)) → parsed t ≡ r → answered r t ≡ accepted ds → length t ≤ 65536 → Bounded t ds
    by_parsed (ok es s) e a h =
        let x : es ≡ ds = cc in
        let e : parsed t ≡ ok ds s = cc in
        record { nodes = omega (arith, nodes_bound t ds s e, tokens_bound t); comments = omega (arith, notes_bound t ds s e, tokens_bound t); bytes = h }
    by_parsed (no n l) e a h = never a

    go : (c : Outcome (List ℕ)) → checked t ≡ c → outcome_by c t ≡ accepted ds → Bounded t ds
    go (accepted ns) e a = by_parsed (parsed t) refl a (fine_means t e).0
    go (rejected n p l) e a = never a

pub nodes_most : (t : List ℕ) (ds : List Definition) → outcome t ≡ accepted ds → length (node_rows ds) ≤ 131072
nodes_most t ds e = omega (arith, read_bounds t ds e)

pub notes_most : (t : List ℕ) (ds : List Definition) → outcome t ≡ accepted ds → length (notes ds) ≤ 65536
notes_most t ds e = omega (arith, read_bounds t ds e)
