-- The constant of the loop is no part of what is read: every reader of specs/Fueled gives the same with any two amounts of fuel above the tokens left.
--     document_fuel    the readers of a document, for any two amounts above the number of tokens and any rule for a field's id that puts no token back
--     larger           parse_document with any larger constant, on at most 65536 tokens
--     parsed_larger    the same for every text of at most 65536 bytes
--     outcome_larger   the outcome of every text whatever: a longer one is refused before it is read
--
use mathlib.Core.Path.{◌≡◌, refl, ◌∙◌}
use mathlib.Core.List.{List, [], ◌∷◌}
use Rattle.std.specs.Prelude.{Option}
use Prim.Native.Nat.{ℕ, suc, zero, ◌≤◌, ◌<◌}
use native.Mathlib.Omega.{arith}
use lib.ListN.{length}
use Rattle.token.specs.declared.Token.{Token}
use Rattle.token.specs.declared.Token.TheVariants as T
use Rattle.lexer.specs.Outcome.{Outcome, accepted, refused as rejected}
use Rattle.lexer.specs.Location.{between, opening}
use Rattle.lexer.specs.Tokens.{Lexeme, tokens}
use Rattle.lexer.specs.Check.{checked}
use Rattle.lexer.proofs.Ascii.{fine_means}
use Rattle.ast.specs.Ast.{FieldInitialValue, nil, cons, pnil, Structure, Struct, Union, Exception}
use Rattle.parser.specs.Steps.{St, pos, P}
use Rattle.parser.specs.Values.{put, map_property, value_by}
use Rattle.parser.specs.Definitions as D
use Rattle.parser.specs.Definitions.{parse_annotation, annotations_end, members_end, document_end}
use Rattle.parser.specs.Read as R
use Rattle.parser.proofs.Paid.{tokens_bound}
use Rattle.fuel.specs.Takes.{tokens_left, Keeps}
use Rattle.fuel.specs.Fueled.{
  list_value,
  map_value,
  container_value,
  field_value,
  parse_value,
  parse_annotations,
  parse_default,
  parse_field,
  parse_members,
  parse_parameters,
  parse_throws,
  parse_function,
  parse_enum_member,
  parse_const,
  parse_enum,
  parse_structure,
  parse_service,
  parse_definition,
  parse_document,
  parsed,
  outcome_by,
  outcome,
}
use Rattle.fuel.proofs.Loop.{Alike, alike, alike_same, weak_a, bind_a, test_a, when_a, fail_a, Enough, above, fewer, loop_a}
use Rattle.fuel.proofs.Anchor.{document_anchor, parsed_anchor}
use Rattle.fuel.proofs.Taken.{
  taking,
  keeping,
  refuse_a,
  annotation_takes,
  next_takes,
  want_takes,
  type_takes,
  return_type_takes,
  include_takes,
  cpp_include_takes,
  namespace_takes,
  typedef_takes,
  here_keeps,
  start_keeps,
  taken_keeps,
  trivia_keeps,
  initializer_keeps,
  extends_keeps,
  field_id_keeps,
  required_keeps,
  oneway_keeps,
  values_end_keeps,
  annotations_end_keeps,
  members_end_keeps,
  document_end_keeps,
  property_a,
}

value_by_a : (p q : Lexeme → P FieldInitialValue) (s : St) → ((t : Lexeme) (u : St) → tokens_left u ≤ tokens_left s → Alike 0 (tokens_left u) (p t u) (q t u)) →
    Alike 1 (tokens_left s) (value_by p s) (value_by q s)
unfolding value_by
value_by_a p q s hp =
    bind_a (taking next_takes s) λ t u h. test_a _ _ _ _ _ u (alike {s = u} (omega arith))
    (test_a _ _ _ _ _ u (weak_a (λ k g. omega arith) (hp t u (omega arith))) (refuse_a 6 t u))

-- two amounts of fuel that are the same, or both above the tokens left in s; any rule for a field's id that puts no token back
module _ (rule : P (Option Lexeme)) (rule-keeps : Keeps rule) (n m : ℕ) where
  -- two readers read alike from s, and take x tokens
  abbrev Same : {A : Type 0} → ℕ → P A → P A → Type 0
  Same x p q = (s : St) → Enough n m (tokens_left s) → Alike x (tokens_left s) (p s) (q s)

  -- ---- values

  module _ (p q : P FieldInitialValue) (hp : Same 1 p q) (t : Lexeme) where
    list_a : Same 0 (list_value n p t) (list_value m q t)
    unfolding list_value
    list_a s f =
        bind_a (loop_a nil cons _ (values_end_keeps _) p q (tokens_left s) (λ u h. hp u (fewer _ h f)) n m s (omega arith) f) λ vs u h1.
        bind_a (keeping here_keeps u) λ e v h2. alike {s = v} (omega arith)

    map_a : Same 0 (map_value n p t) (map_value m q t)
    unfolding map_value
    map_a s f =
        bind_a (loop_a pnil put _ (values_end_keeps _) (map_property p) (map_property q) (tokens_left s)
        (property_a p q (tokens_left s) (λ u h. hp u (fewer _ h f))) n m s (omega arith) f) λ vs u h1.
        bind_a (keeping here_keeps u) λ e v h2. alike {s = v} (omega arith)

    container_a : Same 0 (container_value n p t) (container_value m q t)
    unfolding container_value
    container_a s f = test_a _ _ _ _ _ s (list_a s f) (map_a s f)

  field_value_a : (d : ℕ) → Same 1 (field_value n d) (field_value m d)
  unfolding field_value
  field_value_a zero s f = value_by_a _ _ s (λ t u h. refuse_a 23 t u)
  field_value_a (suc d) s f = value_by_a _ _ s (λ t u h. container_a (field_value n d) (field_value m d) (field_value_a d) t u (fewer _ h f))

  value_a : Same 1 (parse_value n) (parse_value m)
  unfolding parse_value
  value_a = field_value_a _

  -- ---- annotations

  annotations_a : Same 0 (parse_annotations n) (parse_annotations m)
  unfolding parse_annotations
  annotations_a s f =
      when_a _ _ _ _ _ s
      (bind_a (keeping here_keeps s) λ b u h1. bind_a (taking next_takes u) λ t v h2.
      bind_a (loop_a [] ◌∷◌ annotations_end annotations_end_keeps parse_annotation parse_annotation (tokens_left v) (λ w h. taking annotation_takes w) n m v (omega arith)
      (fewer _ (omega arith) f)) λ xs w h3.
      bind_a (keeping here_keeps w) λ e z h4. alike {s = z} (omega arith))
      (alike {s = s} (omega arith))

  -- ---- fields

  default_a : Same 0 (parse_default n) (parse_default m)
  unfolding parse_default
  default_a s f =
      when_a _ _ _ _ _ s
      (bind_a (taking next_takes s) λ t u h1. bind_a (value_a u (fewer _ (omega arith) f)) λ v w h2. alike {s = w} (omega arith))
      (alike {s = s} (omega arith))

  field_a : Same 1 (parse_field rule n) (parse_field rule m)
  unfolding parse_field
  field_a s f =
      bind_a (keeping taken_keeps s) λ c s1 h1. bind_a (keeping start_keeps s1) λ b s2 h2. bind_a (keeping rule-keeps s2) λ i s3 h3.
      bind_a (keeping required_keeps s3) λ r s4 h4. bind_a (taking type_takes s4) λ t s5 h5. bind_a (taking (want_takes _ 8) s5) λ k s6 h6.
      bind_a (default_a s6 (fewer _ (omega arith) f)) λ v s7 h7. bind_a (annotations_a s7 (fewer _ (omega arith) f)) λ a s8 h8.
      bind_a (keeping here_keeps s8) λ e s9 h9. alike {s = s9} (omega arith)

  members_a : {A : Type 0} (l r : Token) (p q : P A) → Same 1 p q → Same 1 (parse_members n l r p) (parse_members m l r q)
  unfolding parse_members
  members_a l r p q hp s f =
      bind_a (taking (want_takes _ 2) s) λ x u h1.
      weak_a (λ k g. omega arith)
      (loop_a [] ◌∷◌ (members_end r) (members_end_keeps r) p q (tokens_left u) (λ v h. hp v (fewer _ (omega arith) f)) n m u (omega arith) (fewer _ (omega arith) f))

  parameters_a : Same 1 (parse_parameters rule n) (parse_parameters rule m)
  unfolding parse_parameters
  parameters_a = members_a T.LeftParen T.RightParen (parse_field rule n) (parse_field rule m) field_a

  -- ---- functions

  throws_a : Same 0 (parse_throws rule n) (parse_throws rule m)
  unfolding parse_throws
  throws_a s f =
      when_a _ _ _ _ _ s
      (bind_a (taking next_takes s) λ t u h1. bind_a (parameters_a u (fewer _ (omega arith) f)) λ v w h2. alike {s = w} (omega arith))
      (alike {s = s} (omega arith))

  function_a : Same 1 (parse_function rule n) (parse_function rule m)
  unfolding parse_function
  function_a s f =
      bind_a (keeping taken_keeps s) λ c s1 h1. bind_a (keeping oneway_keeps s1) λ o s2 h2. bind_a (taking return_type_takes s2) λ t s3 h3.
      bind_a (taking (want_takes _ 2) s3) λ k s4 h4. bind_a (parameters_a s4 (fewer _ (omega arith) f)) λ ps s5 h5.
      bind_a (throws_a s5 (fewer _ (omega arith) f)) λ th s6 h6. bind_a (keeping trivia_keeps s6) λ x s7 h7.
      bind_a (annotations_a s7 (fewer _ (omega arith) f)) λ a s8 h8. bind_a (keeping here_keeps s8) λ e s9 h9. alike {s = s9} (omega arith)

  -- ---- enum members

  member_a : Same 1 (parse_enum_member n) (parse_enum_member m)
  unfolding parse_enum_member
  member_a s f =
      bind_a (keeping taken_keeps s) λ c s1 h1. bind_a (taking (want_takes _ 19) s1) λ k s2 h2. bind_a (keeping initializer_keeps s2) λ v s3 h3.
      bind_a (annotations_a s3 (fewer _ (omega arith) f)) λ a s4 h4. bind_a (keeping here_keeps s4) λ e s5 h5. alike {s = s5} (omega arith)

  -- ---- definitions

  const_a : Same 1 (parse_const n) (parse_const m)
  unfolding parse_const
  const_a s f =
      bind_a (keeping taken_keeps s) λ c s1 h1. bind_a (taking next_takes s1) λ k s2 h2. bind_a (taking type_takes s2) λ t s3 h3.
      bind_a (taking (want_takes _ 13) s3) λ k s4 h4. bind_a (taking (want_takes _ 2) s4) λ x s5 h5. bind_a (value_a s5 (fewer _ (omega arith) f)) λ v s6 h6.
      bind_a (keeping here_keeps s6) λ e s7 h7. bind_a (keeping trivia_keeps s7) λ x s8 h8. alike {s = s8} (omega arith)

  enum_a : Same 1 (parse_enum n) (parse_enum m)
  unfolding parse_enum
  enum_a s f =
      bind_a (keeping taken_keeps s) λ c s1 h1. bind_a (taking next_takes s1) λ k s2 h2. bind_a (taking (want_takes _ 15) s2) λ t s3 h3.
      bind_a (members_a T.LeftBrace T.RightBrace (parse_enum_member n) (parse_enum_member m) member_a s3 (fewer _ (omega arith) f)) λ xs s4 h4.
      bind_a (annotations_a s4 (fewer _ (omega arith) f)) λ a s5 h5. bind_a (keeping here_keeps s5) λ e s6 h6. alike {s = s6} (omega arith)

  structure_a : (g : Structure) → Same 1 (parse_structure rule n g) (parse_structure rule m g)
  unfolding parse_structure
  structure_a g s f =
      bind_a (keeping taken_keeps s) λ c s1 h1. bind_a (taking next_takes s1) λ k s2 h2. bind_a (taking (want_takes _ 16) s2) λ t s3 h3.
      bind_a (members_a T.LeftBrace T.RightBrace (parse_field rule n) (parse_field rule m) field_a s3 (fewer _ (omega arith) f)) λ xs s4 h4.
      bind_a (annotations_a s4 (fewer _ (omega arith) f)) λ a s5 h5. bind_a (keeping here_keeps s5) λ e s6 h6. alike {s = s6} (omega arith)

  service_a : Same 1 (parse_service rule n) (parse_service rule m)
  unfolding parse_service
  service_a s f =
      bind_a (keeping taken_keeps s) λ c s1 h1. bind_a (taking next_takes s1) λ k s2 h2. bind_a (taking (want_takes _ 17) s2) λ t s3 h3.
      bind_a (keeping extends_keeps s3) λ x s4 h4.
      bind_a (members_a T.LeftBrace T.RightBrace (parse_function rule n) (parse_function rule m) function_a s4 (fewer _ (omega arith) f)) λ xs s5 h5.
      bind_a (annotations_a s5 (fewer _ (omega arith) f)) λ a s6 h6. bind_a (keeping here_keeps s6) λ e s7 h7. alike {s = s7} (omega arith)

  definition_a : Same 1 (parse_definition rule n) (parse_definition rule m)
  unfolding parse_definition
  definition_a s f =
      when_a _ _ _ _ _ s (taking include_takes s)
      (when_a _ _ _ _ _ s (taking cpp_include_takes s)
      (when_a _ _ _ _ _ s (taking namespace_takes s)
      (when_a _ _ _ _ _ s (const_a s f)
      (when_a _ _ _ _ _ s (taking typedef_takes s)
      (when_a _ _ _ _ _ s (enum_a s f)
      (when_a _ _ _ _ _ s (structure_a Struct s f)
      (when_a _ _ _ _ _ s (structure_a Union s f)
      (when_a _ _ _ _ _ s (structure_a Exception s f)
      (when_a _ _ _ _ _ s (service_a s f) (fail_a 2 s))))))))))

  document_a : Same 0 (parse_document rule n) (parse_document rule m)
  unfolding parse_document
  document_a s f =
      loop_a [] ◌∷◌ document_end document_end_keeps (parse_definition rule n) (parse_definition rule m) (tokens_left s) (λ u h. definition_a u (fewer _ h f)) n m s (omega arith) f

  -- ---- a document

  pub document_fuel : (s : St) → tokens_left s < n → tokens_left s < m → parse_document rule n s ≡ parse_document rule m s
  document_fuel s f g = alike_same (document_a s (above f g))

-- with any larger constant, on at most 65536 tokens
pub larger : (n : ℕ) (s : St) → tokens_left s ≤ 65536 → 65536 < n → parse_document D.parse_field_id n s ≡ D.parse_document s
larger n s h g = rw (← document_anchor) (document_fuel D.parse_field_id field_id_keeps n 65537 s (omega arith) (omega arith))

-- with any constant above the number of bytes, on a text of at most 65536
pub parsed_fuel : (n : ℕ) (t : List ℕ) → length t ≤ 65536 → length t < n → parsed n t ≡ R.parsed t
unfolding parsed
parsed_fuel n t h g =
    document_fuel D.parse_field_id field_id_keeps n 65537 (pos (between opening opening) [] (tokens t opening)) (omega (arith, tokens_bound t)) (omega (arith, tokens_bound t)) ∙ parsed_anchor t

pub parsed_larger : (n : ℕ) (t : List ℕ) → length t ≤ 65536 → 65536 < n → parsed n t ≡ R.parsed t
parsed_larger n t h g = parsed_fuel n t h (omega arith)

-- with any larger constant, whatever the text
pub outcome_larger : (n : ℕ) (t : List ℕ) → 65536 < n → outcome n t ≡ R.outcome t
unfolding outcome R.outcome outcome_by R.outcome_by
outcome_larger n t g = go (checked t) refl
  where
    go : (c : Outcome (List ℕ)) → checked t ≡ c → outcome_by n c t ≡ R.outcome_by c t
    go (accepted ns) e = rw (parsed_larger n t (fine_means t e).0 g)
    go (rejected e p l) h = refl
