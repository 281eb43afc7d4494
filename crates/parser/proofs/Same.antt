-- Places decide nothing: from the tokens whose places are moved, by any map of spans, each reader reads the tree whose places are moved.
--     .. -same          for each reader
--     document_same     for the document read with `ended` in the stead of `over`, which looks at the last token's index
--     document_moved    for the document, where the map keeps the index
--     .. -bare          at the map that forgets places (Ended has the document)
use mathlib.Core.Path.{◌≡◌, refl, ap}
use mathlib.Core.Bool.{Bool, true, false, cond}
use mathlib.Core.List.{List, [], ◌∷◌, ◌++◌}
use Rattle.std.specs.Prelude.{Some, None}
use Prim.Native.Nat.{ℕ, suc, zero}
use Rattle.token.specs.declared.Token.{Token}
use Rattle.token.specs.declared.Token.TheVariants as T
use Rattle.lexer.specs.declared.location.Span.{Span}
use Rattle.lexer.specs.declared.location.LOC.{LOC}
use Rattle.lexer.specs.Tokens.{Lexeme, lexeme}
use Rattle.ast.specs.Ast.{
  FieldType,
  ListType,
  SetType,
  FieldInitialValue,
  nil,
  cons,
  Properties,
  pnil,
  Structure,
  Definition,
  Include,
  CppInclude,
}
use Rattle.ast.specs.Move.{move_loc, move_l, moves, move_type, move_value, move_elements, move_properties, move_annotation, move_annotations, move_field, move_member, move_function, move_definition, move}
use Rattle.ast.proofs.Forget.{gone, nowhere, bare_l}
use Rattle.ast.specs.Lists.{maps, opt}
use Rattle.parser.specs.Steps.{◌>>◌, kind, bytes, place, span, St, pos, InvalidReturnType, Raised, raise, Res, ok, no, P, bind, test, peek, when, fail, needs, refuse, next, want, start, here, taken, Fate, stop, over, wait, by, pass, skip, skip_separator, skip_comments, skip_comments_discard, skip_trivia, closed, loop, many}
use Rattle.parser.specs.Types.{complex_type, map_type, container_type, type_by, field_type}
use Rattle.parser.proofs.TypeStep.{type_step}
use Rattle.parser.specs.Values.{
  values_end,
  Property,
  property,
  put,
  map_property,
  list_value,
  map_value,
  container_value,
  value_by,
  field_value,
}
use Rattle.parser.specs.Definitions as D
use Rattle.parser.specs.Definitions.{
  parse_type,
  parse_value,
  one_separator,
  parse_annotation,
  annotations_end,
  parse_annotations,
  parse_field_id,
  parse_required,
  parse_default,
  parse_field,
  members_end,
  parse_members,
  parse_parameters,
  parse_throws,
  parse_return_type,
  parse_oneway,
  parse_function,
  parse_initializer,
  parse_enum_member,
  parse_include,
  parse_namespace,
  parse_const,
  parse_typedef,
  parse_enum,
  parse_structure,
  parse_extends,
  parse_service,
  parse_definition,
  document_end,
  parse_document,
}

unfoldable pub move_s : (Span → Span) → St → St
move_s h (pos l c ts) = pos (move_loc h l) (moves h c) (moves h ts)

abbrev pub move_e : (Span → Span) → Raised → Raised
move_e h (raise e None) = raise e None
move_e h (raise e (Some t)) = raise e (Some (move_l h t))

unfoldable pub move_r : {A B : Type 0} → (Span → Span) → (A → B) → Res A → Res B
move_r h f (ok a s) = ok (f a) (move_s h s)
move_r h f (no e l) = no (move_e h e) (move_loc h l)

unfoldable pub move_property : (Span → Span) → Property → Property
move_property h (property l k v) = property (move_loc h l) (move_value h k) (move_value h v)

module _ {A : Type 0} where
  test_app : (b : Bool) (p q : P A) (s : St) → test b p q s ≡ cond b (p s) (q s)
  unfolding test
  test_app true p q s = refl
  test_app false p q s = refl

  when_app : (ks : List Token) (p q : P A) (s : St) → when ks p q s ≡ cond (peek ks s) (p s) (q s)
  unfolding when
  when_app ks p q s = test_app (peek ks s) p q s

-- the document, with a test of emptiness in the stead of `over`

unfoldable pub ended : P Bool
ended (pos l c []) = ok true (pos l c [])
ended (pos l c (t ∷ ts)) = ok false (pos l c (t ∷ ts))

unfoldable pub ended_document : P Bool
ended_document = do
  skip_separator
  skip_comments
  skip_separator
  ended

unfoldable pub same_document : P (List Definition)
same_document = many [] ◌∷◌ ended_document parse_definition

-- `bind` that moves where it refused: both sides of each law come to it
bind_z : {A B : Type 0} → (Span → Span) → Res A → (A → P B) → Res B
bind_z h (ok a s) k = k a s
bind_z h (no e l) k = no (move_e h e) (move_loc h l)

-- ---- the laws, for any map of spans

module _ (h : Span → Span) where
  module _ {A B C : Type 0} where
    bind_move : (f : A → B) (m : Res A) (k : B → P C) → bind (move_r h f m) k ≡ bind_z h m (λ a s. k (f a) (move_s h s))
    unfolding bind move_r bind_z
    bind_move f (ok a s) k = refl
    bind_move f (no e l) k = refl

    move_bind : (f : B → C) (m : Res A) (k : A → P B) → move_r h f (bind m k) ≡ bind_z h m (λ a s. move_r h f (k a s))
    unfolding bind move_r bind_z
    move_bind f (ok a s) k = refl
    move_bind f (no e l) k = refl

  module _ {A B : Type 0} where
    move_cond : (f : A → B) (b : Bool) (x y : Res A) → move_r h f (cond b x y) ≡ cond b (move_r h f x) (move_r h f y)
    move_cond f true x y = refl
    move_cond f false x y = refl

  span_move : (a b : LOC) → span (move_loc h a) (move_loc h b) ≡ move_loc h (span a b)
  unfolding span
  span_move a b = refl

  pub kind_move : (t : Lexeme) → kind (move_l h t) ≡ kind t
  unfolding kind move_l
  kind_move (lexeme k w l) = refl

  pub bytes_move : (t : Lexeme) → bytes (move_l h t) ≡ bytes t
  unfolding bytes move_l
  bytes_move (lexeme k w l) = refl

  pub place_move : (t : Lexeme) → place (move_l h t) ≡ move_loc h (place t)
  unfolding place move_l
  place_move (lexeme k w l) = refl

  pub peek_same : (ks : List Token) (s : St) → peek ks (move_s h s) ≡ peek ks s
  unfolding peek move_s moves
  peek_same ks (pos l c []) = refl
  peek_same ks (pos l c (t ∷ ts)) = rw kind_move

  pub next_same : (s : St) → next (move_s h s) ≡ move_r h (move_l h) (next s)
  unfolding next move_s move_r moves
  next_same (pos l c []) = refl
  next_same (pos l c (t ∷ ts)) = rw place_move

  module _ {A B : Type 0} (f : A → B) where
    move_fail : (e : ℕ) (s : St) → move_r h f (fail e s) ≡ fail e (move_s h s)
    unfolding fail move_s move_r moves
    move_fail e (pos l c []) = refl
    move_fail e (pos l c (t ∷ ts)) = rw place_move

    move_refuse : (e : ℕ) (t : Lexeme) (s : St) → move_r h f (refuse e t s) ≡ refuse e (move_l h t) (move_s h s)
    unfolding refuse move_r
    move_refuse e t s = rw place_move

  needs_same : {A B : Type 0} (e : ℕ) (p : P B) (q : P A) (f : A → B) (s : St) → p (move_s h s) ≡ move_r h f (q s) → needs e p (move_s h s) ≡ move_r h f (needs e q s)
  unfolding move_s move_r moves
  needs_same e p q f (pos l c []) g = refl
  needs_same e p q f (pos l c (t ∷ ts)) g = g

  pub here_same : (s : St) → here (move_s h s) ≡ move_r h (move_loc h) (here s)
  unfolding here move_s move_r
  here_same (pos l c ts) = refl

  pub start_same : (s : St) → start (move_s h s) ≡ move_r h (move_loc h) (start s)
  unfolding start move_s move_r moves
  start_same (pos l c []) = refl
  start_same (pos l c (t ∷ ts)) = rw place_move

  pub taken_same : (s : St) → taken (move_s h s) ≡ move_r h (moves h) (taken s)
  unfolding taken move_s move_r moves
  taken_same (pos l c ts) = refl

  pub want_same : (ks : List Token) (e : ℕ) (s : St) → want ks e (move_s h s) ≡ move_r h (move_l h) (want ks e s)
  unfolding want
  want_same ks e s = simp (when_app, move_cond, peek_same, next_same, move_fail)

  -- ---- the skips

  moves_append : (c d : List Lexeme) → moves h (c ++ d) ≡ moves h c ++ moves h d
  unfolding moves
  moves_append [] d = refl
  moves_append (x ∷ c) d = ap (move_l h x ∷◌) (moves_append c d)

  move_s_by : (x : Fate) (a b c : St) → move_s h (by x a b c) ≡ by x (move_s h a) (move_s h b) (move_s h c)
  unfolding by
  move_s_by stop a b c = refl
  move_s_by over a b c = refl
  move_s_by wait a b c = refl

  pass_same : (f : Token → Fate) (l : LOC) (c ts : List Lexeme) → pass f (move_loc h l) (moves h c) (moves h ts) ≡ move_s h (pass f l c ts)
  unfolding pass moves move_s
  pass_same f l c [] = refl
  pass_same f l c (t ∷ ts) =
      simp (move_s_by, kind_move, place_move, pass_same f (place t) c ts, ← pass_same f (place t) (c ++ (t ∷ [])) ts, moves_append)

  pub skip_same : (f : Token → Fate) (s : St) → skip f (move_s h s) ≡ move_r h (λ u. u) (skip f s)
  unfolding skip move_s move_r
  skip_same f (pos l c ts) = ap (ok tt) (pass_same f l c ts)

  pub skip_separator_same : (s : St) → skip_separator (move_s h s) ≡ move_r h (λ u. u) (skip_separator s)
  unfolding skip_separator
  skip_separator_same = skip_same _

  pub skip_comments_same : (s : St) → skip_comments (move_s h s) ≡ move_r h (λ u. u) (skip_comments s)
  unfolding skip_comments
  skip_comments_same = skip_same _

  pub skip_comments_discard_same : (s : St) → skip_comments_discard (move_s h s) ≡ move_r h (λ u. u) (skip_comments_discard s)
  unfolding skip_comments_discard
  skip_comments_discard_same = skip_same _

  pub skip_trivia_same : (s : St) → skip_trivia (move_s h s) ≡ move_r h (λ u. u) (skip_trivia s)
  unfolding skip_trivia
  skip_trivia_same = skip_same _

  ruleset Move = (
    bind_move,
    move_bind,
    move_cond,
    test_app,
    when_app,
    span_move,
    kind_move,
    bytes_move,
    place_move,
    peek_same,
    next_same,
    move_fail,
    move_refuse,
    here_same,
    start_same,
    taken_same,
    want_same,
    skip_separator_same,
    skip_comments_same,
    skip_comments_discard_same,
    skip_trivia_same,
  )

  pub closed_same : (k : Token) (s : St) → closed k (move_s h s) ≡ move_r h (λ b. b) (closed k s)
  unfolding closed move_r
  closed_same k s = simp Move

  -- ---- the loop

  module _ {A B : Type 0} (e : B) (c : A → B → B) (end : P Bool) (p : P A) (f : A → A) (g : B → B)
      (hs : (s : St) → end (move_s h s) ≡ move_r h (λ b. b) (end s)) (hp : (s : St) → p (move_s h s) ≡ move_r h f (p s))
      (he : g e ≡ e) (hc : (a : A) (x : B) → g (c a x) ≡ c (f a) (g x)) where
    loop_same : (n : ℕ) (s : St) → loop e c end p n (move_s h s) ≡ move_r h g (loop e c end p n s)
    unfolding loop move_r
    loop_same zero s = simp Move
    loop_same (suc n) s = simp (Move, hs, hp, he, hc, loop_same n)

    many_same : (s : St) → many e c end p (move_s h s) ≡ move_r h g (many e c end p s)
    unfolding many
    many_same = loop_same 65537

  module _ {A : Type 0} (f : A → A) (end : P Bool) (p : P A)
      (hs : (s : St) → end (move_s h s) ≡ move_r h (λ b. b) (end s)) (hp : (s : St) → p (move_s h s) ≡ move_r h f (p s)) where
    list_same : (s : St) → many [] ◌∷◌ end p (move_s h s) ≡ move_r h (maps f) (many [] ◌∷◌ end p s)
    unfolding maps
    list_same = many_same [] ◌∷◌ end p f (maps f) hs hp refl (λ a x. refl)

  -- ---- types

  module _ (p : P FieldType) (e : (s : St) → p (move_s h s) ≡ move_r h (move_type h) (p s)) (t : Lexeme) (s : St) where
    list_type_same : complex_type ListType p (move_l h t) (move_s h s) ≡ move_r h (move_type h) (complex_type ListType p t s)
    unfolding complex_type move_r move_type
    list_type_same = simp (Move, e)

    set_type_same : complex_type SetType p (move_l h t) (move_s h s) ≡ move_r h (move_type h) (complex_type SetType p t s)
    unfolding complex_type move_r move_type
    set_type_same = simp (Move, e)

    map_type_same : map_type p (move_l h t) (move_s h s) ≡ move_r h (move_type h) (map_type p t s)
    unfolding map_type move_r move_type
    map_type_same = simp (Move, e)

    container_type_same : container_type p (move_l h t) (move_s h s) ≡ move_r h (move_type h) (container_type p t s)
    unfolding container_type
    container_type_same = simp (Move, list_type_same, set_type_same, map_type_same)

  type_by_same : (p : Lexeme → P FieldType) → ((t : Lexeme) (s : St) → p (move_l h t) (move_s h s) ≡ move_r h (move_type h) (p t s)) →
      (s : St) → type_by p (move_s h s) ≡ move_r h (move_type h) (type_by p s)
  unfolding type_by move_r move_type
  type_by_same p e s = needs_same _ (type_step p) (type_step p) (move_type h) s (simp (Move, e))

  pub type_same : (d : ℕ) (s : St) → field_type d (move_s h s) ≡ move_r h (move_type h) (field_type d s)
  unfolding field_type
  type_same zero s = type_by_same (refuse 23) (λ t s. simp move_refuse) s
  type_same (suc d) s = type_by_same (container_type (field_type d)) (container_type_same (field_type d) (type_same d)) s

  -- ---- values

  put_same : (a : Property) (x : Properties) → move_properties h (put a x) ≡ put (move_property h a) (move_properties h x)
  unfolding put move_property move_properties
  put_same (property l k v) x = refl

  values_end_same : (k : Token) (s : St) → values_end k (move_s h s) ≡ move_r h (λ b. b) (values_end k s)
  unfolding values_end
  values_end_same k s = simp (Move, closed_same)

  module _ (p : P FieldInitialValue) (e : (s : St) → p (move_s h s) ≡ move_r h (move_value h) (p s)) where
    property_same : (s : St) → map_property p (move_s h s) ≡ move_r h (move_property h) (map_property p s)
    unfolding map_property move_r move_property
    property_same s = simp (Move, e)

    elements_same : (s : St) → many nil cons (values_end T.RightBracket) p (move_s h s)
        ≡ move_r h (move_elements h) (many nil cons (values_end T.RightBracket) p s)
    unfolding move_elements
    elements_same = many_same nil cons (values_end T.RightBracket) p (move_value h) (move_elements h) (values_end_same T.RightBracket) e refl (λ a x. refl)

    properties_same : (s : St) → many pnil put (values_end T.RightBrace) (map_property p) (move_s h s)
        ≡ move_r h (move_properties h) (many pnil put (values_end T.RightBrace) (map_property p) s)
    unfolding move_properties
    properties_same =
        many_same pnil put (values_end T.RightBrace) (map_property p) (move_property h) (move_properties h) (values_end_same T.RightBrace) property_same refl put_same

    list_value_same : (t : Lexeme) (s : St) → list_value p (move_l h t) (move_s h s) ≡ move_r h (move_value h) (list_value p t s)
    unfolding list_value move_r move_value
    list_value_same t s = simp (Move, elements_same)

    map_value_same : (t : Lexeme) (s : St) → map_value p (move_l h t) (move_s h s) ≡ move_r h (move_value h) (map_value p t s)
    unfolding map_value move_r move_value
    map_value_same t s = simp (Move, properties_same)

    container_value_same : (t : Lexeme) (s : St) → container_value p (move_l h t) (move_s h s) ≡ move_r h (move_value h) (container_value p t s)
    unfolding container_value
    container_value_same t s = simp (Move, list_value_same, map_value_same)

  value_by_same : (p : Lexeme → P FieldInitialValue) → ((t : Lexeme) (s : St) → p (move_l h t) (move_s h s) ≡ move_r h (move_value h) (p t s)) →
      (s : St) → value_by p (move_s h s) ≡ move_r h (move_value h) (value_by p s)
  unfolding value_by move_r move_value
  value_by_same p e s = simp (Move, e)

  pub value_same : (d : ℕ) (s : St) → field_value d (move_s h s) ≡ move_r h (move_value h) (field_value d s)
  unfolding field_value
  value_same zero s = value_by_same (refuse 23) (λ t s. simp move_refuse) s
  value_same (suc d) s = value_by_same (container_value (field_value d)) (container_value_same (field_value d) (value_same d)) s

  pub parse_type_same : (s : St) → parse_type (move_s h s) ≡ move_r h (move_type h) (parse_type s)
  unfolding parse_type
  parse_type_same = type_same _

  pub parse_value_same : (s : St) → parse_value (move_s h s) ≡ move_r h (move_value h) (parse_value s)
  unfolding parse_value
  parse_value_same = value_same _

  -- ---- annotations

  one_separator_same : (s : St) → one_separator (move_s h s) ≡ move_r h (λ u. u) (one_separator s)
  unfolding one_separator move_r
  one_separator_same s = simp Move

  pub annotation_same : (s : St) → parse_annotation (move_s h s) ≡ move_r h (move_annotation h) (parse_annotation s)
  unfolding parse_annotation move_r move_annotation
  annotation_same s = simp (Move, one_separator_same)

  annotations_end_same : (s : St) → annotations_end (move_s h s) ≡ move_r h (λ b. b) (annotations_end s)
  unfolding annotations_end
  annotations_end_same s = simp (Move, closed_same)

  pub annotations_same : (s : St) → parse_annotations (move_s h s) ≡ move_r h (move_annotations h) (parse_annotations s)
  unfolding parse_annotations move_r move_annotations
  annotations_same s = simp (Move, list_same (move_annotation h) annotations_end parse_annotation annotations_end_same annotation_same)

  -- ---- fields

  field_id_same : (s : St) → parse_field_id (move_s h s) ≡ move_r h (opt (move_l h)) (parse_field_id s)
  unfolding parse_field_id move_r opt
  field_id_same s = simp Move

  required_same : (s : St) → parse_required (move_s h s) ≡ move_r h (λ r. r) (parse_required s)
  unfolding parse_required move_r
  required_same s = simp Move

  default_same : (s : St) → parse_default (move_s h s) ≡ move_r h (opt (move_value h)) (parse_default s)
  unfolding parse_default move_r opt
  default_same s = simp (Move, parse_value_same)

  pub field_same : (s : St) → parse_field (move_s h s) ≡ move_r h (move_field h) (parse_field s)
  unfolding parse_field move_r move_field
  field_same s = simp (Move, field_id_same, required_same, parse_type_same, default_same, annotations_same)

  members_end_same : (k : Token) (s : St) → members_end k (move_s h s) ≡ move_r h (λ b. b) (members_end k s)
  unfolding members_end
  members_end_same k s = simp (Move, closed_same)

  pub members_same : {A : Type 0} (l r : Token) (p : P A) (f : A → A) → ((s : St) → p (move_s h s) ≡ move_r h f (p s)) →
      (s : St) → parse_members l r p (move_s h s) ≡ move_r h (maps f) (parse_members l r p s)
  unfolding parse_members
  members_same l r p f e s = simp (Move, list_same f (members_end r) p (members_end_same r) e)

  pub parameters_same : (s : St) → parse_parameters (move_s h s) ≡ move_r h (maps (move_field h)) (parse_parameters s)
  unfolding parse_parameters
  parameters_same = members_same T.LeftParen T.RightParen parse_field (move_field h) field_same

  -- ---- functions

  throws_same : (s : St) → parse_throws (move_s h s) ≡ move_r h (opt (maps (move_field h))) (parse_throws s)
  unfolding parse_throws move_r opt
  throws_same s = simp (Move, parameters_same)

  returned_same : (s : St) → needs InvalidReturnType parse_type (move_s h s) ≡ move_r h (move_type h) (needs InvalidReturnType parse_type s)
  returned_same s = needs_same InvalidReturnType parse_type parse_type (move_type h) s (parse_type_same s)

  return_type_same : (s : St) → parse_return_type (move_s h s) ≡ move_r h (move_type h) (parse_return_type s)
  unfolding parse_return_type move_r move_type
  return_type_same s = simp (Move, returned_same)

  oneway_same : (s : St) → parse_oneway (move_s h s) ≡ move_r h (λ b. b) (parse_oneway s)
  unfolding parse_oneway move_r
  oneway_same s = simp Move

  pub function_same : (s : St) → parse_function (move_s h s) ≡ move_r h (move_function h) (parse_function s)
  unfolding parse_function move_r move_function
  function_same s = simp (Move, oneway_same, return_type_same, parameters_same, throws_same, annotations_same)

  -- ---- enum members

  initializer_same : (s : St) → parse_initializer (move_s h s) ≡ move_r h (opt (move_l h)) (parse_initializer s)
  unfolding parse_initializer move_r opt
  initializer_same s = simp Move

  pub member_same : (s : St) → parse_enum_member (move_s h s) ≡ move_r h (move_member h) (parse_enum_member s)
  unfolding parse_enum_member move_r move_member
  member_same s = simp (Move, initializer_same, annotations_same)

  -- ---- definitions

  module _ (s : St) where
    include_same : parse_include Include (move_s h s) ≡ move_r h (move_definition h) (parse_include Include s)
    unfolding parse_include move_r move_definition
    include_same = simp Move

    cpp_include_same : parse_include CppInclude (move_s h s) ≡ move_r h (move_definition h) (parse_include CppInclude s)
    unfolding parse_include move_r move_definition
    cpp_include_same = simp Move

    namespace_same : parse_namespace (move_s h s) ≡ move_r h (move_definition h) (parse_namespace s)
    unfolding parse_namespace move_r move_definition
    namespace_same = simp Move

    const_same : parse_const (move_s h s) ≡ move_r h (move_definition h) (parse_const s)
    unfolding parse_const move_r move_definition
    const_same = simp (Move, parse_type_same, parse_value_same)

    typedef_same : parse_typedef (move_s h s) ≡ move_r h (move_definition h) (parse_typedef s)
    unfolding parse_typedef move_r move_definition
    typedef_same = simp (Move, parse_type_same)

    enum_same : parse_enum (move_s h s) ≡ move_r h (move_definition h) (parse_enum s)
    unfolding parse_enum move_r move_definition
    enum_same = simp (Move, members_same T.LeftBrace T.RightBrace parse_enum_member (move_member h) member_same, annotations_same)

    structure_same : (k : Structure) → parse_structure k (move_s h s) ≡ move_r h (move_definition h) (parse_structure k s)
    unfolding parse_structure move_r move_definition
    structure_same k = simp (Move, members_same T.LeftBrace T.RightBrace parse_field (move_field h) field_same, annotations_same)

    extends_same : parse_extends (move_s h s) ≡ move_r h (opt (move_l h)) (parse_extends s)
    unfolding parse_extends move_r opt
    extends_same = simp Move

  service_same : (s : St) → parse_service (move_s h s) ≡ move_r h (move_definition h) (parse_service s)
  unfolding parse_service move_r move_definition
  service_same s = simp (Move, extends_same, members_same T.LeftBrace T.RightBrace parse_function (move_function h) function_same, annotations_same)

  pub definition_same : (s : St) → parse_definition (move_s h s) ≡ move_r h (move_definition h) (parse_definition s)
  unfolding parse_definition
  definition_same s =
      simp (Move, include_same, cpp_include_same, namespace_same, const_same, typedef_same, enum_same, structure_same, service_same)

  -- ---- the document

  ended_same : (s : St) → ended (move_s h s) ≡ move_r h (λ b. b) (ended s)
  unfolding ended move_s move_r moves
  ended_same (pos l c []) = refl
  ended_same (pos l c (t ∷ ts)) = refl

  ended_document_same : (s : St) → ended_document (move_s h s) ≡ move_r h (λ b. b) (ended_document s)
  unfolding ended_document
  ended_document_same s = simp (Move, ended_same)

  pub document_same : (s : St) → same_document (move_s h s) ≡ move_r h (move h) (same_document s)
  unfolding same_document move
  document_same = list_same (move_definition h) ended_document parse_definition ended_document_same definition_same

  -- `over` looks at an index
  module _ (keeps : (s : Span) → (h s).index ≡ s.index) where
    over_same : (s : St) → D.over (move_s h s) ≡ move_r h (λ b. b) (D.over s)
    unfolding D.over move_s move_r moves fail
    over_same (pos l c []) = simp (test_app, move_cond, keeps)
    over_same (pos l c (t ∷ ts)) = refl

    document_end_same : (s : St) → document_end (move_s h s) ≡ move_r h (λ b. b) (document_end s)
    unfolding document_end
    document_end_same s = simp (Move, over_same)

    pub document_moved : (s : St) → parse_document (move_s h s) ≡ move_r h (move h) (parse_document s)
    unfolding parse_document move
    document_moved = list_same (move_definition h) document_end parse_definition document_end_same definition_same

-- ---- places forgotten

abbrev pub bare_s : St → St
bare_s = move_s gone

abbrev pub bare_r : {A B : Type 0} → (A → B) → Res A → Res B
bare_r = move_r gone

pub kind_bare : (t : Lexeme) → kind (bare_l t) ≡ kind t
kind_bare = kind_move gone

pub bytes_bare : (t : Lexeme) → bytes (bare_l t) ≡ bytes t
bytes_bare = bytes_move gone

pub place_bare : (t : Lexeme) → place (bare_l t) ≡ nowhere
place_bare = place_move gone

pub span_nowhere : span nowhere nowhere ≡ nowhere
span_nowhere = span_move gone nowhere nowhere
