-- One walk of the grammar over the tokens of a text: what each reader gives, where it leaves the state, what it raises.
--     document_reads    of a text that is read:
--         each          what holds of each token holds of each lexeme of every definition; the kinds of names and container keywords; the nesting
--         chain         the definitions stand one behind the other, each from its keyword on
--         covered       each token lies in a definition, or is a separator or a comment
--     document_fault    a refusal is raised with no token left, or with a token in hand and then not with 3, 5 or 7
-- Holds t: what is known of each token; n: the text's length; z: the place of its last token.
use mathlib.Core.Path.{◌≡◌, refl, sym}
use mathlib.Core.Bool.{Bool, true, false, cond, ◌||◌, false≢true}
use mathlib.Core.List.{List, [], ◌∷◌, ◌++◌, Memᴰ}
use Rattle.std.specs.Prelude.{Some, None}
use Prim.Native.Nat.{ℕ, suc, zero, ◌+◌, ◌<◌, ◌≤◌}
use native.Mathlib.Omega.{arith}
use lib.ListN.{length}
use Rattle.token.specs.Code.{is, among}
use Rattle.token.specs.declared.Token.{Token}
use Rattle.token.specs.declared.Token.TheVariants as T
use Rattle.lexer.specs.declared.location.LOC.{LOC}
use Rattle.lexer.specs.Location.{between, span_of, opening}
use Rattle.lexer.specs.Tokens.{Lexeme, tokens}
use Rattle.ast.specs.Lists.{All, anil, acons}
use Rattle.ast.proofs.Counts.{append_all}
use Rattle.ast.specs.Ast.{
  FieldType,
  ListType,
  SetType,
  FieldInitialValue,
  nil,
  cons,
  Properties,
  pnil,
  Structure,
  Struct,
  Union,
  Exception,
  Definition,
  Include,
  CppInclude,
  Namespace,
  Const,
  Typedef,
  Enum,
  structure,
  Service,
}
use Rattle.parser.specs.Steps.{
  kind,
  place,
  span,
  St,
  pos,
  Raised,
  raise,
  Res,
  ok,
  no,
  P,
  bind,
  test,
  peek,
  when,
  fail,
  needs,
  refuse,
  next,
  want,
  start,
  here,
  taken,
  Fate,
  stop,
  over,
  wait,
  fate,
  by,
  pass,
  skip,
  skip_separator,
  skip_comments,
  skip_comments_discard,
  skip_trivia,
  closed,
  loop,
  many,
}
use Rattle.parser.specs.Order.{token_start, token_end, InOrder, no_token_law, one_token, final, gap_kinds}
use Rattle.parser.specs.Types.{container_types, complex_type, map_type, container_type, type_by, field_type}
use Rattle.parser.proofs.TypeStep.{type_step}
use Rattle.parser.specs.Values.{
  values_end,
  Property,
  property,
  put,
  map_property,
  list_value,
  map_value,
  container_value,
  value_by,
  field_value,
}
use Rattle.parser.specs.Definitions as D
use Rattle.parser.specs.Definitions.{
  parse_type,
  parse_value,
  one_separator,
  parse_annotation,
  annotations_end,
  parse_annotations,
  parse_field_id,
  parse_required,
  parse_default,
  parse_field,
  members_end,
  parse_members,
  parse_parameters,
  parse_throws,
  parse_return_type,
  parse_oneway,
  parse_function,
  parse_initializer,
  parse_enum_member,
  parse_include,
  parse_namespace,
  parse_const,
  parse_typedef,
  parse_enum,
  parse_structure,
  parse_extends,
  parse_service,
  parse_definition,
  document_end,
  parse_document,
}
use Rattle.parser.specs.Read.{parsed}
use Rattle.parser.specs.Refusals.{last_place, end_kind}
use Rattle.parser.proofs.Sure.{Any, single, third}
use Rattle.parser.proofs.Order.{tokens_in_order, inside}
use Rattle.parser.proofs.Each.{
  EachOption,
  enone,
  esome,
  Kinded,
  EachType,
  ecommon,
  elist,
  eset,
  emap,
  EachValue,
  eleaf,
  eseq,
  edict,
  EachElements,
  enil,
  econs,
  EachProperties,
  epnil,
  epcons,
  EachAnnotation,
  eannotation,
  EachAnnotations,
  eabsent,
  eannotations,
  EachField,
  efield,
  EachMember,
  emember,
  EachFunction,
  efunction,
  EachDefinition,
  einclude,
  ecpp,
  enamespace,
  econst,
  etypedef,
  eenum,
  estructure,
  eservice,
}

-- ---- tokens that are passed

-- the tokens left
abbrev left : St → List Lexeme
left (pos l c ts) = ts

-- the first list is some tokens that P says, then the second
data Passed (P : Lexeme → Type 0) : List Lexeme → List Lexeme → Type 0 where
  none_passed : {ts : List Lexeme} → Passed P ts ts
  one_passed : {t : Lexeme} {us ts : List Lexeme} → P t → Passed P us ts → Passed P (t ∷ us) ts

module _ {P Q : Lexeme → Type 0} (weak : (t : Lexeme) → P t → Q t) where
  weak_passed : {us ts : List Lexeme} → Passed P us ts → Passed Q us ts
  weak_passed none_passed = none_passed
  weak_passed (one_passed p h) = one_passed (weak _ p) (weak_passed h)

  -- one token more
  passed_on : {t : Lexeme} {us ts : List Lexeme} → Q t → Passed P us (t ∷ ts) → Passed Q us ts
  passed_on q none_passed = one_passed q none_passed
  passed_on q (one_passed p h) = one_passed (weak _ p) (passed_on q h)

-- a token of a gap
abbrev Gap : Lexeme → Type 0
Gap t = among (kind t) gap_kinds ≡ true

stops_by : (a b c d : Bool) (x y : Fate) → (a || (b || (c || (d || false)))) ≡ false → cond (a || (b || false)) x (cond (c || (d || false)) y stop) ≡ stop
stops_by true b c d x y e = absurd (false≢true (sym e))
stops_by false true c d x y e = absurd (false≢true (sym e))
stops_by false false true d x y e = absurd (false≢true (sym e))
stops_by false false false true x y e = absurd (false≢true (sym e))
stops_by false false false false x y e = refl

-- a skip stops before any other
gap_stops : (x y : Fate) (k : Token) → among k gap_kinds ≡ false → fate x y k ≡ stop
unfolding among fate
gap_stops x y k e = stops_by (is k T.Comma) (is k T.Semicolon) (is k T.LineComment) (is k T.BlockComment) x y e

module _ {P : Lexeme → Type 0} (x y : Fate) (gap : (t : Lexeme) → Gap t → P t) where
  by_passed : (f : Fate) (u v w : St) {us : List Lexeme} → Passed P us (left u) → Passed P us (left v) → Passed P us (left w) → Passed P us (left (by f u v w))
  unfolding by
  by_passed stop u v w a b c = a
  by_passed over u v w a b c = b
  by_passed wait u v w a b c = c

  step_passed : (l : LOC) (c : List Lexeme) (t : Lexeme) (ts : List Lexeme) {us : List Lexeme} → Passed P us (t ∷ ts) →
      ((d : List Lexeme) → Passed P us ts → Passed P us (left (pass (fate x y) (place t) d ts))) → (b : Bool) → among (kind t) gap_kinds ≡ b →
      Passed P us (left (by (fate x y (kind t)) (pos l c (t ∷ ts)) (pass (fate x y) (place t) c ts) (pass (fate x y) (place t) (c ++ t ∷ []) ts)))
  unfolding by
  step_passed l c t ts h later false e = rw (gap_stops x y (kind t) e) h
  step_passed l c t ts h later true e =
      let k = passed_on (λ t p. p) (gap t e) h in
      by_passed (fate x y (kind t)) _ _ _ h (later c k) (later (c ++ t ∷ []) k)

  pass_passed : (l : LOC) (c ts : List Lexeme) {us : List Lexeme} → Passed P us ts → Passed P us (left (pass (fate x y) l c ts))
  unfolding pass
  pass_passed l c [] h = h
  pass_passed l c (t ∷ ts) h = step_passed l c t ts h (λ d k. pass_passed (place t) d ts k) (among (kind t) gap_kinds) refl

-- ---- definitions

-- the word that a definition begins with
unfoldable pub structure_keyword : Structure → Token
structure_keyword Struct = T.Struct
structure_keyword Union = T.Union
structure_keyword Exception = T.Exception

unfoldable pub keyword_of : Definition → Token
keyword_of (Include l c n) = T.Include
keyword_of (CppInclude l c n) = T.CppInclude
keyword_of (Namespace l c s n) = T.Namespace
keyword_of (Const l c t n v) = T.Const
keyword_of (Typedef l c t n) = T.Typedef
keyword_of (Enum l c n xs a) = T.Enum
keyword_of (structure s l c n fs a) = structure_keyword s
keyword_of (Service l c n x fs a) = T.Service

-- its range
unfoldable pub place_of : Definition → LOC
place_of (Include l c n) = l
place_of (CppInclude l c n) = l
place_of (Namespace l c s n) = l
place_of (Const l c t n v) = l
place_of (Typedef l c t n) = l
place_of (Enum l c n xs a) = l
place_of (structure s l c n fs a) = l
place_of (Service l c n x fs a) = l

-- a token inside a definition's range, or in a gap
pub data Lies (ds : List Definition) (t : Lexeme) : Type 0 where
  in_definition : {d : Definition} → Memᴰ d ds → (place_of d).start.index ≤ token_start t → token_end t ≤ (place_of d).end.index → Lies ds t
  in_gap : Gap t → Lies ds t

module _ (n : ℕ) (short : n ≤ 65536) (Holds : Lexeme → Type 0) (z : LOC) where
  -- ---- answers

  -- with no token left, at the last one; or with one of the tokens in hand, and then not with 3, 5 or 7
  pub data Fault : Raised → LOC → Type 0 where
    none_left : {e : ℕ} {l : LOC} → l ≡ z → Fault (raise e None) l
    in_hand : {e : ℕ} {t : Lexeme} → Holds t → end_kind e ≡ false → Fault (raise e (Some t)) (place t)

  -- a reading refuses, or gives what U says and leaves a state that G says
  data Gives {A : Type 0} (U : A → Type 0) (G : A → St → Type 0) : Res A → Type 0 where
    gives : {x : A} {s : St} → U x → G x s → Gives U G (ok x s)
    refused : {e : Raised} {l : LOC} → Fault e l → Gives U G (no e l)

  gives_ok : {A : Type 0} {U : A → Type 0} {G : A → St → Type 0} {x : A} {s : St} → Gives U G (ok x s) → U x
  gives_ok (gives h g) = h

  gives_no : {A : Type 0} {U : A → Type 0} {G : A → St → Type 0} {e : Raised} {l : LOC} → Gives U G (no e l) → Fault e l
  gives_no (refused x) = x

  bind_g : {A B : Type 0} {U : A → Type 0} {G : A → St → Type 0} {Q : B → Type 0} {H : B → St → Type 0} {m : Res A} {k : A → P B} →
      Gives U G m → ((x : A) (s : St) → U x → G x s → Gives Q H (k x s)) → Gives Q H (bind m k)
  unfolding bind
  bind_g (gives {x = x} {s = s} h g) f = f x s h g
  bind_g (refused x) f = refused x

  weak_g : {A : Type 0} {U Q : A → Type 0} {G H : A → St → Type 0} {m : Res A} → ((x : A) (s : St) → U x → G x s → Q x) → ((x : A) (s : St) → U x → G x s → H x s) →
      Gives U G m → Gives Q H m
  weak_g f g (gives {x = x} {s = s} h k) = gives (f x s h k) (g x s h k)
  weak_g f g (refused x) = refused x

  module _ {A : Type 0} {U : A → Type 0} {G : A → St → Type 0} where
    -- with what the test says
    told_g : (b : Bool) (p q : P A) (s : St) → (b ≡ true → Gives U G (p s)) → (b ≡ false → Gives U G (q s)) → Gives U G (test b p q s)
    unfolding test
    told_g true p q s f g = f refl
    told_g false p q s f g = g refl

    test_g : (b : Bool) (p q : P A) (s : St) → Gives U G (p s) → Gives U G (q s) → Gives U G (test b p q s)
    test_g b p q s f g = told_g b p q s (λ e. f) (λ e. g)

    when_told : (ks : List Token) (p q : P A) (s : St) → (peek ks s ≡ true → Gives U G (p s)) → Gives U G (q s) → Gives U G (when ks p q s)
    unfolding when
    when_told ks p q s f g = told_g (peek ks s) p q s f (λ e. g)

    when_g : (ks : List Token) (p q : P A) (s : St) → Gives U G (p s) → Gives U G (q s) → Gives U G (when ks p q s)
    when_g ks p q s f g = when_told ks p q s (λ e. f) g

    refuse_g : (e : ℕ) → end_kind e ≡ false → (t : Lexeme) → Holds t → (s : St) → Gives U G (refuse {A = A} e t s)
    unfolding refuse
    refuse_g e f t h s = refused (in_hand h f)

  -- a definition that is read from a on: from its keyword, one of the tokens, to an end behind that one's, inside the text
  pub record Root (a : ℕ) (d : Definition) : Type 0 where
    pub keyword : Lexeme
    pub kinded : Kinded Holds (keyword_of d ∷ []) keyword
    pub from : a ≤ token_start keyword
    pub some : token_start keyword < token_end keyword
    pub starts : (place keyword).start ≡ (place_of d).start
    pub ends : token_end keyword ≤ (place_of d).end.index
    pub within : (place_of d).end.index ≤ n

  -- ---- states; all: the tokens that were left at first

  module _ (all : List Lexeme) where
    -- what stays as it is: the last place of all; and the tokens up to those left end where the last one taken ends, or before
    record Fixed (l : LOC) (ts : List Lexeme) : Type 0 where
      last : final l ts ≡ z
      behind : Passed (λ t. token_end t ≤ l.end.index) all ts

    -- the last token taken ends at a or behind it, and the tokens left stand behind that one, in order
    data Good (a : ℕ) : St → Type 0 where
      good : {l : LOC} {c ts : List Lexeme} → a ≤ l.end.index → InOrder n l.end.index ts → All Holds c → All Holds ts → Fixed l ts → Good a (pos l c ts)

    -- and that one's place is l
    data Ended (l : LOC) : St → Type 0 where
      ended : {c ts : List Lexeme} → InOrder n l.end.index ts → All Holds c → All Holds ts → Fixed l ts → Ended l (pos l c ts)

    -- it leaves a state as good as it found
    abbrev Keeps : {A : Type 0} → ℕ → (A → Type 0) → Res A → Type 0
    Keeps {A} a U r = Gives U (λ (x : A). Good a) r

    -- and passes a token
    abbrev Moves : {A : Type 0} → ℕ → (A → Type 0) → Res A → Type 0
    Moves {A} a U r = Gives U (λ (x : A). Good (suc a)) r

    -- a token from a on, of one of these kinds
    record Key (a : ℕ) (ks : List Token) (t : Lexeme) : Type 0 where
      kinded : Kinded Holds ks t
      from : a ≤ token_start t
      some : token_start t < token_end t

    inside_g : {a : ℕ} {s : St} → Good a s → a ≤ n
    inside_g (good h o c ts x) = let i = inside o in omega arith

    lower_g : {a b : ℕ} {s : St} → a ≤ b → Good b s → Good a s
    lower_g h (good {l = l} k o c ts x) = good {l = l} (omega arith) o c ts x

    ended_g : {l : LOC} {s : St} → Ended l s → Good l.end.index s
    ended_g {l} (ended o c ts x) = good {l = l} (omega arith) o c ts x

    -- behind a token that was passed
    past : {a : ℕ} {ks : List Token} {t : Lexeme} {s : St} → Key a ks t → Good (token_end t) s → Good (suc a) s
    past h g = lower_g (omega (arith, h.from, h.some)) g

    weak_move : {A : Type 0} {U : A → Type 0} {a : ℕ} {r : Res A} → Moves a U r → Keeps a U r
    weak_move (gives h g) = gives h (lower_g (omega arith) g)
    weak_move (refused x) = refused x

    -- ---- the steps

    fixed_on : {l : LOC} {t : Lexeme} {ts : List Lexeme} → l.end.index ≤ token_start t → token_start t < token_end t → Fixed l (t ∷ ts) → Fixed (place t) ts
    unfolding final token_end
    fixed_on h k x = record { last = x.last; behind = passed_on (λ u e. omega arith) (omega arith) x.behind }

    fail_g : {A : Type 0} {U : A → Type 0} {G : A → St → Type 0} (e : ℕ) → end_kind e ≡ false → {a : ℕ} {s : St} → Good a s → Gives U G (fail {A = A} e s)
    unfolding fail final
    fail_g e f (good h (no_token_law i) c anil x) = refused (none_left x.last)
    fail_g e f (good h (one_token i j o) c (acons y ys) x) = refused (in_hand y f)

    needs_g : {A : Type 0} {U : A → Type 0} {G : A → St → Type 0} (e : ℕ) (p : P A) {a : ℕ} {s : St} → Good a s → Gives U G (p s) → Gives U G (needs e p s)
    unfolding final
    needs_g e p (good h (no_token_law i) c anil x) k = refused (none_left x.last)
    needs_g e p (good h (one_token i j o) c (acons y ys) x) k = k

    next_move : {a : ℕ} {s : St} → Good a s → Moves a Holds (next s)
    unfolding next token_end final
    next_move (good h (no_token_law i) c anil x) = refused (none_left x.last)
    next_move (good h (one_token {t = t} i j o) c (acons y ys) x) = gives y (good {l = place t} (omega arith) o c ys (fixed_on i j x))

    next_g : {a : ℕ} {s : St} → Good a s → Keeps a Holds (next s)
    next_g g = weak_move (next_move g)

    next_key : {a : ℕ} (ks : List Token) {s : St} → Good a s → peek ks s ≡ true → Gives (Key a ks) (λ t. Ended (place t)) (next s)
    unfolding next peek token_end final
    next_key ks (good h (no_token_law i) c anil x) e = refused (none_left x.last)
    next_key ks (good h (one_token {t = t} i j o) c (acons y ys) x) e =
        gives (record { kinded = record { kinds = e; holds = y }; from = omega arith; some = j }) (ended o c ys (fixed_on i j x))

    want_key : (ks : List Token) (e : ℕ) → end_kind e ≡ false → {a : ℕ} {s : St} → Good a s → Gives (Key a ks) (λ t. Ended (place t)) (want ks e s)
    unfolding want
    want_key ks e f {a} {s} g = when_told ks next (fail e) s (λ h. next_key ks g h) (fail_g e f g)

    -- such a token, passed
    want_past : (ks : List Token) (e : ℕ) → end_kind e ≡ false → {a : ℕ} {s : St} → Good a s → Moves a (Kinded Holds ks) (want ks e s)
    unfolding token_end
    want_past ks e f g = weak_g (λ t s h k. h.kinded) (λ t s h k. past h (ended_g k)) (want_key ks e f g)

    want_g : (ks : List Token) (e : ℕ) → end_kind e ≡ false → {a : ℕ} {s : St} → Good a s → Keeps a (Kinded Holds ks) (want ks e s)
    want_g ks e f g = weak_move (want_past ks e f g)

    -- the last token's place
    here_end : {a : ℕ} {s : St} → Good a s → Gives (λ e. a ≤ e.end.index) Ended (here s)
    unfolding here
    here_end (good h o c ts x) = gives h (ended o c ts x)

    here_g : {a : ℕ} {s : St} → Good a s → Keeps a Any (here s)
    unfolding here
    here_g (good h o c ts x) = gives tt (good h o c ts x)

    start_g : {a : ℕ} {s : St} → Good a s → Keeps a Any (start s)
    unfolding start
    start_g (good h (no_token_law i) c anil x) = gives tt (good h (no_token_law i) c anil x)
    start_g (good h (one_token i j o) c (acons y ys) x) = gives tt (good h (one_token i j o) c (acons y ys) x)

    taken_g : {a : ℕ} {s : St} → Good a s → Keeps a (All Holds) (taken s)
    unfolding taken
    taken_g (good h o c ts x) = gives c (good h o anil ts x)

    -- ---- the skips

    by_g : {a : ℕ} (x : Fate) (u v w : St) → Good a u → Good a v → Good a w → Good a (by x u v w)
    unfolding by
    by_g stop u v w f g h = f
    by_g over u v w f g h = g
    by_g wait u v w f g h = h

    pass_g : {a : ℕ} (f : Token → Fate) (l : LOC) {c ts : List Lexeme} → a ≤ l.end.index → InOrder n l.end.index ts → All Holds c → All Holds ts → Fixed l ts →
        Good a (pass f l c ts)
    unfolding pass token_end
    pass_g f l h o c anil x = good h o c anil x
    pass_g f l h (one_token {t = t} i j o) c (acons y ys) x =
        by_g (f (kind t)) _ _ _ (good h (one_token i j o) c (acons y ys) x) (pass_g f (place t) (omega arith) o c ys (fixed_on i j x))
        (pass_g f (place t) (omega arith) o (append_all c (acons y anil)) ys (fixed_on i j x))

    skip_g : (f : Token → Fate) {a : ℕ} {s : St} → Good a s → Keeps a Any (skip f s)
    unfolding skip
    skip_g f (good {l = l} h o c ts x) = gives tt (pass_g f l h o c ts x)

    separator_g : {a : ℕ} {s : St} → Good a s → Keeps a Any (skip_separator s)
    unfolding skip_separator
    separator_g = skip_g (fate over stop)

    comments_g : {a : ℕ} {s : St} → Good a s → Keeps a Any (skip_comments s)
    unfolding skip_comments
    comments_g = skip_g (fate stop wait)

    discard_g : {a : ℕ} {s : St} → Good a s → Keeps a Any (skip_comments_discard s)
    unfolding skip_comments_discard
    discard_g = skip_g (fate stop over)

    trivia_g : {a : ℕ} {s : St} → Good a s → Keeps a Any (skip_trivia s)
    unfolding skip_trivia
    trivia_g = skip_g (fate over wait)

    closed_g : (k : Token) {a : ℕ} {s : St} → Good a s → Keeps a Any (closed k s)
    unfolding closed
    closed_g k {a} {s} g = when_g _ _ _ s (bind_g (next_g g) λ t s h g. gives tt g) (gives tt g)

    -- ---- the loop

    -- a text has fewer bytes than the count, and each turn passes one
    module _ {A B : Type 0} (U : A → Type 0) (Q : B → Type 0) (e : B) (c : A → B → B) (end : P Bool) (p : P A)
        (qe : Q e) (qc : (v : A) (x : B) → U v → Q x → Q (c v x))
        (hs : (a : ℕ) (s : St) → Good a s → Keeps a Any (end s)) (hp : (a : ℕ) (s : St) → Good a s → Moves a U (p s)) where
      loop_g : (m : ℕ) {a : ℕ} {s : St} → n < m + a → Good a s → Keeps a Q (loop e c end p m s)
      unfolding loop
      loop_g zero lt g = absurd (omega (arith, inside_g g))
      loop_g (suc m) {a} {s} lt g =
          bind_g (hs a s g) λ b s u g. test_g _ _ _ s (gives qe g)
          (bind_g (hp a s g) λ v s hv g. bind_g (loop_g m (omega arith) g) λ x s hx g. gives (qc v x hv hx) (lower_g (omega arith) g))

      many_g : {a : ℕ} {s : St} → Good a s → Keeps a Q (many e c end p s)
      unfolding many
      many_g g = loop_g 65537 (omega (arith, short)) g

    module _ {A : Type 0} (U : A → Type 0) (end : P Bool) (p : P A) (hs : (a : ℕ) (s : St) → Good a s → Keeps a Any (end s))
        (hp : (a : ℕ) (s : St) → Good a s → Moves a U (p s)) where
      list_g : {a : ℕ} {s : St} → Good a s → Keeps a (All U) (many [] ◌∷◌ end p s)
      list_g = many_g U (All U) [] ◌∷◌ end p anil (λ a x h k. acons h k) hs hp

    -- ---- types

    module _ (d : ℕ) {a : ℕ} (p : P FieldType) (hp : (s : St) → Good a s → Keeps a (EachType Holds d) (p s)) (t : Lexeme) where
      complex_g : (create : LOC → Lexeme → FieldType → FieldType) → ((l : LOC) (b : FieldType) → EachType Holds d b → EachType Holds (suc d) (create l t b)) →
          {s : St} → Good a s → Keeps a (EachType Holds (suc d)) (complex_type create p t s)
      unfolding complex_type
      complex_g create w g =
          bind_g (want_g _ _ refl g) λ x s y g. bind_g (hp s g) λ b s hb g. bind_g (want_g _ _ refl g) λ x s y g. bind_g (here_g g) λ e s y g. gives (w _ b hb) g

      map_type_g : Kinded Holds (T.Map ∷ []) t → {s : St} → Good a s → Keeps a (EachType Holds (suc d)) (map_type p t s)
      unfolding map_type
      map_type_g ht g =
          bind_g (want_g _ _ refl g) λ x s y g. bind_g (hp s g) λ b s hb g. bind_g (want_g _ _ refl g) λ x s y g. bind_g (hp s g) λ c s hc g.
          bind_g (want_g _ _ refl g) λ x s y g. bind_g (here_g g) λ e s y g. gives (emap ht hb hc) g

      container_type_g : among (kind t) container_types ≡ true → Holds t → (s : St) → Good a s → Keeps a (EachType Holds (suc d)) (container_type p t s)
      unfolding container_type
      container_type_g hk ht s g =
          told_g (is (kind t) T.List) _ _ s
          (λ e. complex_g ListType (λ l b h. elist (record { kinds = single (kind t) T.List e; holds = ht }) h) g)
          (λ n. told_g (is (kind t) T.Set) _ _ s
          (λ e. complex_g SetType (λ l b h. eset (record { kinds = single (kind t) T.Set e; holds = ht }) h) g)
          (λ m. map_type_g (record { kinds = third (kind t) hk n m; holds = ht }) g))

    type_by_g : (d : ℕ) {a : ℕ} (p : Lexeme → P FieldType) →
        ((t : Lexeme) → among (kind t) container_types ≡ true → Holds t → (s : St) → Good a s → Keeps a (EachType Holds d) (p t s)) →
        {s : St} → Good a s → Keeps a (EachType Holds d) (type_by p s)
    unfolding type_by
    type_by_g d p hp g =
        needs_g _ (type_step p) g
        (bind_g (next_g g) λ t s h g. test_g _ _ _ s (gives (ecommon h) g) (told_g _ _ _ s (λ e. hp t e h s g) (λ e. refuse_g _ refl t h s)))

    type_g : (d : ℕ) {a : ℕ} {s : St} → Good a s → Keeps a (EachType Holds d) (field_type d s)
    unfolding field_type
    type_g zero g = type_by_g zero (refuse _) (λ t e h s g. refuse_g _ refl t h s) g
    type_g (suc d) g = type_by_g (suc d) (container_type (field_type d)) (container_type_g d (field_type d) (λ s g. type_g d g)) g

    parse_type_g : {a : ℕ} {s : St} → Good a s → Keeps a (EachType Holds 32) (parse_type s)
    unfolding parse_type
    parse_type_g = type_g 32

    -- ---- values

    values_end_g : (k : Token) (a : ℕ) (s : St) → Good a s → Keeps a Any (values_end k s)
    unfolding values_end
    values_end_g k a s g = bind_g (separator_g g) λ u s v g. bind_g (discard_g g) λ u s v g. closed_g k g

    data EachProperty (d : ℕ) : Property → Type 0 where
      eproperty : {l : LOC} {k v : FieldInitialValue} → EachValue Holds d k → EachValue Holds d v → EachProperty d (property l k v)

    put_g : (d : ℕ) (p : Property) (x : Properties) → EachProperty d p → EachProperties Holds d x → EachProperties Holds d (put p x)
    unfolding put
    put_g d p x (eproperty h k) g = epcons h k g

    module _ (d : ℕ) (p : P FieldInitialValue) (hp : (a : ℕ) (s : St) → Good a s → Moves a (EachValue Holds d) (p s)) where
      property_g : (a : ℕ) (s : St) → Good a s → Moves a (EachProperty d) (map_property p s)
      unfolding map_property
      property_g a s g =
          bind_g (start_g g) λ b s y g. bind_g (hp a s g) λ k s hk g. bind_g (want_g _ _ refl g) λ x s y g. bind_g (weak_move (hp (suc a) s g)) λ v s hv g.
          bind_g (here_g g) λ e s y g. gives (eproperty hk hv) g

      list_value_g : (t : Lexeme) {a : ℕ} {s : St} → Good a s → Keeps a (EachValue Holds (suc d)) (list_value p t s)
      unfolding list_value
      list_value_g t g =
          bind_g (many_g (EachValue Holds d) (EachElements Holds d) nil cons (values_end T.RightBracket) p enil (λ a x h k. econs h k) (values_end_g T.RightBracket) hp g) λ vs s hv g.
          bind_g (here_g g) λ e s y g. gives (eseq hv) g

      map_value_g : (t : Lexeme) {a : ℕ} {s : St} → Good a s → Keeps a (EachValue Holds (suc d)) (map_value p t s)
      unfolding map_value
      map_value_g t g =
          bind_g (many_g (EachProperty d) (EachProperties Holds d) pnil put (values_end T.RightBrace) (map_property p) epnil (put_g d) (values_end_g T.RightBrace) property_g g) λ ps s hv g.
          bind_g (here_g g) λ e s y g. gives (edict hv) g

      container_value_g : (t : Lexeme) (a : ℕ) (s : St) → Good a s → Keeps a (EachValue Holds (suc d)) (container_value p t s)
      unfolding container_value
      container_value_g t a s g = test_g _ _ _ s (list_value_g t g) (map_value_g t g)

    value_by_g : (d : ℕ) {a : ℕ} (p : Lexeme → P FieldInitialValue) → ((t : Lexeme) → Holds t → (a : ℕ) (s : St) → Good a s → Keeps a (EachValue Holds d) (p t s)) →
        {s : St} → Good a s → Moves a (EachValue Holds d) (value_by p s)
    unfolding value_by
    value_by_g d p hp g = bind_g (next_move g) λ t s h g. test_g _ _ _ s (gives (eleaf h) g) (test_g _ _ _ s (hp t h _ s g) (refuse_g _ refl t h s))

    value_g : (d a : ℕ) (s : St) → Good a s → Moves a (EachValue Holds d) (field_value d s)
    unfolding field_value
    value_g zero a s g = value_by_g zero (refuse _) (λ t h a s g. refuse_g _ refl t h s) g
    value_g (suc d) a s g = value_by_g (suc d) (container_value (field_value d)) (λ t h. container_value_g d (field_value d) (value_g d) t) g

    parse_value_g : {a : ℕ} {s : St} → Good a s → Keeps a (EachValue Holds 32) (parse_value s)
    unfolding parse_value
    parse_value_g g = weak_move (value_g 32 _ _ g)

    -- ---- annotations

    one_separator_g : {a : ℕ} {s : St} → Good a s → Keeps a Any (one_separator s)
    unfolding one_separator
    one_separator_g {a} {s} g = when_g _ _ _ s (bind_g (next_g g) λ t s h g. gives tt g) (gives tt g)

    annotation_g : (a : ℕ) (s : St) → Good a s → Moves a (EachAnnotation Holds) (parse_annotation s)
    unfolding parse_annotation
    annotation_g a s g =
        bind_g (want_past _ _ refl g) λ t s ht g. bind_g (want_g _ _ refl g) λ x s y g. bind_g (want_g _ _ refl g) λ v s hv g.
        bind_g (one_separator_g g) λ x s y g. gives (eannotation ht hv.holds) g

    annotations_end_g : (a : ℕ) (s : St) → Good a s → Keeps a Any (annotations_end s)
    unfolding annotations_end
    annotations_end_g a s g = bind_g (discard_g g) λ u s v g. closed_g T.RightParen g

    annotations_g : {a : ℕ} {s : St} → Good a s → Keeps a (EachAnnotations Holds) (parse_annotations s)
    unfolding parse_annotations
    annotations_g {a} {s} g =
        when_g _ _ _ s
        (bind_g (here_g g) λ p s y g. bind_g (next_g g) λ t s h g.
        bind_g (list_g (EachAnnotation Holds) annotations_end parse_annotation annotations_end_g annotation_g g) λ xs s hx g.
        bind_g (here_g g) λ x s y g. gives (eannotations hx) g)
        (gives eabsent g)

    -- ---- fields

    field_id_g : {a : ℕ} {s : St} → Good a s → Keeps a (EachOption Holds) (parse_field_id s)
    unfolding parse_field_id
    field_id_g {a} {s} g =
        when_g _ _ _ s
        (bind_g (next_g g) λ t s h g. test_g _ _ _ s (bind_g (want_g _ _ refl g) λ x s y g. gives (esome h) g) (refuse_g _ refl t h s))
        (gives enone g)

    required_g : {a : ℕ} {s : St} → Good a s → Keeps a Any (parse_required s)
    unfolding parse_required
    required_g {a} {s} g =
        when_g _ _ _ s (bind_g (next_g g) λ t s h g. gives tt g) (when_g _ _ _ s (bind_g (next_g g) λ t s h g. gives tt g) (gives tt g))

    default_g : {a : ℕ} {s : St} → Good a s → Keeps a (EachOption (EachValue Holds 32)) (parse_default s)
    unfolding parse_default
    default_g {a} {s} g = when_g _ _ _ s (bind_g (next_g g) λ t s h g. bind_g (parse_value_g g) λ v s hv g. gives (esome hv) g) (gives enone g)

    field_g : (a : ℕ) (s : St) → Good a s → Moves a (EachField Holds) (parse_field s)
    unfolding parse_field
    field_g a s g =
        bind_g (taken_g g) λ c s hc g. bind_g (start_g g) λ p s y g. bind_g (field_id_g g) λ i s hi g. bind_g (required_g g) λ r s y g.
        bind_g (parse_type_g g) λ t s ht g. bind_g (want_past _ _ refl g) λ m s hm g. bind_g (default_g g) λ v s hv g.
        bind_g (annotations_g g) λ b s hb g. bind_g (here_g g) λ x s y g. gives (efield hc hi ht hm hv hb) g

    members_end_g : (k : Token) (a : ℕ) (s : St) → Good a s → Keeps a Any (members_end k s)
    unfolding members_end
    members_end_g k a s g = bind_g (separator_g g) λ u s v g. bind_g (comments_g g) λ u s v g. closed_g k g

    members_g : {A : Type 0} (U : A → Type 0) (l r : Token) (p : P A) → ((a : ℕ) (s : St) → Good a s → Moves a U (p s)) →
        {a : ℕ} {s : St} → Good a s → Keeps a (All U) (parse_members l r p s)
    unfolding parse_members
    members_g U l r p hp g = bind_g (want_g _ _ refl g) λ x s y g. list_g U (members_end r) p (members_end_g r) hp g

    parameters_g : {a : ℕ} {s : St} → Good a s → Keeps a (All (EachField Holds)) (parse_parameters s)
    unfolding parse_parameters
    parameters_g = members_g (EachField Holds) T.LeftParen T.RightParen parse_field field_g

    -- ---- functions

    throws_g : {a : ℕ} {s : St} → Good a s → Keeps a (EachOption (All (EachField Holds))) (parse_throws s)
    unfolding parse_throws
    throws_g {a} {s} g = when_g _ _ _ s (bind_g (next_g g) λ t s h g. bind_g (parameters_g g) λ fs s hf g. gives (esome hf) g) (gives enone g)

    return_type_g : {a : ℕ} {s : St} → Good a s → Keeps a (EachType Holds 32) (parse_return_type s)
    unfolding parse_return_type
    return_type_g {a} {s} g = when_g _ _ _ s (bind_g (next_g g) λ t s h g. gives (ecommon h) g) (needs_g _ parse_type g (parse_type_g g))

    oneway_g : {a : ℕ} {s : St} → Good a s → Keeps a Any (parse_oneway s)
    unfolding parse_oneway
    oneway_g {a} {s} g = when_g _ _ _ s (bind_g (next_g g) λ t s h g. gives tt g) (gives tt g)

    function_g : (a : ℕ) (s : St) → Good a s → Moves a (EachFunction Holds) (parse_function s)
    unfolding parse_function
    function_g a s g =
        bind_g (taken_g g) λ c s hc g. bind_g (oneway_g g) λ o s y g. bind_g (return_type_g g) λ t s ht g. bind_g (want_past _ _ refl g) λ m s hm g.
        bind_g (parameters_g g) λ ps s hp g. bind_g (throws_g g) λ th s hth g. bind_g (trivia_g g) λ x s y g.
        bind_g (annotations_g g) λ b s hb g. bind_g (here_g g) λ x s y g. gives (efunction hc ht hm hp hth hb) g

    -- ---- enum members

    initializer_g : {a : ℕ} {s : St} → Good a s → Keeps a (EachOption Holds) (parse_initializer s)
    unfolding parse_initializer
    initializer_g {a} {s} g = when_g _ _ _ s (bind_g (next_g g) λ x s y g. bind_g (want_g _ _ refl g) λ t s h g. gives (esome h.holds) g) (gives enone g)

    member_g : (a : ℕ) (s : St) → Good a s → Moves a (EachMember Holds) (parse_enum_member s)
    unfolding parse_enum_member
    member_g a s g =
        bind_g (taken_g g) λ c s hc g. bind_g (want_past _ _ refl g) λ m s hm g. bind_g (initializer_g g) λ v s hv g.
        bind_g (annotations_g g) λ b s hb g. bind_g (here_g g) λ x s y g. gives (emember hc hm hv hb) g

    -- ---- definitions

    -- a token that ends at b or before it, or is in a gap
    data Cov (b : ℕ) (t : Lexeme) : Type 0 where
      by_end : token_end t ≤ b → Cov b t
      by_gap : Gap t → Cov b t

    -- the state behind what ends at b: of the tokens passed those behind b are in a gap
    data Covers (b : ℕ) : St → Type 0 where
      covers : {s : St} → Good b s → Passed (Cov b) all (left s) → Covers b s

    ended_covers : {l : LOC} {s : St} → Ended l s → Covers l.end.index s
    ended_covers {l} (ended o c ts x) = covers (good {l = l} (omega arith) o c ts x) (weak_passed (λ t. by_end) x.behind)

    inside_covers : {b : ℕ} {s : St} → Covers b s → b ≤ n
    inside_covers (covers g p) = inside_g g

    skip_covers : (x y : Fate) {b : ℕ} {s : St} → Covers b s → Gives Any (λ u. Covers b) (skip (fate x y) s)
    unfolding skip
    skip_covers x y (covers (good {l = l} {c = c} {ts = ts} h o hc ht f) p) =
        gives tt (covers (pass_g (fate x y) l h o hc ht f) (pass_passed x y (λ t. by_gap) l c ts p))

    separator_covers : {b : ℕ} {s : St} → Covers b s → Gives Any (λ u. Covers b) (skip_separator s)
    unfolding skip_separator
    separator_covers = skip_covers over stop

    comments_covers : {b : ℕ} {s : St} → Covers b s → Gives Any (λ u. Covers b) (skip_comments s)
    unfolding skip_comments
    comments_covers = skip_covers stop wait

    trivia_covers : {b : ℕ} {s : St} → Covers b s → Gives Any (λ u. Covers b) (skip_trivia s)
    unfolding skip_trivia
    trivia_covers = skip_covers over wait

    -- a definition's keyword is next, the first of all tokens
    record Ahead (a : ℕ) (k : Token) (s : St) : Type 0 where
      state : Good a s
      next_is : peek (k ∷ []) s ≡ true
      first : left s ≡ all

    taken_by : {a : ℕ} (k : Token) {s : St} → Good a s → peek (k ∷ []) s ≡ true → left s ≡ all → Gives (All Holds) (λ c. Ahead a k) (taken s)
    unfolding taken peek
    taken_by k (good h o c anil x) e w = absurd (false≢true e)
    taken_by k (good h o c (acons y ys) x) e w = gives c (record { state = good h o anil (acons y ys) x; next_is = e; first = w })

    taken_ahead : {a : ℕ} {k : Token} {s : St} → Ahead a k s → Gives (All Holds) (λ c. Ahead a k) (taken s)
    taken_ahead {k = k} g = taken_by k g.state g.next_is g.first

    -- the keyword: no token of all starts before it
    record Keyword (a : ℕ) (k : Token) (t : Lexeme) : Type 0 where
      key : Key a (k ∷ []) t
      first : All (λ u. token_start t ≤ token_start u) all

    later : (b : ℕ) {a : ℕ} {ts : List Lexeme} → b ≤ a → InOrder n a ts → All (λ u. b ≤ token_start u) ts
    later b h (no_token_law i) = anil
    later b h (one_token {t = t} i j o) = acons {x = t} (omega arith) (later b (omega arith) o)

    keyword_by : {a : ℕ} (k : Token) {s : St} → Good a s → peek (k ∷ []) s ≡ true → left s ≡ all → Gives (Keyword a k) (λ t. Ended (place t)) (next s)
    unfolding next peek token_end
    keyword_by k (good h (no_token_law i) c anil x) e w = absurd (false≢true e)
    keyword_by k (good h (one_token {t = t} i j o) c (acons y ys) x) e w =
        gives
        (record {
          key = record { kinded = record { kinds = e; holds = y }; from = omega arith; some = j };
          first = rw (← w) (acons {x = t} (omega arith) (later (token_start t) (omega arith) o));
        })
        (ended o c ys (fixed_on i j x))

    keyword_g : {a : ℕ} {k : Token} {s : St} → Ahead a k s → Gives (Keyword a k) (λ t. Ended (place t)) (next s)
    keyword_g {k = k} g = keyword_by k g.state g.next_is g.first

    record Read (a : ℕ) (d : Definition) : Type 0 where
      each : EachDefinition Holds d
      root : Root a d
      first : All (λ u. (place_of d).start.index ≤ token_start u) all

    abbrev Behind : Definition → St → Type 0
    Behind d = Covers (place_of d).end.index

    first_of : (t : Lexeme) (l : LOC) {us : List Lexeme} → (place t).start ≡ l.start → All (λ u. token_start t ≤ token_start u) us → All (λ u. l.start.index ≤ token_start u) us
    unfolding token_start
    first_of t l e anil = anil
    first_of t l e (acons {x = u} h hs) = acons {x = u} (rw (← e) h) (first_of t l e hs)

    read_of : {a : ℕ} {t : Lexeme} (d : Definition) → Keyword a (keyword_of d) t → (place t).start ≡ (place_of d).start → token_end t ≤ (place_of d).end.index →
        (place_of d).end.index ≤ n → EachDefinition Holds d → Read a d
    read_of {t = t} d h s e i x = record {
      each = x;
      root = record { keyword = t; kinded = h.key.kinded; from = h.key.from; some = h.key.some; starts = s; ends = e; within = i };
      first = first_of t (place_of d) s h.first;
    }

    include_g : {a : ℕ} {s : St} → Ahead a T.Include s → Gives (Read a) Behind (parse_include Include s)
    unfolding parse_include place_of keyword_of span token_end
    include_g g =
        bind_g (taken_ahead g) λ c s hc g. bind_g (keyword_g g) λ k s hk g. bind_g (want_key _ _ refl (ended_g g)) λ m s hm g.
        gives (read_of (Include _ c m) hk refl (omega (arith, hm.from, hm.some)) (inside_g (ended_g g)) (einclude hc hm.kinded)) (ended_covers g)

    cpp_include_g : {a : ℕ} {s : St} → Ahead a T.CppInclude s → Gives (Read a) Behind (parse_include CppInclude s)
    unfolding parse_include place_of keyword_of span token_end
    cpp_include_g g =
        bind_g (taken_ahead g) λ c s hc g. bind_g (keyword_g g) λ k s hk g. bind_g (want_key _ _ refl (ended_g g)) λ m s hm g.
        gives (read_of (CppInclude _ c m) hk refl (omega (arith, hm.from, hm.some)) (inside_g (ended_g g)) (ecpp hc hm.kinded)) (ended_covers g)

    namespace_g : {a : ℕ} {s : St} → Ahead a T.Namespace s → Gives (Read a) Behind (parse_namespace s)
    unfolding parse_namespace place_of keyword_of span token_end
    namespace_g g =
        bind_g (taken_ahead g) λ c s hc g. bind_g (keyword_g g) λ k s hk g. bind_g (want_g _ _ refl (ended_g g)) λ x s hx g. bind_g (want_key _ _ refl g) λ m s hm g.
        gives (read_of (Namespace _ c x m) hk refl (omega (arith, hm.from, hm.some)) (inside_g (ended_g g)) (enamespace hc hx hm.kinded)) (ended_covers g)

    const_g : {a : ℕ} {s : St} → Ahead a T.Const s → Gives (Read a) Behind (parse_const s)
    unfolding parse_const place_of keyword_of span token_end
    const_g g =
        bind_g (taken_ahead g) λ c s hc g. bind_g (keyword_g g) λ k s hk g. bind_g (parse_type_g (ended_g g)) λ t s ht g. bind_g (want_g _ _ refl g) λ m s hm g.
        bind_g (want_g _ _ refl g) λ x s y g. bind_g (parse_value_g g) λ v s hv g. bind_g (here_end g) λ e s he g. bind_g (trivia_covers (ended_covers g)) λ x s y g.
        gives (read_of (Const _ c t m v) hk refl he (inside_covers g) (econst hc ht hm hv)) g

    typedef_g : {a : ℕ} {s : St} → Ahead a T.Typedef s → Gives (Read a) Behind (parse_typedef s)
    unfolding parse_typedef place_of keyword_of span token_end
    typedef_g g =
        bind_g (taken_ahead g) λ c s hc g. bind_g (keyword_g g) λ k s hk g. bind_g (parse_type_g (ended_g g)) λ t s ht g. bind_g (want_key _ _ refl g) λ m s hm g.
        gives (read_of (Typedef _ c t m) hk refl (omega (arith, hm.from, hm.some)) (inside_g (ended_g g)) (etypedef hc ht hm.kinded)) (ended_covers g)

    enum_g : {a : ℕ} {s : St} → Ahead a T.Enum s → Gives (Read a) Behind (parse_enum s)
    unfolding parse_enum place_of keyword_of span token_end
    enum_g g =
        bind_g (taken_ahead g) λ c s hc g. bind_g (keyword_g g) λ k s hk g. bind_g (want_g _ _ refl (ended_g g)) λ m s hm g.
        bind_g (members_g (EachMember Holds) T.LeftBrace T.RightBrace parse_enum_member member_g g) λ xs s hx g.
        bind_g (annotations_g g) λ b s hb g. bind_g (here_end g) λ e s he g.
        gives (read_of (Enum _ c m xs b) hk refl he (inside_g (ended_g g)) (eenum hc hm hx hb)) (ended_covers g)

    structure_g : (x : Structure) {a : ℕ} {s : St} → Ahead a (structure_keyword x) s → Gives (Read a) Behind (parse_structure x s)
    unfolding parse_structure place_of keyword_of span token_end
    structure_g x g =
        bind_g (taken_ahead g) λ c s hc g. bind_g (keyword_g g) λ k s hk g. bind_g (want_g _ _ refl (ended_g g)) λ m s hm g.
        bind_g (members_g (EachField Holds) T.LeftBrace T.RightBrace parse_field field_g g) λ fs s hf g.
        bind_g (annotations_g g) λ b s hb g. bind_g (here_end g) λ e s he g.
        gives (read_of (structure x _ c m fs b) hk refl he (inside_g (ended_g g)) (estructure hc hm hf hb)) (ended_covers g)

    extends_g : {a : ℕ} {s : St} → Good a s → Keeps a (EachOption (Kinded Holds (T.Identifier ∷ []))) (parse_extends s)
    unfolding parse_extends
    extends_g {a} {s} g = when_g _ _ _ s (bind_g (next_g g) λ x s y g. bind_g (want_g _ _ refl g) λ t s h g. gives (esome h) g) (gives enone g)

    service_g : {a : ℕ} {s : St} → Ahead a T.Service s → Gives (Read a) Behind (parse_service s)
    unfolding parse_service place_of keyword_of span token_end
    service_g g =
        bind_g (taken_ahead g) λ c s hc g. bind_g (keyword_g g) λ k s hk g. bind_g (want_g _ _ refl (ended_g g)) λ m s hm g. bind_g (extends_g g) λ x s hx g.
        bind_g (members_g (EachFunction Holds) T.LeftBrace T.RightBrace parse_function function_g g) λ fs s hf g.
        bind_g (annotations_g g) λ b s hb g. bind_g (here_end g) λ e s he g.
        gives (read_of (Service _ c m x fs b) hk refl he (inside_g (ended_g g)) (eservice hc hm hx hf hb)) (ended_covers g)

    definition_g : {a : ℕ} (s : St) → Good a s → left s ≡ all → Gives (Read a) Behind (parse_definition s)
    unfolding parse_definition structure_keyword
    definition_g s g w =
        when_told _ _ _ s (λ e. include_g (record { state = g; next_is = e; first = w }))
        (when_told _ _ _ s (λ e. cpp_include_g (record { state = g; next_is = e; first = w }))
        (when_told _ _ _ s (λ e. namespace_g (record { state = g; next_is = e; first = w }))
        (when_told _ _ _ s (λ e. const_g (record { state = g; next_is = e; first = w }))
        (when_told _ _ _ s (λ e. typedef_g (record { state = g; next_is = e; first = w }))
        (when_told _ _ _ s (λ e. enum_g (record { state = g; next_is = e; first = w }))
        (when_told _ _ _ s (λ e. structure_g Struct (record { state = g; next_is = e; first = w }))
        (when_told _ _ _ s (λ e. structure_g Union (record { state = g; next_is = e; first = w }))
        (when_told _ _ _ s (λ e. structure_g Exception (record { state = g; next_is = e; first = w }))
        (when_told _ _ _ s (λ e. service_g (record { state = g; next_is = e; first = w })) (fail_g _ refl g))))))))))

    -- ---- between definitions

    -- the state before a definition, or at the end of the text
    record Turned (b : ℕ) (end : Bool) (s : St) : Type 0 where
      state : Covers b s
      none : end ≡ true → left s ≡ []

    over_g : {b : ℕ} {s : St} → Covers b s → Gives Any (Turned b) (D.over s)
    unfolding D.over final fail
    over_g (covers (good {l = l} {c = d} h o c anil x) p) =
        test_g _ _ _ (pos l d []) (refused (none_left x.last)) (gives tt (record { state = covers (good h o c anil x) p; none = λ e. refl }))
    over_g (covers (good h o c (acons y ys) x) p) = gives tt (record { state = covers (good h o c (acons y ys) x) p; none = λ e. absurd (false≢true e) })

    document_end_g : {b : ℕ} (s : St) → Covers b s → Gives Any (Turned b) (document_end s)
    unfolding document_end
    document_end_g s g =
        bind_g (separator_covers g) λ u s v g. bind_g (comments_covers g) λ u s v g. bind_g (separator_covers g) λ u s v g. over_g g

  -- ---- the document

  -- definitions from a on, one behind the other
  pub data Chain : ℕ → List Definition → Type 0 where
    no_definition : {a : ℕ} → Chain a []
    one_definition : {a : ℕ} {d : Definition} {ds : List Definition} → Root a d → Chain (place_of d).end.index ds → Chain a (d ∷ ds)

  pub record Reads (a : ℕ) (ts : List Lexeme) (ds : List Definition) : Type 0 where
    pub each : All (EachDefinition Holds) ds
    pub chain : Chain a ds
    pub covered : All (Lies ds) ts

  -- the tokens left are all, from here on
  anew : {all : List Lexeme} {a : ℕ} {s : St} → Good all a s → Good (left s) a s
  anew (good h o c ts x) = good h o c ts (record { last = x.last; behind = none_passed })

  anew_covers : {a : ℕ} {s : St} → Good (left s) a s → Covers (left s) a s
  anew_covers g = covers g none_passed

  lower_order : {a b : ℕ} {ts : List Lexeme} → a ≤ b → InOrder n b ts → InOrder n a ts
  lower_order {a} h (no_token_law i) = no_token_law {a = a} (omega arith)
  lower_order {a} h (one_token {t = t} i j o) = one_token {a = a} {t = t} (omega arith) j o

  ordered : {all : List Lexeme} {a : ℕ} {s : St} → Good all a s → InOrder n a (left s)
  ordered (good h o c ts x) = lower_order h o

  behind_gap : {all : List Lexeme} {a : ℕ} (t : Lexeme) → a ≤ token_start t → token_start t < token_end t → Cov all a t → Gap t
  behind_gap t h k (by_end e) = absurd (omega arith)
  behind_gap t h k (by_gap g) = g

  -- all tokens stand behind a, so those that are passed are in a gap
  passed_gaps : {all : List Lexeme} {a : ℕ} {us ts : List Lexeme} → InOrder n a us → Passed (Cov all a) us ts → Passed Gap us ts
  passed_gaps o none_passed = none_passed
  passed_gaps (one_token {t = t} i j o) (one_passed p h) = one_passed (behind_gap t i j p) (passed_gaps (lower_order (omega arith) o) h)

  gaps_lie : {ds : List Definition} {us ts : List Lexeme} → Passed Gap us ts → All (Lies ds) ts → All (Lies ds) us
  gaps_lie none_passed hs = hs
  gaps_lie (one_passed p h) hs = acons (in_gap p) (gaps_lie h hs)

  lies_more : {d : Definition} {ds : List Definition} {ts : List Lexeme} → All (Lies ds) ts → All (Lies (d ∷ ds)) ts
  lies_more anil = anil
  lies_more (acons (in_definition m a b) hs) = acons (in_definition (Memᴰ.tail m) a b) (lies_more hs)
  lies_more (acons (in_gap g) hs) = acons (in_gap g) (lies_more hs)

  lie_one : {all : List Lexeme} {d : Definition} {ds : List Definition} (t : Lexeme) → Cov all (place_of d).end.index t → (place_of d).start.index ≤ token_start t → Lies (d ∷ ds) t
  lie_one t (by_end e) h = in_definition (Memᴰ.head refl) h e
  lie_one t (by_gap g) h = in_gap g

  definition_lies : {all : List Lexeme} {d : Definition} {ds : List Definition} {us ts : List Lexeme} → Passed (Cov all (place_of d).end.index) us ts →
      All (λ u. (place_of d).start.index ≤ token_start u) us → All (Lies (d ∷ ds)) ts → All (Lies (d ∷ ds)) us
  definition_lies none_passed f hs = hs
  definition_lies (one_passed {t = t} p h) (acons f fs) hs = acons (lie_one t p f) (definition_lies h fs hs)

  covers_good : {all : List Lexeme} {b : ℕ} {s : St} → Covers all b s → Good all b s
  covers_good (covers g p) = g

  covers_passed : {all : List Lexeme} {b : ℕ} {s : St} → Covers all b s → Passed (Cov all b) all (left s)
  covers_passed (covers g p) = p

  abbrev Anywhere : {A : Type 0} → A → St → Type 0
  Anywhere x s = Unit {0}

  no_more : {a : ℕ} (us ts : List Lexeme) → ts ≡ [] → InOrder n a us → Passed (Cov us a) us ts → All (Lies []) us
  no_more us ts e o p = gaps_lie (passed_gaps o p) (rw e anil)

  chain_g : (m : ℕ) {a : ℕ} {s : St} → n < m + a → Good (left s) a s → Gives (Reads a (left s)) Anywhere (loop [] ◌∷◌ document_end parse_definition m s)
  unfolding loop
  chain_g zero {s = s} lt g = absurd (omega (arith, inside_g (left s) g))
  chain_g (suc m) {a} {s} lt g =
      bind_g (document_end_g (left s) s (anew_covers g)) λ b s₁ u k. told_g b _ _ s₁
      (λ e. gives (record { each = anil; chain = no_definition; covered = no_more (left s) (left s₁) (k.none e) (ordered g) (covers_passed k.state) }) tt)
      (λ e. bind_g (definition_g (left s₁) s₁ (anew (covers_good k.state)) refl) λ d s₂ hd j.
      bind_g (chain_g m (omega (arith, lt, hd.root.from, hd.root.some, hd.root.ends)) (anew (covers_good j))) λ ds s₃ hs v.
      gives
      (record {
        each = acons hd.each hs.each;
        chain = one_definition hd.root hs.chain;
        covered = gaps_lie (passed_gaps (ordered g) (covers_passed k.state)) (definition_lies (covers_passed j) hd.first (lies_more hs.covered));
      })
      tt)

-- ---- a text

module _ (text : List ℕ) (short : length text ≤ 65536) (Holds : Lexeme → Type 0) (h : All Holds (tokens text opening)) where
  document_g : Gives (length text) short Holds (last_place text) (Reads (length text) short Holds (last_place text) 0 (tokens text opening))
      (Anywhere (length text) short Holds (last_place text)) (parsed text)
  unfolding parsed parse_document many last_place between span_of opening
  document_g =
      chain_g (length text) short Holds (last_place text) 65537 (omega (arith, short))
      (good {l = between opening opening} (omega arith) (tokens_in_order text) anil h (record { last = refl; behind = none_passed }))

  pub document_reads : {ds : List Definition} {s : St} → parsed text ≡ ok ds s → Reads (length text) short Holds (last_place text) 0 (tokens text opening) ds
  document_reads e = gives_ok (length text) short Holds (last_place text) (rw e at document_g)

  pub document_fault : {e : Raised} {p : LOC} → parsed text ≡ no e p → Fault (length text) short Holds (last_place text) e p
  document_fault e = gives_no (length text) short Holds (last_place text) (rw e at document_g)
