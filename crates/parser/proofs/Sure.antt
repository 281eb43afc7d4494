-- Whatever is read from good tokens is well formed. Good k w: what is known of each token; Last l: what is known of the last token's place.
use mathlib.Core.Path.{◌≡◌, refl}
use mathlib.Core.Bool.{Bool, true, false, cond}
use mathlib.Core.List.{List, [], ◌∷◌}
use Prim.Native.Nat.{ℕ, suc, zero, ◌<◌}
use native.Mathlib.Omega.{arith}
use lib.ListN.{length}
use Rattle.token.specs.Code.{is, among}
use Rattle.token.specs.declared.Token.{Token}
use Rattle.token.specs.declared.Token.TheVariants as T
use Rattle.lexer.specs.declared.location.LOC.{LOC}
use Rattle.lexer.specs.Tokens.{Lexeme}
use Rattle.ast.specs.Ast.{
  FieldType,
  ListType,
  SetType,
  FieldInitialValue,
  nil,
  cons,
  Properties,
  pnil,
  Structure,
  Struct,
  Union,
  Exception,
  Include,
  CppInclude,
}
use Rattle.parser.specs.Steps.{
  separators,
  kind,
  bytes,
  place,
  St,
  pos,
  Raised,
  Res,
  ok,
  no,
  P,
  bind,
  test,
  peek,
  when,
  fail,
  needs,
  refuse,
  next,
  want,
  start,
  here,
  taken,
  Fate,
  stop,
  over,
  wait,
  fate,
  by,
  pass,
  skip,
  skip_separator,
  skip_comments,
  skip_comments_discard,
  skip_trivia,
  closed,
  loop,
  many,
}
use Rattle.parser.specs.Types.{container_types, complex_type, map_type, container_type, type_by, field_type}
use Rattle.parser.proofs.TypeStep.{type_step}
use Rattle.parser.specs.Values.{
  values_end,
  Property,
  property,
  put,
  map_property,
  list_value,
  map_value,
  container_value,
  value_by,
  field_value,
}
use Rattle.parser.specs.Definitions as D
use Rattle.parser.specs.Definitions.{
  parse_type,
  parse_value,
  one_separator,
  parse_annotation,
  annotations_end,
  parse_annotations,
  parse_field_id,
  parse_required,
  field_names,
  parse_default,
  parse_field,
  members_end,
  parse_members,
  parse_parameters,
  parse_throws,
  parse_return_type,
  parse_oneway,
  parse_function,
  parse_initializer,
  parse_enum_member,
  parse_include,
  parse_namespace,
  parse_const,
  parse_typedef,
  parse_enum,
  parse_structure,
  parse_extends,
  parse_service,
  parse_definition,
  document_end,
  parse_document,
}
use Rattle.ast.specs.Lists.{All, anil, acons}
use Rattle.ast.proofs.Counts.{append_all}
use Rattle.parser.specs.Order.{final}
use Rattle.parser.proofs.Wf.{comment_kinds, most, Tok, WfType, wcommon, wlist, wset, wmap, WfValue, wleaf, wseq, wdict, WfElements, wnil, wcons, WfProperties, wpnil, wpcons, WfAnnotation, wannotation, WfAnnotations, wabsent, wannotations, WfId, wnoid, wid, WfDefault, wnone, wsome, WfField, wfield, WfThrows, wquiet, wthrows, WfReturn, wvoid, wtype, WfFunction, wfunction, WfOption, wnothing, wjust, WfMember, wmember, WfDefinition, winclude, wcpp, wnamespace, wconst, wtypedef, wenum, wstructure, wservice}

-- ---- kinds

pub single : (k j : Token) → is k j ≡ true → among k (j ∷ []) ≡ true
unfolding among
single k j e = rw e

-- a container's keyword that is neither of the others
pub third : (k : Token) → among k container_types ≡ true → is k T.List ≡ false → is k T.Set ≡ false → among k (T.Map ∷ []) ≡ true
unfolding among
third k e f g = rw (f, g) at e

waits_over : (a b : Bool) (c : Fate) → cond a over (cond b c stop) ≡ wait → b ≡ true
waits_over true b c e = cc
waits_over false true c e = refl
waits_over false false c e = cc

waits_stop : (a b : Bool) (c : Fate) → cond a stop (cond b c stop) ≡ wait → b ≡ true
waits_stop true b c e = cc
waits_stop false true c e = refl
waits_stop false false c e = cc

over_waits : (c : Fate) (k : Token) → fate over c k ≡ wait → among k comment_kinds ≡ true
unfolding fate
over_waits c k e = waits_over (among k separators) (among k comment_kinds) c e

stop_waits : (c : Fate) (k : Token) → fate stop c k ≡ wait → among k comment_kinds ≡ true
unfolding fate
stop_waits c k e = waits_stop (among k separators) (among k comment_kinds) c e

abbrev pub GoodL : (Token → List ℕ → Type 0) → Lexeme → Type 0
GoodL Good t = Good (kind t) (bytes t)

abbrev pub Any : {A : Type 0} → A → Type 0
Any a = Unit {0}

-- a list of such, fewer than n
pub record Some {A : Type 0} (U : A → Type 0) (n : ℕ) (xs : List A) : Type 0 where
  pub each : All U xs
  pub few : length xs < n

module _ (Good : Token → List ℕ → Type 0) (Last : LOC → Type 0) where
  -- the comments that wait are comments, every token left is good, and so is the last place; no reader changes that place
  pub data GoodS : St → Type 0 where
    good : {l : LOC} {c ts : List Lexeme} → All (Tok Good comment_kinds) c → All (GoodL Good) ts → Last (final l ts) → GoodS (pos l c ts)

  -- a reading refuses, or gives what Q says and leaves a good state
  pub data Sure {A : Type 0} (Q : A → Type 0) : Res A → Type 0 where
    sure : {a : A} {s : St} → Q a → GoodS s → Sure Q (ok a s)
    refused : {e : Raised} {l : LOC} → Sure Q (no e l)

  pub sure_ok : {A : Type 0} {Q : A → Type 0} {a : A} {s : St} → Sure Q (ok a s) → Q a
  sure_ok (sure h g) = h

  pub bind_s : {A B : Type 0} {U : A → Type 0} {Q : B → Type 0} {m : Res A} {k : A → P B} →
      Sure U m → ((a : A) (s : St) → U a → GoodS s → Sure Q (k a s)) → Sure Q (bind m k)
  unfolding bind
  bind_s (sure {a = a} {s = s} h g) f = f a s h g
  bind_s refused f = refused

  pub weak_s : {A : Type 0} {U Q : A → Type 0} {m : Res A} → ((a : A) → U a → Q a) → Sure U m → Sure Q m
  weak_s f (sure {a = a} h g) = sure (f a h) g
  weak_s f refused = refused

  pub test_s : {A : Type 0} {Q : A → Type 0} (b : Bool) (p q : P A) (s : St) →
      (b ≡ true → Sure Q (p s)) → (b ≡ false → Sure Q (q s)) → Sure Q (test b p q s)
  unfolding test
  test_s true p q s f g = f refl
  test_s false p q s f g = g refl

  pub when_s : {A : Type 0} {Q : A → Type 0} (ks : List Token) (p q : P A) (s : St) →
      (peek ks s ≡ true → Sure Q (p s)) → Sure Q (q s) → Sure Q (when ks p q s)
  unfolding when
  when_s ks p q s f g = test_s (peek ks s) p q s f (λ e. g)

  pub fail_s : {A : Type 0} {Q : A → Type 0} (e : ℕ) (s : St) → Sure Q (fail e s)
  unfolding fail
  fail_s e (pos l c []) = refused
  fail_s e (pos l c (t ∷ ts)) = refused

  pub needs_s : {A : Type 0} {Q : A → Type 0} (e : ℕ) (p : P A) (s : St) → Sure Q (p s) → Sure Q (needs e p s)
  needs_s e p (pos l c []) h = refused
  needs_s e p (pos l c (t ∷ ts)) h = h

  pub refuse_s : {A : Type 0} {Q : A → Type 0} (e : ℕ) (t : Lexeme) (s : St) → Sure Q (refuse e t s)
  unfolding refuse
  refuse_s e t s = refused

  pub next_s : {s : St} → GoodS s → Sure (GoodL Good) (next s)
  unfolding next final
  next_s (good c anil z) = refused
  next_s (good c (acons h hs) z) = sure h (good c hs z)

  pub next_is : (ks : List Token) {s : St} → GoodS s → peek ks s ≡ true → Sure (Tok Good ks) (next s)
  unfolding next peek final
  next_is ks (good c anil z) e = refused
  next_is ks (good c (acons h hs) z) e = sure (record { kinds = e; good = h }) (good c hs z)

  pub want_s : (ks : List Token) (e : ℕ) {s : St} → GoodS s → Sure (Tok Good ks) (want ks e s)
  unfolding want
  want_s ks e {s} g = when_s ks next (fail e) s (λ h. next_is ks g h) (fail_s e s)

  pub here_s : {s : St} → GoodS s → Sure Any (here s)
  unfolding here
  here_s (good c ts z) = sure tt (good c ts z)

  pub start_s : {s : St} → GoodS s → Sure Any (start s)
  unfolding start
  start_s (good c anil z) = sure tt (good c anil z)
  start_s (good c (acons h hs) z) = sure tt (good c (acons h hs) z)

  pub taken_s : {s : St} → GoodS s → Sure (All (Tok Good comment_kinds)) (taken s)
  unfolding taken
  taken_s (good c ts z) = sure c (good anil ts z)

  -- ---- the skips

  by_s : (x : Fate) (a b c : St) → GoodS a → GoodS b → (x ≡ wait → GoodS c) → GoodS (by x a b c)
  unfolding by
  by_s stop a b c f g h = f
  by_s over a b c f g h = g
  by_s wait a b c f g h = h refl

  module _ (f : Token → Fate) (w : (k : Token) → f k ≡ wait → among k comment_kinds ≡ true) where
    pass_s : (l : LOC) {c ts : List Lexeme} → All (Tok Good comment_kinds) c → All (GoodL Good) ts → Last (final l ts) → GoodS (pass f l c ts)
    unfolding pass final
    pass_s l c anil z = good c anil z
    pass_s l c (acons {x = t} h hs) z =
        by_s (f (kind t)) _ _ _ (good c (acons h hs) z) (pass_s (place t) c hs z)
        (λ e. pass_s (place t) (append_all c (acons (record { kinds = w (kind t) e; good = h }) anil)) hs z)

    skip_s : {s : St} → GoodS s → Sure Any (skip f s)
    unfolding skip
    skip_s (good {l = l} x y z) = sure tt (pass_s l x y z)

  pub separator_s : {s : St} → GoodS s → Sure Any (skip_separator s)
  unfolding skip_separator
  separator_s = skip_s (fate over stop) (over_waits stop)

  pub comments_s : {s : St} → GoodS s → Sure Any (skip_comments s)
  unfolding skip_comments
  comments_s = skip_s (fate stop wait) (stop_waits wait)

  pub discard_s : {s : St} → GoodS s → Sure Any (skip_comments_discard s)
  unfolding skip_comments_discard
  discard_s = skip_s (fate stop over) (stop_waits over)

  pub trivia_s : {s : St} → GoodS s → Sure Any (skip_trivia s)
  unfolding skip_trivia
  trivia_s = skip_s (fate over wait) (over_waits wait)

  pub closed_s : (k : Token) {s : St} → GoodS s → Sure Any (closed k s)
  unfolding closed
  closed_s k {s} g = when_s _ _ _ s (λ e. bind_s (next_s g) λ t s h g. sure tt g) (sure tt g)

  -- ---- the loop

  module _ {A B : Type 0} (U : A → Type 0) (Q : ℕ → B → Type 0) (e : B) (c : A → B → B) (end : P Bool) (p : P A)
      (qe : (n : ℕ) → Q (suc n) e) (qc : (n : ℕ) (a : A) (x : B) → U a → Q n x → Q (suc n) (c a x))
      (hs : (s : St) → GoodS s → Sure Any (end s)) (hp : (s : St) → GoodS s → Sure U (p s)) where
    loop_s : (n : ℕ) {s : St} → GoodS s → Sure (Q n) (loop e c end p n s)
    unfolding loop
    loop_s zero {s} g = fail_s _ s
    loop_s (suc n) {s} g =
        bind_s (hs s g) λ b s u g. test_s _ _ _ s (λ h. sure (qe n) g)
        (λ h. bind_s (hp s g) λ a s ha g. bind_s (loop_s n g) λ x s hx g. sure (qc n a x ha hx) g)

    many_s : {s : St} → GoodS s → Sure (Q most) (many e c end p s)
    unfolding many
    many_s = loop_s most

  module _ {A : Type 0} (U : A → Type 0) (end : P Bool) (p : P A) (hs : (s : St) → GoodS s → Sure Any (end s))
      (hp : (s : St) → GoodS s → Sure U (p s)) where
    list_s : {s : St} → GoodS s → Sure (Some U most) (many [] ◌∷◌ end p s)
    list_s =
        many_s U (Some U) [] ◌∷◌ end p (λ n. record { each = anil; few = omega arith })
        (λ n a x h k. record { each = acons h k.each; few = omega arith }) hs hp

  -- ---- types

  complex_s : (ks : List Token) (create : LOC → Lexeme → FieldType → FieldType) (d : ℕ) →
      ((l : LOC) (k : Lexeme) (t : FieldType) → Tok Good ks k → WfType Good d t → WfType Good (suc d) (create l k t)) →
      (p : P FieldType) → ((s : St) → GoodS s → Sure (WfType Good d) (p s)) →
      (t : Lexeme) → Tok Good ks t → {s : St} → GoodS s → Sure (WfType Good (suc d)) (complex_type create p t s)
  unfolding complex_type
  complex_s ks create d w p hp t ht g =
      bind_s (want_s _ 2 g) λ x s y g. bind_s (hp s g) λ a s ha g. bind_s (want_s _ 2 g) λ x s y g. bind_s (here_s g) λ e s y g. sure (w _ t a ht ha) g

  module _ (d : ℕ) (p : P FieldType) (hp : (s : St) → GoodS s → Sure (WfType Good d) (p s)) where
    map_type_s : (t : Lexeme) → Tok Good (T.Map ∷ []) t → {s : St} → GoodS s → Sure (WfType Good (suc d)) (map_type p t s)
    unfolding map_type
    map_type_s t ht g =
        bind_s (want_s _ 2 g) λ x s y g. bind_s (hp s g) λ a s ha g. bind_s (want_s _ 2 g) λ x s y g. bind_s (hp s g) λ b s hb g.
        bind_s (want_s _ 2 g) λ x s y g. bind_s (here_s g) λ e s y g. sure (wmap ht ha hb) g

    container_type_s : (t : Lexeme) → Tok Good container_types t → (s : St) → GoodS s → Sure (WfType Good (suc d)) (container_type p t s)
    unfolding container_type
    container_type_s t ht s g =
        test_s (is (kind t) T.List) _ _ s
        (λ e. complex_s (T.List ∷ []) ListType d (λ l k t. wlist) p hp t (record { kinds = single (kind t) T.List e; good = ht.good }) g)
        (λ n. test_s (is (kind t) T.Set) _ _ s
        (λ e. complex_s (T.Set ∷ []) SetType d (λ l k t. wset) p hp t (record { kinds = single (kind t) T.Set e; good = ht.good }) g)
        (λ m. map_type_s t (record { kinds = third (kind t) ht.kinds n m; good = ht.good }) g))

  type_by_s : (d : ℕ) (p : Lexeme → P FieldType) →
      ((t : Lexeme) → Tok Good container_types t → (s : St) → GoodS s → Sure (WfType Good d) (p t s)) →
      {s : St} → GoodS s → Sure (WfType Good d) (type_by p s)
  unfolding type_by
  type_by_s d p hp {s} g =
      needs_s 5 (type_step p) s
      (bind_s (next_s g) λ t s h g. test_s _ _ _ s (λ e. sure (wcommon (record { kinds = e; good = h })) g)
      (λ n. test_s _ _ _ s (λ e. hp t (record { kinds = e; good = h }) s g) (λ m. refuse_s 4 t s)))

  pub type_s : (d : ℕ) {s : St} → GoodS s → Sure (WfType Good d) (field_type d s)
  unfolding field_type
  type_s zero g = type_by_s zero (refuse 23) (λ t h s g. refuse_s 23 t s) g
  type_s (suc d) g = type_by_s (suc d) (container_type (field_type d)) (container_type_s d (field_type d) (λ s g. type_s d g)) g

  pub parse_type_s : {s : St} → GoodS s → Sure (WfType Good 32) (parse_type s)
  unfolding parse_type
  parse_type_s = type_s 32

  -- ---- values

  values_end_s : (k : Token) (s : St) → GoodS s → Sure Any (values_end k s)
  unfolding values_end
  values_end_s k s g = bind_s (separator_s g) λ u s v g. bind_s (discard_s g) λ u s v g. closed_s k g

  data WfProperty (d : ℕ) : Property → Type 0 where
    wproperty : {l : LOC} {k v : FieldInitialValue} → WfValue Good d k → WfValue Good d v → WfProperty d (property l k v)

  put_s : {d : ℕ} (n : ℕ) (a : Property) (x : Properties) → WfProperty d a → WfProperties Good d n x → WfProperties Good d (suc n) (put a x)
  unfolding put
  put_s n a x (wproperty h k) g = wpcons h k g

  module _ (d : ℕ) (p : P FieldInitialValue) (hp : (s : St) → GoodS s → Sure (WfValue Good d) (p s)) where
    property_s : (s : St) → GoodS s → Sure (WfProperty d) (map_property p s)
    unfolding map_property
    property_s s g =
        bind_s (start_s g) λ b s y g. bind_s (hp s g) λ k s hk g. bind_s (want_s _ 2 g) λ x s y g. bind_s (hp s g) λ v s hv g.
        bind_s (here_s g) λ e s y g. sure (wproperty hk hv) g

    list_value_s : (t : Lexeme) {s : St} → GoodS s → Sure (WfValue Good (suc d)) (list_value p t s)
    unfolding list_value
    list_value_s t g =
        bind_s (many_s (WfValue Good d) (WfElements Good d) nil cons (values_end T.RightBracket) p (λ n. wnil) (λ n a x h k. wcons h k) (values_end_s T.RightBracket) hp g) λ vs s hv g.
        bind_s (here_s g) λ e s y g. sure (wseq hv) g

    map_value_s : (t : Lexeme) {s : St} → GoodS s → Sure (WfValue Good (suc d)) (map_value p t s)
    unfolding map_value
    map_value_s t g =
        bind_s (many_s (WfProperty d) (WfProperties Good d) pnil put (values_end T.RightBrace) (map_property p) (λ n. wpnil) put_s (values_end_s T.RightBrace) property_s g) λ ps s hp g.
        bind_s (here_s g) λ e s y g. sure (wdict hp) g

    container_value_s : (t : Lexeme) (s : St) → GoodS s → Sure (WfValue Good (suc d)) (container_value p t s)
    unfolding container_value
    container_value_s t s g = test_s _ _ _ s (λ e. list_value_s t g) (λ e. map_value_s t g)

  value_by_s : (d : ℕ) (p : Lexeme → P FieldInitialValue) → ((t : Lexeme) (s : St) → GoodS s → Sure (WfValue Good d) (p t s)) →
      {s : St} → GoodS s → Sure (WfValue Good d) (value_by p s)
  unfolding value_by
  value_by_s d p hp g =
      bind_s (next_s g) λ t s h g. test_s _ _ _ s (λ e. sure (wleaf (record { kinds = e; good = h })) g)
      (λ n. test_s _ _ _ s (λ e. hp t s g) (λ m. refuse_s 6 t s))

  pub value_s : (d : ℕ) {s : St} → GoodS s → Sure (WfValue Good d) (field_value d s)
  unfolding field_value
  value_s zero g = value_by_s zero (refuse 23) (λ t s g. refuse_s 23 t s) g
  value_s (suc d) g = value_by_s (suc d) (container_value (field_value d)) (container_value_s d (field_value d) (λ s g. value_s d g)) g

  pub parse_value_s : {s : St} → GoodS s → Sure (WfValue Good 32) (parse_value s)
  unfolding parse_value
  parse_value_s = value_s 32

  -- ---- annotations

  one_separator_s : {s : St} → GoodS s → Sure Any (one_separator s)
  unfolding one_separator
  one_separator_s {s} g = when_s _ _ _ s (λ e. bind_s (next_s g) λ t s h g. sure tt g) (sure tt g)

  pub annotation_s : (s : St) → GoodS s → Sure (WfAnnotation Good) (parse_annotation s)
  unfolding parse_annotation
  annotation_s s g =
      bind_s (want_s _ 2 g) λ t s ht g. bind_s (want_s _ 2 g) λ x s y g. bind_s (want_s _ 2 g) λ v s hv g. bind_s (one_separator_s g) λ x s y g.
      sure (wannotation ht hv) g

  annotations_end_s : (s : St) → GoodS s → Sure Any (annotations_end s)
  unfolding annotations_end
  annotations_end_s s g = bind_s (discard_s g) λ u s v g. closed_s T.RightParen g

  pub annotations_s : {s : St} → GoodS s → Sure (WfAnnotations Good) (parse_annotations s)
  unfolding parse_annotations
  annotations_s {s} g =
      when_s _ _ _ s
      (λ e. bind_s (here_s g) λ p s y g. bind_s (next_s g) λ t s h g.
      bind_s (list_s (WfAnnotation Good) annotations_end parse_annotation annotations_end_s annotation_s g) λ xs s hx g.
      bind_s (here_s g) λ x s y g. sure (wannotations hx.each hx.few) g)
      (sure wabsent g)

  -- ---- fields

  field_id_s : {s : St} → GoodS s → Sure (WfId Good) (parse_field_id s)
  unfolding parse_field_id
  field_id_s {s} g =
      when_s _ _ _ s
      (λ e. bind_s (next_is (T.IntegerLiteral ∷ []) g e) λ t s h g.
      test_s _ _ _ s (λ o. bind_s (want_s _ 2 g) λ x s y g. sure (wid h o) g) (λ o. refuse_s 9 t s))
      (sure wnoid g)

  required_s : {s : St} → GoodS s → Sure Any (parse_required s)
  unfolding parse_required
  required_s {s} g =
      when_s _ _ _ s (λ e. bind_s (next_s g) λ t s h g. sure tt g) (when_s _ _ _ s (λ e. bind_s (next_s g) λ t s h g. sure tt g) (sure tt g))

  default_s : {s : St} → GoodS s → Sure (WfDefault Good) (parse_default s)
  unfolding parse_default
  default_s {s} g = when_s _ _ _ s (λ e. bind_s (next_s g) λ t s h g. bind_s (parse_value_s g) λ v s hv g. sure (wsome hv) g) (sure wnone g)

  pub field_s : (s : St) → GoodS s → Sure (WfField Good) (parse_field s)
  unfolding parse_field
  field_s s g =
      bind_s (taken_s g) λ c s hc g. bind_s (start_s g) λ p s y g. bind_s (field_id_s g) λ i s hi g. bind_s (required_s g) λ r s y g.
      bind_s (parse_type_s g) λ t s ht g. bind_s (want_s field_names 8 g) λ m s hm g. bind_s (default_s g) λ v s hv g.
      bind_s (annotations_s g) λ a s ha g. bind_s (here_s g) λ x s y g. sure (wfield hc hi ht hm hv ha) g

  members_end_s : (k : Token) (s : St) → GoodS s → Sure Any (members_end k s)
  unfolding members_end
  members_end_s k s g = bind_s (separator_s g) λ u s v g. bind_s (comments_s g) λ u s v g. closed_s k g

  pub members_s : {A : Type 0} (U : A → Type 0) (l r : Token) (p : P A) → ((s : St) → GoodS s → Sure U (p s)) →
      {s : St} → GoodS s → Sure (Some U most) (parse_members l r p s)
  unfolding parse_members
  members_s U l r p hp g = bind_s (want_s _ 2 g) λ x s y g. list_s U (members_end r) p (members_end_s r) hp g

  pub parameters_s : {s : St} → GoodS s → Sure (Some (WfField Good) most) (parse_parameters s)
  unfolding parse_parameters
  parameters_s = members_s (WfField Good) T.LeftParen T.RightParen parse_field field_s

  -- ---- functions

  throws_s : {s : St} → GoodS s → Sure (WfThrows Good) (parse_throws s)
  unfolding parse_throws
  throws_s {s} g =
      when_s _ _ _ s
      (λ e. bind_s (next_s g) λ t s h g. bind_s (parameters_s g) λ fs s hf g. sure (wthrows hf.each hf.few) g)
      (sure wquiet g)

  return_type_s : {s : St} → GoodS s → Sure (WfReturn Good) (parse_return_type s)
  unfolding parse_return_type
  return_type_s {s} g =
      when_s _ _ _ s (λ e. bind_s (next_is (T.Void ∷ []) g e) λ t s h g. sure (wvoid h) g) (needs_s 7 parse_type s (weak_s (λ a h. wtype h) (parse_type_s g)))

  oneway_s : {s : St} → GoodS s → Sure Any (parse_oneway s)
  unfolding parse_oneway
  oneway_s {s} g = when_s _ _ _ s (λ e. bind_s (next_s g) λ t s h g. sure tt g) (sure tt g)

  pub function_s : (s : St) → GoodS s → Sure (WfFunction Good) (parse_function s)
  unfolding parse_function
  function_s s g =
      bind_s (taken_s g) λ c s hc g. bind_s (oneway_s g) λ o s y g. bind_s (return_type_s g) λ t s ht g. bind_s (want_s _ 2 g) λ m s hm g.
      bind_s (parameters_s g) λ ps s hp g. bind_s (throws_s g) λ th s hth g. bind_s (trivia_s g) λ x s y g.
      bind_s (annotations_s g) λ a s ha g. bind_s (here_s g) λ x s y g.
      sure (wfunction hc ht hm hp.each hp.few hth ha) g

  -- ---- enum members

  initializer_s : {s : St} → GoodS s → Sure (WfOption Good (T.IntegerLiteral ∷ T.HexLiteral ∷ [])) (parse_initializer s)
  unfolding parse_initializer
  initializer_s {s} g = when_s _ _ _ s (λ e. bind_s (next_s g) λ x s y g. bind_s (want_s _ 6 g) λ t s h g. sure (wjust h) g) (sure wnothing g)

  pub member_s : (s : St) → GoodS s → Sure (WfMember Good) (parse_enum_member s)
  unfolding parse_enum_member
  member_s s g =
      bind_s (taken_s g) λ c s hc g. bind_s (want_s _ 19 g) λ m s hm g. bind_s (initializer_s g) λ v s hv g.
      bind_s (annotations_s g) λ a s ha g. bind_s (here_s g) λ x s y g. sure (wmember hc hm hv ha) g

  -- ---- definitions

  include_s : {s : St} → GoodS s → Sure (WfDefinition Good) (parse_include Include s)
  unfolding parse_include
  include_s g = bind_s (taken_s g) λ c s hc g. bind_s (next_s g) λ k s y g. bind_s (want_s _ 12 g) λ m s hm g. sure (winclude hc hm) g

  cpp_include_s : {s : St} → GoodS s → Sure (WfDefinition Good) (parse_include CppInclude s)
  unfolding parse_include
  cpp_include_s g = bind_s (taken_s g) λ c s hc g. bind_s (next_s g) λ k s y g. bind_s (want_s _ 12 g) λ m s hm g. sure (wcpp hc hm) g

  namespace_s : {s : St} → GoodS s → Sure (WfDefinition Good) (parse_namespace s)
  unfolding parse_namespace
  namespace_s g =
      bind_s (taken_s g) λ c s hc g. bind_s (next_s g) λ k s y g. bind_s (want_s _ 11 g) λ x s hx g. bind_s (want_s _ 10 g) λ m s hm g.
      sure (wnamespace hc hx hm) g

  const_s : {s : St} → GoodS s → Sure (WfDefinition Good) (parse_const s)
  unfolding parse_const
  const_s g =
      bind_s (taken_s g) λ c s hc g. bind_s (next_s g) λ k s y g. bind_s (parse_type_s g) λ t s ht g. bind_s (want_s _ 13 g) λ m s hm g.
      bind_s (want_s _ 2 g) λ x s y g. bind_s (parse_value_s g) λ v s hv g. bind_s (here_s g) λ x s y g. bind_s (trivia_s g) λ x s y g.
      sure (wconst hc ht hm hv) g

  typedef_s : {s : St} → GoodS s → Sure (WfDefinition Good) (parse_typedef s)
  unfolding parse_typedef
  typedef_s g =
      bind_s (taken_s g) λ c s hc g. bind_s (next_s g) λ k s y g. bind_s (parse_type_s g) λ t s ht g. bind_s (want_s _ 14 g) λ m s hm g.
      sure (wtypedef hc ht hm) g

  enum_s : {s : St} → GoodS s → Sure (WfDefinition Good) (parse_enum s)
  unfolding parse_enum
  enum_s g =
      bind_s (taken_s g) λ c s hc g. bind_s (next_s g) λ k s y g. bind_s (want_s _ 15 g) λ m s hm g.
      bind_s (members_s (WfMember Good) T.LeftBrace T.RightBrace parse_enum_member member_s g) λ xs s hx g.
      bind_s (annotations_s g) λ a s ha g. bind_s (here_s g) λ x s y g. sure (wenum hc hm hx.each hx.few ha) g

  structure_s : (k : Structure) {s : St} → GoodS s → Sure (WfDefinition Good) (parse_structure k s)
  unfolding parse_structure
  structure_s k g =
      bind_s (taken_s g) λ c s hc g. bind_s (next_s g) λ k s y g. bind_s (want_s _ 16 g) λ m s hm g.
      bind_s (members_s (WfField Good) T.LeftBrace T.RightBrace parse_field field_s g) λ fs s hf g.
      bind_s (annotations_s g) λ a s ha g. bind_s (here_s g) λ x s y g. sure (wstructure hc hm hf.each hf.few ha) g

  extends_s : {s : St} → GoodS s → Sure (WfOption Good (T.Identifier ∷ [])) (parse_extends s)
  unfolding parse_extends
  extends_s {s} g = when_s _ _ _ s (λ e. bind_s (next_s g) λ x s y g. bind_s (want_s _ 18 g) λ t s h g. sure (wjust h) g) (sure wnothing g)

  service_s : {s : St} → GoodS s → Sure (WfDefinition Good) (parse_service s)
  unfolding parse_service
  service_s g =
      bind_s (taken_s g) λ c s hc g. bind_s (next_s g) λ k s y g. bind_s (want_s _ 17 g) λ m s hm g. bind_s (extends_s g) λ x s hx g.
      bind_s (members_s (WfFunction Good) T.LeftBrace T.RightBrace parse_function function_s g) λ fs s hf g.
      bind_s (annotations_s g) λ a s ha g. bind_s (here_s g) λ e s y g. sure (wservice hc hm hx hf.each hf.few ha) g

  pub definition_s : (s : St) → GoodS s → Sure (WfDefinition Good) (parse_definition s)
  unfolding parse_definition
  definition_s s g =
      when_s _ _ _ s (λ e. include_s g)
      (when_s _ _ _ s (λ e. cpp_include_s g)
      (when_s _ _ _ s (λ e. namespace_s g)
      (when_s _ _ _ s (λ e. const_s g)
      (when_s _ _ _ s (λ e. typedef_s g)
      (when_s _ _ _ s (λ e. enum_s g)
      (when_s _ _ _ s (λ e. structure_s Struct g)
      (when_s _ _ _ s (λ e. structure_s Union g)
      (when_s _ _ _ s (λ e. structure_s Exception g)
      (when_s _ _ _ s (λ e. service_s g) (fail_s 2 s))))))))))

  -- ---- the document

  over_s : {s : St} → GoodS s → Sure Any (D.over s)
  unfolding D.over
  over_s (good {l = l} {c = d} c anil z) = test_s _ _ _ (pos l d []) (λ e. fail_s 1 (pos l d [])) (λ e. sure tt (good c anil z))
  over_s (good c (acons h hs) z) = sure tt (good c (acons h hs) z)

  pub document_end_s : (s : St) → GoodS s → Sure Any (document_end s)
  unfolding document_end
  document_end_s s g = bind_s (separator_s g) λ u s v g. bind_s (comments_s g) λ u s v g. bind_s (separator_s g) λ u s v g. over_s g

  pub document_s : {s : St} → GoodS s → Sure (Some (WfDefinition Good) most) (parse_document s)
  unfolding parse_document
  document_s = list_s (WfDefinition Good) document_end parse_definition document_end_s definition_s
