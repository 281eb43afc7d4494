-- The steps accept exactly what the IDL's productions derive, within d containers.
-- type_derives, value_derives: a run that derives a tree within d is read as that tree, and the rest is left (a value: of 65536 tokens at most, for the loop's count).
-- type_derived, value_derived: what is read is derived by such a run, and s is the state behind it.
-- types_exactly, values_exactly: both, as one statement each.
use mathlib.Core.Path.{◌≡◌, refl}
use mathlib.Core.Bool.{Bool, true, false, cond, false≢true}
use mathlib.Core.List.{List, [], ◌∷◌}
use mathlib.Core.Logic.{◌↔◌}
use Prim.Native.Nat.{ℕ, suc, zero, ◌<◌, ◌≤◌}
use native.Mathlib.Omega.{arith}
use lib.ListN.{length}
use Rattle.token.specs.Code.{code, is, among}
use Rattle.token.specs.declared.Token.{Token}
use Rattle.token.specs.declared.Token.TheVariants as T
use Rattle.lexer.specs.declared.location.LOC.{LOC}
use Rattle.lexer.specs.Tokens.{Lexeme, lexeme}
use Rattle.ast.specs.Ast.{
  FieldType,
  CommonType,
  ListType,
  SetType,
  MapType,
  FieldInitialValue,
  ConstValue,
  ConstList,
  ConstMap,
  Elements,
  nil,
  cons,
  Properties,
  pnil,
  pcons,
}
use Rattle.parser.specs.Steps.{
  separators,
  kind,
  place,
  span,
  St,
  pos,
  Raised,
  Res,
  ok,
  no,
  P,
  bind,
  test,
  peek,
  when,
  fail,
  needs,
  refuse,
  next,
  want,
  start,
  here,
  Fate,
  stop,
  over,
  fate,
  by,
  pass,
  skip,
  skip_separator,
  skip_comments_discard,
  closed,
  loop,
  many,
}
use Rattle.parser.specs.Types.{leaf_types, container_types, complex_type, map_type, container_type, type_by, field_type}
use Rattle.parser.proofs.TypeStep.{type_step}
use Rattle.parser.specs.Values.{
  leaf_values,
  openers,
  values_end,
  Property,
  property,
  put,
  map_property,
  list_value,
  map_value,
  container_value,
  value_by,
  field_value,
}
use Rattle.parser.proofs.Loops.{loop_end, loop_more}
use Rattle.parser.specs.Idl.{
  BaseType,
  DerivesType,
  WithinType,
  Constant,
  Separator,
  Comment,
  Comments,
  Gap,
  DerivesValue,
  DerivesElements,
  DerivesProperties,
  WithinValue,
  WithinElements,
  WithinProperties,
}
use Rattle.parser.proofs.Wf.{comment_kinds}
use Rattle.token.proofs.Codes.{same_kind}
use Rattle.parser.proofs.KindLaws.{either}

-- ---- kinds

-- of a kind that is among these, what holds of each of them
data Each (R : Token → Type 0) : List Token → Type 0 where
  enone : Each R []
  esome : {k : Token} {ks : List Token} → R k → Each R ks → Each R (k ∷ ks)

each : {R : Token → Type 0} {ks : List Token} → Each R ks → (k : Token) → among k ks ≡ true → R k
unfolding among
each enone k h = absurd (false≢true h)
each {R = R} (esome {k = j} {ks = ks} r rs) k h = either (is k j) (among k ks) h (λ e. rw (same_kind k j e) r) (λ e. each rs k e)

-- ---- what a reading from the tokens ts gives

-- a run that derives a, which is within bounds
record Derived {A : Type 0} (Derives : List Lexeme → A → LOC → List Lexeme → Type 0) (Within : A → Type 0)
    (ts : List Lexeme) (a : A) (e : LOC) (r : List Lexeme) : Type 0 where
  derives : Derives ts a e r
  within : Within a

-- a reading refuses, or gives what Q says of the value, the last token's place and the tokens left; the comments that wait stay
data Sound {A : Type 0} (Q : A → LOC → List Lexeme → Type 0) (c : List Lexeme) : Res A → Type 0 where
  sound : {a : A} {e : LOC} {r : List Lexeme} → Q a e r → Sound Q c (ok a (pos e c r))
  refused : {n : Raised} {l : LOC} → Sound Q c (no n l)

module _ {A : Type 0} {Q : A → LOC → List Lexeme → Type 0} {c : List Lexeme} where
  bind_sound : {B : Type 0} {U : B → LOC → List Lexeme → Type 0} {m : Res B} (k : B → P A) →
      Sound U c m → ((b : B) (e : LOC) (r : List Lexeme) → U b e r → Sound Q c (k b (pos e c r))) → Sound Q c (bind m k)
  unfolding bind
  bind_sound k (sound {a = a} {e = e} {r = r} h) f = f a e r h
  bind_sound k refused f = refused

  test_sound : (b : Bool) (p q : P A) (s : St) → (b ≡ true → Sound Q c (p s)) → (b ≡ false → Sound Q c (q s)) → Sound Q c (test b p q s)
  unfolding test
  test_sound true p q s f g = f refl
  test_sound false p q s f g = g refl

  fail_sound : (n : ℕ) (s : St) → Sound Q c (fail n s)
  unfolding fail
  fail_sound n (pos l d []) = refused
  fail_sound n (pos l d (t ∷ ts)) = refused

  needs_sound : (n : ℕ) (p : P A) (s : St) → Sound Q c (p s) → Sound Q c (needs n p s)
  needs_sound n p (pos l d []) h = refused
  needs_sound n p (pos l d (t ∷ ts)) h = h

  refuse_sound : (n : ℕ) (t : Lexeme) (s : St) → Sound Q c (refuse n t s)
  unfolding refuse
  refuse_sound n t s = refused

-- the first token
data First : List Lexeme → Lexeme → LOC → List Lexeme → Type 0 where
  first : {k : Token} {w : List ℕ} {l : LOC} {r : List Lexeme} → First (lexeme k w l ∷ r) (lexeme k w l) l r

-- the first token, which is a k
data Took (k : Token) : List Lexeme → Lexeme → LOC → List Lexeme → Type 0 where
  took : {w : List ℕ} {l : LOC} {r : List Lexeme} → Took k (lexeme k w l ∷ r) (lexeme k w l) l r

module _ (l : LOC) (c : List Lexeme) where
  next_sound : (ts : List Lexeme) → Sound (First ts) c (next (pos l c ts))
  unfolding next place
  next_sound [] = refused
  next_sound (lexeme k w p ∷ ts) = sound first

  took_sound : (k : Token) (ts : List Lexeme) → peek (k ∷ []) (pos l c ts) ≡ true → Sound (Took k ts) c (next (pos l c ts))
  unfolding next place peek kind
  took_sound k [] h = refused
  took_sound k (lexeme j w p ∷ ts) h = rw (each {R = λ j. j ≡ k} (esome refl enone) j h) (sound took)

  want_sound : (k : Token) (n : ℕ) (ts : List Lexeme) → Sound (Took k ts) c (want (k ∷ []) n (pos l c ts))
  unfolding want when
  want_sound k n ts = test_sound (peek (k ∷ []) (pos l c ts)) next (fail n) (pos l c ts) (took_sound k ts) (λ h. fail_sound n (pos l c ts))

-- the place of the last token, and nothing is taken
data Stays (l : LOC) (ts : List Lexeme) : LOC → LOC → List Lexeme → Type 0 where
  stays : Stays l ts l l ts

here_sound : (l : LOC) (c ts : List Lexeme) → Sound (Stays l ts) c (here (pos l c ts))
unfolding here
here_sound l c ts = sound stays

-- ---- types: what is read is derived

-- the kinds that are types by themselves
data Leaf : Token → Type 0 where
  named : Leaf T.Identifier
  word : {k : Token} → BaseType k → Leaf k

leaf_type : (k : Token) → among k leaf_types ≡ true → Leaf k
leaf_type = each (esome (word BaseType.binary) (esome (word BaseType.string) (esome (word BaseType.byte) (esome (word BaseType.i8) (esome (word BaseType.i16)
    (esome (word BaseType.i32) (esome (word BaseType.i64) (esome (word BaseType.double) (esome (word BaseType.bool) (esome named enone))))))))))

data Container : Token → Type 0 where
  list_word : Container T.List
  set_word : Container T.Set
  map_word : Container T.Map

container_type_law : (k : Token) → among k container_types ≡ true → Container k
container_type_law = each (esome list_word (esome map_word (esome set_word enone)))

abbrev TypeIn : ℕ → List Lexeme → FieldType → LOC → List Lexeme → Type 0
TypeIn d = Derived DerivesType (WithinType d)

common_made : {k : Token} (d : ℕ) {w : List ℕ} {l : LOC} {r : List Lexeme} → Leaf k → TypeIn d (lexeme k w l ∷ r) (CommonType (lexeme k w l)) l r
common_made d named = record { derives = DerivesType.identifier; within = WithinType.common }
common_made d (word h) = record { derives = DerivesType.base h; within = WithinType.common }

-- a container of one type: its keyword, `<`, a type that is derived, `>`
abbrev Made : ℕ → (LOC → Lexeme → FieldType → FieldType) → Token → Type 0
Made d create k =
    (a : FieldType) (w w1 w2 : List ℕ) (l l1 l2 e : LOC) (ts r : List Lexeme) → TypeIn d ts a e (lexeme T.RightAngle w2 l2 ∷ r) →
    TypeIn (suc d) (lexeme k w l ∷ lexeme T.LeftAngle w1 l1 ∷ ts) (create (span l l2) (lexeme k w l) a) l2 r

list_made : (d : ℕ) → Made d ListType T.List
list_made d a w w1 w2 l l1 l2 e ts r h = record { derives = DerivesType.list h.derives; within = WithinType.list h.within }

set_made : (d : ℕ) → Made d SetType T.Set
set_made d a w w1 w2 l l1 l2 e ts r h = record { derives = DerivesType.set h.derives; within = WithinType.set h.within }

complex_made : {d : ℕ} (create : LOC → Lexeme → FieldType → FieldType) {k : Token} → Made d create k →
    {w : List ℕ} {l m n e f g : LOC} {x y : Lexeme} {ts us xs vs r : List Lexeme} {a : FieldType} →
    Took T.LeftAngle ts x m us → TypeIn d us a n xs → Took T.RightAngle xs y e vs → Stays e vs f g r →
    TypeIn (suc d) (lexeme k w l ∷ ts) (create (span l f) (lexeme k w l) a) g r
complex_made create made took q took stays = made _ _ _ _ _ _ _ _ _ _ q

map_made : {d : ℕ} {w : List ℕ} {l g : LOC} {x y z : Lexeme} {ts us xs ys zs vs r : List Lexeme} {a b : FieldType} {m n o i e f : LOC} →
    Took T.LeftAngle ts x m us → TypeIn d us a n xs → Took T.Comma xs y o ys → TypeIn d ys b i zs → Took T.RightAngle zs z e vs → Stays e vs f g r →
    TypeIn (suc d) (lexeme T.Map w l ∷ ts) (MapType (span l f) (lexeme T.Map w l) a b) g r
map_made took q took v took stays = record { derives = DerivesType.map q.derives v.derives; within = WithinType.map q.within v.within }

module _ (d : ℕ) (p : P FieldType) (hp : (l : LOC) (c ts : List Lexeme) → Sound (TypeIn d ts) c (p (pos l c ts)))
    (l : LOC) (c : List Lexeme) (w : List ℕ) (b : LOC) (ts : List Lexeme) where
  complex_sound : (create : LOC → Lexeme → FieldType → FieldType) (k : Token) → Made d create k →
      Sound (TypeIn (suc d) (lexeme k w b ∷ ts)) c (complex_type create p (lexeme k w b) (pos l c ts))
  unfolding complex_type place
  complex_sound create k made =
      bind_sound _ (want_sound l c T.LeftAngle 2 ts) λ x e r h1. bind_sound _ (hp e c r) λ a e r h2. bind_sound _ (want_sound e c T.RightAngle 2 r) λ x e r h3.
      bind_sound _ (here_sound e c r) λ x e r h4. sound (complex_made create made h1 h2 h3 h4)

  map_sound : Sound (TypeIn (suc d) (lexeme T.Map w b ∷ ts)) c (map_type p (lexeme T.Map w b) (pos l c ts))
  unfolding map_type place
  map_sound =
      bind_sound _ (want_sound l c T.LeftAngle 2 ts) λ x e r h1. bind_sound _ (hp e c r) λ a e r h2. bind_sound _ (want_sound e c T.Comma 2 r) λ x e r h3.
      bind_sound _ (hp e c r) λ a e r h4. bind_sound _ (want_sound e c T.RightAngle 2 r) λ x e r h5.
      bind_sound _ (here_sound e c r) λ x e r h6. sound (map_made h1 h2 h3 h4 h5 h6)

  container_sound : (k : Token) → Container k → Sound (TypeIn (suc d) (lexeme k w b ∷ ts)) c (container_type p (lexeme k w b) (pos l c ts))
  unfolding container_type kind test is code
  container_sound k list_word = complex_sound ListType T.List (list_made d)
  container_sound k set_word = complex_sound SetType T.Set (set_made d)
  container_sound k map_word = map_sound

module _ (d : ℕ) (p : Lexeme → P FieldType)
    (hp : (l : LOC) (c : List Lexeme) (w : List ℕ) (b : LOC) (ts : List Lexeme) (k : Token) → Container k →
    Sound (TypeIn d (lexeme k w b ∷ ts)) c (p (lexeme k w b) (pos l c ts))) (l : LOC) (c : List Lexeme) where
  started_type : (ts : List Lexeme) (t : Lexeme) (e : LOC) (r : List Lexeme) → First ts t e r →
      Sound (TypeIn d ts) c (test (among (kind t) leaf_types) (λ s. ok (CommonType t) s) (test (among (kind t) container_types) (p t) (refuse 4 t)) (pos e c r))
  unfolding kind
  started_type _ t e r (first {k = k} {w = w}) =
      test_sound (among k leaf_types) _ _ (pos e c r) (λ h. sound (common_made d (leaf_type k h)))
      (λ n. test_sound (among k container_types) _ _ (pos e c r) (λ h. hp e c w e r k (container_type_law k h)) (λ m. refuse_sound 4 t (pos e c r)))

  type_by_sound : (ts : List Lexeme) → Sound (TypeIn d ts) c (type_by p (pos l c ts))
  unfolding type_by
  type_by_sound ts = needs_sound 5 (type_step p) (pos l c ts) (bind_sound _ (next_sound l c ts) (started_type ts))

type_sound : (d : ℕ) (l : LOC) (c ts : List Lexeme) → Sound (TypeIn d ts) c (field_type d (pos l c ts))
unfolding field_type
type_sound zero l c ts = type_by_sound zero (refuse 23) (λ l c w b ts k h. refuse_sound 23 (lexeme k w b) (pos l c ts)) l c ts
type_sound (suc d) l c ts = type_by_sound (suc d) (container_type (field_type d)) (container_sound d (field_type d) (type_sound d)) l c ts

-- ---- types: what is derived is read

read_common : (d : ℕ) (l : LOC) (c r : List Lexeme) (t : Lexeme) → among (kind t) leaf_types ≡ true → field_type d (pos l c (t ∷ r)) ≡ ok (CommonType t) (pos (place t) c r)
unfolding field_type type_by next bind test
read_common zero l c r t h = rw h
read_common (suc d) l c r t h = rw h

base_leaf : {k : Token} → BaseType k → among k leaf_types ≡ true
unfolding among is code
base_leaf BaseType.bool = refl
base_leaf BaseType.byte = refl
base_leaf BaseType.i8 = refl
base_leaf BaseType.i16 = refl
base_leaf BaseType.i32 = refl
base_leaf BaseType.i64 = refl
base_leaf BaseType.double = refl
base_leaf BaseType.string = refl
base_leaf BaseType.binary = refl

read_type : {d : ℕ} {ts : List Lexeme} {t : FieldType} {e : LOC} {r : List Lexeme} → DerivesType ts t e r → WithinType d t →
    (l : LOC) (c : List Lexeme) → field_type d (pos l c ts) ≡ ok t (pos e c r)
unfolding field_type type_by container_type complex_type map_type bind test next want when peek here kind place among is code
read_type {d} DerivesType.identifier WithinType.common l c = read_common d l c _ _ refl
read_type {d} (DerivesType.base h) WithinType.common l c = read_common d l c _ _ (base_leaf h)
read_type (DerivesType.list {l1 = l1} h) (WithinType.list {d = d} g) l c = rw (read_type {d = d} h g l1 c)
read_type (DerivesType.set {l1 = l1} h) (WithinType.set {d = d} g) l c = rw (read_type {d = d} h g l1 c)
read_type (DerivesType.map {l1 = l1} {l2 = l2} h i) (WithinType.map {d = d} g j) l c = rw (read_type {d = d} h g l1 c, read_type {d = d} i j l2 c)

-- ---- what is skipped is a gap

-- so many tokens of these kinds, and what is left
data Run (R : Token → Type 0) : List Lexeme → List Lexeme → Type 0 where
  ended : {r : List Lexeme} → Run R r r
  further : {k : Token} {w : List ℕ} {l : LOC} {ts r : List Lexeme} → R k → Run R ts r → Run R (lexeme k w l ∷ ts) r

-- only a token of these kinds is passed over
data Fated (R : Token → Type 0) (k : Token) : Fate → Type 0 where
  passed : R k → Fated R k over
  kept : Fated R k stop

separator_kind : (k : Token) → among k separators ≡ true → Separator k
separator_kind = each (esome Separator.comma (esome Separator.semicolon enone))

comment_kind : (k : Token) → among k comment_kinds ≡ true → Comment k
comment_kind = each (esome Comment.line (esome Comment.block enone))

fated_separator : (k : Token) → Fated Separator k (fate over stop k)
unfolding fate
fated_separator k = go (among k separators) (among k comment_kinds) (separator_kind k)
  where
    go : (a b : Bool) → (a ≡ true → Separator k) → Fated Separator k (cond a over (cond b stop stop))
    go true b h = passed (h refl)
    go false true h = kept
    go false false h = kept

fated_comment : (k : Token) → Fated Comment k (fate stop over k)
unfolding fate
fated_comment k = go (among k separators) (among k comment_kinds) (comment_kind k)
  where
    go : (a b : Bool) → (b ≡ true → Comment k) → Fated Comment k (cond a stop (cond b over stop))
    go true b h = kept
    go false true h = passed (h refl)
    go false false h = kept

-- what a skip leaves
abbrev Left : (Token → Type 0) → List Lexeme → Unit {0} → LOC → List Lexeme → Type 0
Left R ts u e r = Run R ts r

further_sound : {R : Token → Type 0} {c : List Lexeme} {k : Token} {w : List ℕ} {l : LOC} {ts : List Lexeme} → R k → {s : St} →
    Sound (Left R ts) c (ok tt s) → Sound (Left R (lexeme k w l ∷ ts)) c (ok tt s)
further_sound h (sound g) = sound (further h g)

module _ (R : Token → Type 0) (f : Token → Fate) (hf : (k : Token) → Fated R k (f k)) where
  by_sound : {x : Fate} (l p : LOC) (c : List Lexeme) (k : Token) (w : List ℕ) (ts : List Lexeme) (s u : St) → Fated R k x → Sound (Left R ts) c (ok tt s) →
      Sound (Left R (lexeme k w p ∷ ts)) c (ok tt (by x (pos l c (lexeme k w p ∷ ts)) s u))
  unfolding by
  by_sound l p c k w ts s u (passed h) g = further_sound h g
  by_sound l p c k w ts s u kept g = sound ended

  pass_sound : (l : LOC) (c ts : List Lexeme) → Sound (Left R ts) c (ok tt (pass f l c ts))
  unfolding pass kind place
  pass_sound l c [] = sound ended
  pass_sound l c (lexeme k w p ∷ ts) = by_sound l p c k w ts _ _ (hf k) (pass_sound p c ts)

  skip_sound : (l : LOC) (c ts : List Lexeme) → Sound (Left R ts) c (skip f (pos l c ts))
  unfolding skip
  skip_sound = pass_sound

separators_sound : (l : LOC) (c ts : List Lexeme) → Sound (Left Separator ts) c (skip_separator (pos l c ts))
unfolding skip_separator
separators_sound = skip_sound Separator (fate over stop) fated_separator

comments_sound : (l : LOC) (c ts : List Lexeme) → Sound (Left Comment ts) c (skip_comments_discard (pos l c ts))
unfolding skip_comments_discard
comments_sound = skip_sound Comment (fate stop over) fated_comment

run_comments : {ts r : List Lexeme} → Run Comment ts r → Comments ts r
run_comments ended = Comments.done
run_comments (further h g) = Comments.comment h (run_comments g)

run_gap : {ts us r : List Lexeme} → Run Separator ts us → Run Comment us r → Gap ts r
run_gap ended h = Gap.notes (run_comments h)
run_gap (further k g) h = Gap.separator k (run_gap g h)

-- ---- before an element

-- the closing bracket was taken, or there is none
data Ended (k : Token) (ts : List Lexeme) : Bool → LOC → List Lexeme → Type 0 where
  shut : {w : List ℕ} {l : LOC} {r : List Lexeme} → Gap ts (lexeme k w l ∷ r) → Ended k ts true l r
  goes_on : {l : LOC} {r : List Lexeme} → Gap ts r → Ended k ts false l r

shut_end : {k : Token} {ts us : List Lexeme} {x : Lexeme} {e : LOC} {r : List Lexeme} → Gap ts us → Took k us x e r → Ended k ts true e r
shut_end g took = shut g

module _ (k : Token) where
  closed_sound : (l : LOC) (c us ts : List Lexeme) → Gap ts us → Sound (Ended k ts) c (closed k (pos l c us))
  unfolding closed when
  closed_sound l c us ts g =
      test_sound (peek (k ∷ []) (pos l c us)) _ _ (pos l c us) (λ h. bind_sound _ (took_sound l c k us h) λ x e r y. sound (shut_end g y)) (λ h. sound (goes_on g))

  values_end_sound : (l : LOC) (c ts : List Lexeme) → Sound (Ended k ts) c (values_end k (pos l c ts))
  unfolding values_end
  values_end_sound l c ts = bind_sound _ (separators_sound l c ts) λ u m us g. bind_sound _ (comments_sound m c us) λ u n r h. closed_sound n c r ts (run_gap g h)

-- ---- the loop

module _ {A B : Type 0} (k : Token) (U : List Lexeme → A → LOC → List Lexeme → Type 0) (D : List Lexeme → B → LOC → List Lexeme → Type 0)
    (none : B) (some : A → B → B) (p : P A)
    (last : (w : List ℕ) (l : LOC) (ts r : List Lexeme) → Gap ts (lexeme k w l ∷ r) → D ts none l r)
    (more : (a : A) (b : B) (m n : LOC) (ts us xs r : List Lexeme) → Gap ts us → U us a m xs → D xs b n r → D ts (some a b) n r)
    (hp : (l : LOC) (c ts : List Lexeme) → Sound (U ts) c (p (pos l c ts))) where
  step_sound : (c : List Lexeme) (q : P B) → ((l : LOC) (ts : List Lexeme) → Sound (D ts) c (q (pos l c ts))) →
      (ts : List Lexeme) (b : Bool) (m : LOC) (us : List Lexeme) → Ended k ts b m us →
      Sound (D ts) c (test b (λ s. ok none s) (λ s. bind (p s) (λ a s. bind (q s) (λ x s. ok (some a x) s))) (pos m c us))
  unfolding test
  step_sound c q hq ts b m us (shut g) = sound (last _ _ _ _ g)
  step_sound c q hq ts b m us (goes_on g) = bind_sound _ (hp m c us) λ a i xs u. bind_sound _ (hq i xs) λ x j r v. sound (more _ _ _ _ _ _ _ _ g u v)

  loop_sound : (n : ℕ) (l : LOC) (c ts : List Lexeme) → Sound (D ts) c (loop none some (values_end k) p n (pos l c ts))
  unfolding loop
  loop_sound zero l c ts = fail_sound 3 (pos l c ts)
  loop_sound (suc n) l c ts = bind_sound _ (values_end_sound k l c ts) (step_sound c (loop none some (values_end k) p n) (λ l ts. loop_sound n l c ts) ts)

  many_sound : (l : LOC) (c ts : List Lexeme) → Sound (D ts) c (many none some (values_end k) p (pos l c ts))
  unfolding many
  many_sound = loop_sound 65537

-- ---- lengths

comments_length : {ts r : List Lexeme} → Comments ts r → length r ≤ length ts
comments_length Comments.done = omega arith
comments_length (Comments.comment h g) = let z = comments_length g in omega arith

gap_length : {ts r : List Lexeme} → Gap ts r → length r ≤ length ts
gap_length (Gap.notes h) = comments_length h
gap_length (Gap.separator h g) = let z = gap_length g in omega arith

mutual
  value_length : (v : FieldInitialValue) {ts : List Lexeme} {e : LOC} {r : List Lexeme} → DerivesValue ts v e r → length r < length ts
  value_length (ConstValue t) (DerivesValue.constant h) = omega arith
  value_length (ConstList l vs) (DerivesValue.list h) = let z = elements_length vs h in omega arith
  value_length (ConstMap l ps) (DerivesValue.map h) = let z = properties_length ps h in omega arith

  elements_length : (vs : Elements) {ts : List Lexeme} {e : LOC} {r : List Lexeme} → DerivesElements ts vs e r → length r < length ts
  elements_length nil (DerivesElements.close g) = let z = gap_length g in omega arith
  elements_length (cons v vs) (DerivesElements.more g h k) = let y = gap_length g in let z = value_length v h in let x = elements_length vs k in omega arith

  properties_length : (ps : Properties) {ts : List Lexeme} {e : LOC} {r : List Lexeme} → DerivesProperties ts ps e r → length r < length ts
  properties_length pnil (DerivesProperties.end g) = let z = gap_length g in omega arith
  properties_length (pcons l k v ps) (DerivesProperties.next g h i q) =
      let y = gap_length g in let z = value_length k h in let w = value_length v i in let x = properties_length ps q in omega arith

-- ---- values: what is read is derived

constant_kind : (k : Token) → among k leaf_values ≡ true → Constant k
constant_kind = each (esome Constant.literal (esome Constant.int (esome Constant.double (esome Constant.boolean (esome Constant.hex (esome Constant.identifier enone))))))

data Opener : Token → Type 0 where
  left_bracket : Opener T.LeftBracket
  left_brace : Opener T.LeftBrace

opener_kind : (k : Token) → among k openers ≡ true → Opener k
opener_kind = each (esome left_bracket (esome left_brace enone))

abbrev ValueIn : ℕ → List Lexeme → FieldInitialValue → LOC → List Lexeme → Type 0
ValueIn d = Derived DerivesValue (WithinValue d)

abbrev ElementsIn : ℕ → List Lexeme → Elements → LOC → List Lexeme → Type 0
ElementsIn d = Derived DerivesElements (WithinElements d)

abbrev PropertiesIn : ℕ → List Lexeme → Properties → LOC → List Lexeme → Type 0
PropertiesIn d = Derived DerivesProperties (WithinProperties d)

-- one property
data PropertyIn (d : ℕ) : List Lexeme → Property → LOC → List Lexeme → Type 0 where
  pair : {k v : FieldInitialValue} {q : Token} {w w1 : List ℕ} {b l m e : LOC} {us xs r : List Lexeme} →
      ValueIn d (lexeme q w b ∷ us) k m (lexeme T.Colon w1 l ∷ xs) → ValueIn d xs v e r → PropertyIn d (lexeme q w b ∷ us) (property (span b e) k v) e r

-- the place of the next token, and nothing is taken
data Started (l : LOC) : List Lexeme → LOC → LOC → List Lexeme → Type 0 where
  nothing : Started l [] l l []
  token : {k : Token} {w : List ℕ} {b : LOC} {ts : List Lexeme} → Started l (lexeme k w b ∷ ts) b l (lexeme k w b ∷ ts)

start_sound : (l : LOC) (c ts : List Lexeme) → Sound (Started l ts) c (start (pos l c ts))
unfolding start place
start_sound l c [] = sound nothing
start_sound l c (lexeme k w b ∷ ts) = sound token

property_made : {d : ℕ} {l b m n o i f g : LOC} {k v : FieldInitialValue} {y : Lexeme} {ts us xs ys zs r : List Lexeme} →
    Started l ts b m us → ValueIn d us k n xs → Took T.Colon xs y o ys → ValueIn d ys v i zs → Stays i zs f g r → PropertyIn d ts (property (span b f) k v) g r
property_made nothing h took q stays = absurd (omega (arith, value_length _ h.derives))
property_made token h took q stays = pair h q

element_more : {d : ℕ} (a : FieldInitialValue) (b : Elements) (m n : LOC) (ts us xs r : List Lexeme) → Gap ts us → ValueIn d us a m xs → ElementsIn d xs b n r → ElementsIn d ts (cons a b) n r
element_more a b m n ts us xs r g h k = record { derives = DerivesElements.more g h.derives k.derives; within = WithinElements.element h.within k.within }

property_more : {d : ℕ} (a : Property) (b : Properties) (m n : LOC) (ts us xs r : List Lexeme) → Gap ts us → PropertyIn d us a m xs → PropertiesIn d xs b n r → PropertiesIn d ts (put a b) n r
unfolding put
property_more a b m n ts us xs r g (pair h q) k =
    record { derives = DerivesProperties.next g h.derives q.derives k.derives; within = WithinProperties.property h.within q.within k.within }

list_value_made : {d : ℕ} {w : List ℕ} {l m f g : LOC} {vs : Elements} {ts us r : List Lexeme} → ElementsIn d ts vs m us → Stays m us f g r →
    ValueIn (suc d) (lexeme T.LeftBracket w l ∷ ts) (ConstList (span l f) vs) g r
list_value_made h stays = record { derives = DerivesValue.list h.derives; within = WithinValue.list h.within }

map_value_made : {d : ℕ} {w : List ℕ} {l m f g : LOC} {ps : Properties} {ts us r : List Lexeme} → PropertiesIn d ts ps m us → Stays m us f g r →
    ValueIn (suc d) (lexeme T.LeftBrace w l ∷ ts) (ConstMap (span l f) ps) g r
map_value_made h stays = record { derives = DerivesValue.map h.derives; within = WithinValue.map h.within }

module _ (d : ℕ) (p : P FieldInitialValue) (hp : (l : LOC) (c ts : List Lexeme) → Sound (ValueIn d ts) c (p (pos l c ts))) where
  property_sound : (l : LOC) (c ts : List Lexeme) → Sound (PropertyIn d ts) c (map_property p (pos l c ts))
  unfolding map_property
  property_sound l c ts =
      bind_sound _ (start_sound l c ts) λ b e r h1. bind_sound _ (hp e c r) λ k e r h2. bind_sound _ (want_sound e c T.Colon 2 r) λ x e r h3.
      bind_sound _ (hp e c r) λ v e r h4. bind_sound _ (here_sound e c r) λ x e r h5. sound (property_made h1 h2 h3 h4 h5)

  elements_sound : (l : LOC) (c ts : List Lexeme) → Sound (ElementsIn d ts) c (many nil cons (values_end T.RightBracket) p (pos l c ts))
  elements_sound =
      many_sound T.RightBracket (ValueIn d) (ElementsIn d) nil cons p (λ w l ts r g. record { derives = DerivesElements.close g; within = WithinElements.none })
      element_more hp

  properties_sound : (l : LOC) (c ts : List Lexeme) → Sound (PropertiesIn d ts) c (many pnil put (values_end T.RightBrace) (map_property p) (pos l c ts))
  properties_sound =
      many_sound T.RightBrace (PropertyIn d) (PropertiesIn d) pnil put (map_property p)
      (λ w l ts r g. record { derives = DerivesProperties.end g; within = WithinProperties.empty }) property_more property_sound

  container_value_sound : (l : LOC) (c : List Lexeme) (w : List ℕ) (b : LOC) (ts : List Lexeme) (k : Token) → Opener k →
      Sound (ValueIn (suc d) (lexeme k w b ∷ ts)) c (container_value p (lexeme k w b) (pos l c ts))
  unfolding container_value list_value map_value kind place test is code
  container_value_sound l c w b ts k left_bracket =
      bind_sound _ (elements_sound l c ts) λ vs e r h1. bind_sound _ (here_sound e c r) λ x e r h2. sound (list_value_made h1 h2)
  container_value_sound l c w b ts k left_brace =
      bind_sound _ (properties_sound l c ts) λ ps e r h1. bind_sound _ (here_sound e c r) λ x e r h2. sound (map_value_made h1 h2)

module _ (d : ℕ) (p : Lexeme → P FieldInitialValue)
    (hp : (l : LOC) (c : List Lexeme) (w : List ℕ) (b : LOC) (ts : List Lexeme) (k : Token) → Opener k →
    Sound (ValueIn d (lexeme k w b ∷ ts)) c (p (lexeme k w b) (pos l c ts))) (l : LOC) (c : List Lexeme) where
  started_value : (ts : List Lexeme) (t : Lexeme) (e : LOC) (r : List Lexeme) → First ts t e r →
      Sound (ValueIn d ts) c (test (among (kind t) leaf_values) (λ s. ok (ConstValue t) s) (test (among (kind t) openers) (p t) (refuse 6 t)) (pos e c r))
  unfolding kind
  started_value _ t e r (first {k = k} {w = w}) =
      test_sound (among k leaf_values) _ _ (pos e c r)
      (λ h. sound record { derives = DerivesValue.constant (constant_kind k h); within = WithinValue.constant })
      (λ n. test_sound (among k openers) _ _ (pos e c r) (λ h. hp e c w e r k (opener_kind k h)) (λ m. refuse_sound 6 t (pos e c r)))

  value_by_sound : (ts : List Lexeme) → Sound (ValueIn d ts) c (value_by p (pos l c ts))
  unfolding value_by
  value_by_sound ts = bind_sound _ (next_sound l c ts) (started_value ts)

value_sound : (d : ℕ) (l : LOC) (c ts : List Lexeme) → Sound (ValueIn d ts) c (field_value d (pos l c ts))
unfolding field_value
value_sound zero l c ts = value_by_sound zero (refuse 23) (λ l c w b ts k h. refuse_sound 23 (lexeme k w b) (pos l c ts)) l c ts
value_sound (suc d) l c ts = value_by_sound (suc d) (container_value (field_value d)) (container_value_sound d (field_value d) (value_sound d)) l c ts

-- ---- the skips pass over a gap

-- neither a separator nor a comment is first
data Halts : List Lexeme → Type 0 where
  halts : {k : Token} {w : List ℕ} {l : LOC} {r : List Lexeme} → fate over stop k ≡ stop → fate stop over k ≡ stop → Halts (lexeme k w l ∷ r)

separator_over : {k : Token} → Separator k → fate over stop k ≡ over
unfolding fate among is code
separator_over Separator.comma = refl
separator_over Separator.semicolon = refl

comment_over : {k : Token} → Comment k → fate stop over k ≡ over
unfolding fate among is code
comment_over Comment.line = refl
comment_over Comment.block = refl

comment_stop : {k : Token} → Comment k → fate over stop k ≡ stop
unfolding fate among is code
comment_stop Comment.line = refl
comment_stop Comment.block = refl

-- the skips pass over ts as far as us
record Skips (l : LOC) (c ts us : List Lexeme) : Type 0 where
  between : St
  at : LOC
  separators_past : skip_separator (pos l c ts) ≡ ok tt between
  comments_past : skip_comments_discard between ≡ ok tt (pos at c us)

record Discards (l : LOC) (c ts us : List Lexeme) : Type 0 where
  at : LOC
  past : skip_comments_discard (pos l c ts) ≡ ok tt (pos at c us)

module _ (c : List Lexeme) where
  no_separator : {ts us : List Lexeme} → Comments ts us → Halts us → (l : LOC) → skip_separator (pos l c ts) ≡ ok tt (pos l c ts)
  unfolding skip_separator skip pass kind by
  no_separator Comments.done (halts a b) l = rw a
  no_separator (Comments.comment h g) q l = rw (comment_stop h)

  discards : {ts us : List Lexeme} → Comments ts us → Halts us → (l : LOC) → Discards l c ts us
  unfolding skip_comments_discard skip pass kind place by
  discards Comments.done (halts a b) l = record { at = l; past = rw b }
  discards (Comments.comment {l = m} h g) q l = let z = discards g q m in record { at = z.at; past = rw (comment_over h) z.past }

  skips : {ts us : List Lexeme} → Gap ts us → Halts us → (l : LOC) → Skips l c ts us
  unfolding skip_separator skip pass kind place by
  skips (Gap.notes {ts = ts} h) q l =
      let z = discards h q l in record { between = pos l c ts; at = z.at; separators_past = no_separator h q l; comments_past = z.past }
  skips (Gap.separator {l = m} h g) q l =
      let z = skips g q m in record { between = z.between; at = z.at; separators_past = rw (separator_over h) z.separators_past; comments_past = z.comments_past }

-- behind the gap the loop's end is asked for
ends : (k : Token) {l : LOC} {c ts us : List Lexeme} (z : Skips l c ts us) → values_end k (pos l c ts) ≡ closed k (pos z.at c us)
unfolding values_end bind
ends k z = rw (z.separators_past, z.comments_past)

-- ---- values: what is derived is read

-- what ends a list of values, and what a value begins with
data Closer : Token → Type 0 where
  right_bracket : Closer T.RightBracket
  right_brace : Closer T.RightBrace

data Begins : Token → Type 0 where
  begins : {k : Token} → fate over stop k ≡ stop → fate stop over k ≡ stop → among k (T.RightBracket ∷ []) ≡ false → among k (T.RightBrace ∷ []) ≡ false →
      Begins k

data Opens : List Lexeme → Type 0 where
  opens : {k : Token} {w : List ℕ} {l : LOC} {r : List Lexeme} → Begins k → Opens (lexeme k w l ∷ r)

constant_begins : {k : Token} → Constant k → Begins k
unfolding fate among is code
constant_begins Constant.int = begins refl refl refl refl
constant_begins Constant.double = begins refl refl refl refl
constant_begins Constant.literal = begins refl refl refl refl
constant_begins Constant.identifier = begins refl refl refl refl
constant_begins Constant.boolean = begins refl refl refl refl
constant_begins Constant.hex = begins refl refl refl refl

value_opens : {ts : List Lexeme} {v : FieldInitialValue} {e : LOC} {r : List Lexeme} → DerivesValue ts v e r → Opens ts
unfolding fate among is code
value_opens (DerivesValue.constant h) = opens (constant_begins h)
value_opens (DerivesValue.list h) = opens (begins refl refl refl refl)
value_opens (DerivesValue.map h) = opens (begins refl refl refl refl)

-- the gap before a value, and the gap before the closing bracket
record Goes (k : Token) (l : LOC) (c ts us : List Lexeme) : Type 0 where
  at : LOC
  onward : values_end k (pos l c ts) ≡ ok false (pos at c us)

goes : {k : Token} {ts us : List Lexeme} → Closer k → Gap ts us → Opens us → (l : LOC) (c : List Lexeme) → Goes k l c ts us
unfolding closed when test peek kind
goes right_bracket g (opens (begins x y u v)) l c = let z = skips c g (halts x y) l in record { at = z.at; onward = rw u at (ends T.RightBracket z) }
goes right_brace g (opens (begins x y u v)) l c = let z = skips c g (halts x y) l in record { at = z.at; onward = rw v at (ends T.RightBrace z) }

shuts : {k : Token} {ts : List Lexeme} {w : List ℕ} {m : LOC} {r : List Lexeme} → Closer k → Gap ts (lexeme k w m ∷ r) → (l : LOC) (c : List Lexeme) →
    values_end k (pos l c ts) ≡ ok true (pos m c r)
unfolding closed when test peek kind bind next place fate among is code
shuts right_bracket g l c = ends T.RightBracket (skips c g (halts refl refl) l)
shuts right_brace g l c = ends T.RightBrace (skips c g (halts refl refl) l)

constant_leaf : {k : Token} → Constant k → among k leaf_values ≡ true
unfolding among is code
constant_leaf Constant.int = refl
constant_leaf Constant.double = refl
constant_leaf Constant.literal = refl
constant_leaf Constant.identifier = refl
constant_leaf Constant.boolean = refl
constant_leaf Constant.hex = refl

read_constant : (d : ℕ) (l : LOC) (c r : List Lexeme) (t : Lexeme) → among (kind t) leaf_values ≡ true → field_value d (pos l c (t ∷ r)) ≡ ok (ConstValue t) (pos (place t) c r)
unfolding field_value value_by next bind test
read_constant zero l c r t h = rw h
read_constant (suc d) l c r t h = rw h

read_property : (p : P FieldInitialValue) {k v : FieldInitialValue} {q : Token} {w w1 : List ℕ} {l b m o e : LOC} {c us xs r : List Lexeme} →
    p (pos l c (lexeme q w b ∷ us)) ≡ ok k (pos m c (lexeme T.Colon w1 o ∷ xs)) → p (pos o c xs) ≡ ok v (pos e c r) →
    map_property p (pos l c (lexeme q w b ∷ us)) ≡ ok (property (span b e) k v) (pos e c r)
unfolding map_property start want when peek test next bind here kind place among is code
read_property p h g = rw (h, g)

mutual
  unfolding field_value value_by container_value list_value map_value many put bind test next here kind place among is code

  read_value : {d : ℕ} {v : FieldInitialValue} → WithinValue d v → {ts : List Lexeme} {e : LOC} {r : List Lexeme} → DerivesValue ts v e r →
      length ts ≤ 65536 → (l : LOC) (c : List Lexeme) → field_value d (pos l c ts) ≡ ok v (pos e c r)
  read_value {d = d} WithinValue.constant (DerivesValue.constant h) q l c = read_constant d l c _ _ (constant_leaf h)
  read_value (WithinValue.list g) (DerivesValue.list {l = b} h) q l c = rw (read_elements g h 65537 (omega arith) (omega arith) b c)
  read_value (WithinValue.map g) (DerivesValue.map {l = b} h) q l c = rw (read_properties g h 65537 (omega arith) (omega arith) b c)

  read_elements : {d : ℕ} {vs : Elements} → WithinElements d vs → {ts : List Lexeme} {e : LOC} {r : List Lexeme} → DerivesElements ts vs e r →
      (n : ℕ) → length ts < n → n ≤ 65537 → (l : LOC) (c : List Lexeme) →
      loop nil cons (values_end T.RightBracket) (field_value d) n (pos l c ts) ≡ ok vs (pos e c r)
  read_elements WithinElements.none (DerivesElements.close g) zero q i l c = absurd (omega arith)
  read_elements WithinElements.none (DerivesElements.close g) (suc n) q i l c = loop_end nil cons _ _ n _ _ (shuts right_bracket g l c)
  read_elements (WithinElements.element gv gs) (DerivesElements.more g h k) zero q i l c = absurd (omega arith)
  read_elements (WithinElements.element {v = v} gv gs) (DerivesElements.more {d = m} g h k) (suc n) q i l c =
      let x = gap_length g in let y = value_length v h in let z = goes right_bracket g (value_opens h) l c in
      loop_more nil cons _ _ n _ _ _ _ _ _ z.onward (read_value gv h (omega arith) z.at c) (read_elements gs k n (omega arith) (omega arith) m c)

  read_properties : {d : ℕ} {ps : Properties} → WithinProperties d ps → {ts : List Lexeme} {e : LOC} {r : List Lexeme} → DerivesProperties ts ps e r →
      (n : ℕ) → length ts < n → n ≤ 65537 → (l : LOC) (c : List Lexeme) →
      loop pnil put (values_end T.RightBrace) (map_property (field_value d)) n (pos l c ts) ≡ ok ps (pos e c r)
  read_properties WithinProperties.empty (DerivesProperties.end g) zero q i l c = absurd (omega arith)
  read_properties WithinProperties.empty (DerivesProperties.end g) (suc n) q i l c = loop_end pnil put _ _ n _ _ (shuts right_brace g l c)
  read_properties (WithinProperties.property gk gv gs) (DerivesProperties.next g h j k) zero q i l c = absurd (omega arith)
  read_properties (WithinProperties.property {d = d} {k = x} {v = y} gk gv gs) (DerivesProperties.next {l = o} {d = m} g h j k) (suc n) q i l c =
      let a = gap_length g in let b = value_length x h in let e = value_length y j in let z = goes right_brace g (value_opens h) l c in
      loop_more pnil put _ _ n _ _ _ _ (property _ x y) _ z.onward
      (read_property (field_value d) (read_value gk h (omega arith) z.at c) (read_value gv j (omega arith) o c)) (read_properties gs k n (omega arith) (omega arith) m c)

-- ---- both ways

-- a run at the front of ts derives a, which is within bounds; s is the state behind its last token, with the same comments waiting
pub record Found {A : Type 0} (Derives : List Lexeme → A → LOC → List Lexeme → Type 0) (Within : A → Type 0) (c ts : List Lexeme) (a : A) (s : St) : Type 0 where
  pub last : LOC
  pub rest : List Lexeme
  pub state : s ≡ pos last c rest
  pub derives : Derives ts a last rest
  pub within : Within a

found : {A : Type 0} {Derives : List Lexeme → A → LOC → List Lexeme → Type 0} {Within : A → Type 0} {c ts : List Lexeme} {a : A} {s : St} →
    Sound (Derived Derives Within ts) c (ok a s) → Found Derives Within c ts a s
found (sound {e = e} {r = r} h) = record { last = e; rest = r; state = refl; derives = h.derives; within = h.within }

module _ (d : ℕ) (l : LOC) (c ts : List Lexeme) (t : FieldType) where
  pub type_derives : (e : LOC) (r : List Lexeme) → DerivesType ts t e r → WithinType d t → field_type d (pos l c ts) ≡ ok t (pos e c r)
  type_derives e r h g = read_type h g l c

  pub type_derived : (s : St) → field_type d (pos l c ts) ≡ ok t s → Found DerivesType (WithinType d) c ts t s
  type_derived s h = found (rw h at (type_sound d l c ts))

  pub types_exactly : (s : St) → (field_type d (pos l c ts) ≡ ok t s) ↔ Found DerivesType (WithinType d) c ts t s
  types_exactly s = (type_derived s, λ h. rw h.state (type_derives h.last h.rest h.derives h.within))

module _ (d : ℕ) (l : LOC) (c ts : List Lexeme) (v : FieldInitialValue) where
  pub value_derives : length ts ≤ 65536 → (e : LOC) (r : List Lexeme) → DerivesValue ts v e r → WithinValue d v → field_value d (pos l c ts) ≡ ok v (pos e c r)
  value_derives q e r h g = read_value g h q l c

  pub value_derived : (s : St) → field_value d (pos l c ts) ≡ ok v s → Found DerivesValue (WithinValue d) c ts v s
  value_derived s h = found (rw h at (value_sound d l c ts))

  pub values_exactly : length ts ≤ 65536 → (s : St) → (field_value d (pos l c ts) ≡ ok v s) ↔ Found DerivesValue (WithinValue d) c ts v s
  values_exactly q s = (value_derived s, λ h. rw h.state (value_derives q h.last h.rest h.derives h.within))
