-- The printed tokens read back as what was printed, places forgotten, and without what write_param drops.
use mathlib.Core.Path.{◌≡◌, refl, ap, sym, ◌∙◌}
use mathlib.Core.Bool.{Bool, true, false, cond, or-false}
use Rattle.std.specs.Prelude.{Option, None}
use mathlib.Core.List.{List, [], ◌∷◌, ◌++◌, append_assoc, append-nil}
use Prim.Native.Nat.{ℕ, suc, zero, ◌<◌}
use native.Mathlib.Omega.{arith}
use lib.ListN.{length, replicate}
use borrow.Author.Tests.{eq-eqb, eqb-true}
use Prim.Native.String.{String}
use Rattle.token.specs.Regex.{bytes as ascii}
use Rattle.token.specs.Code.{code, is, among}
use Rattle.token.specs.declared.Token.{Token}
use Rattle.token.specs.declared.Token.TheVariants as T
use Rattle.lexer.specs.declared.location.LOC.{LOC}
use Rattle.lexer.specs.Tokens.{Lexeme, lexeme}
use Rattle.ast.specs.Lists.{maps, opt, All, anil, acons}
use Rattle.ast.specs.Ast.{FieldType, FieldInitialValue, Elements, nil, cons, Properties, pnil, Annotation, Annotations, absent, annotations, Required, default, required, optional, Field, field, EnumMember, member, Function, function, Structure, Struct, Union, Exception, Definition, Include, CppInclude, Namespace, Const, Typedef, Enum, structure, Service}
use Rattle.ast.specs.Drop.{drop_field, drop_function, drop_params}
use Rattle.ast.specs.Move.{move_l, moves, move_type, move_value, move_elements, move_properties, move_annotation, move_annotations, move_field, move_member, move_function, move_definition, move}
use Rattle.ast.proofs.Forget.{nowhere, bare_l, bares, forget_type, forget_value, forget_elements, forget_properties, forget_annotation, forget_annotations, forget_field, forget_member, forget_function, forget_definition, forget}
use Rattle.parser.specs.Steps.{kind, place, St, pos, MissingTypeDeclaration, InvalidReturnType, raise, Res, ok, no, P, bind, test, peek, when, needs, next, want, start, here, taken, Fate, stop, over, wait, fate, by, pass, skip, skip_separator, skip_comments, skip_comments_discard, skip_trivia, closed, loop, many, separators}
use Rattle.parser.specs.Types.{leaf_types, container_types, complex_type, map_type, container_type, type_by, field_type}
use Rattle.parser.specs.Values.{leaf_values, openers, values_end, property, put, map_property, list_value, map_value, container_value, value_by, field_value}
use Rattle.parser.specs.Definitions as D
use Rattle.parser.specs.Definitions.{parse_type, parse_value, one_separator, parse_annotation, annotations_end, parse_annotations, parse_field_id, parse_required, parse_default, parse_field, members_end, parse_members, parse_parameters, parse_throws, parse_return_type, parse_oneway, parse_function, parse_initializer, parse_enum_member, parse_include, parse_namespace, parse_const, parse_typedef, parse_enum, parse_structure, parse_extends, parse_service, parse_definition, document_end, parse_document}
use Rattle.parser.proofs.Same.{kind_bare, bytes_bare, place_bare, span_nowhere}
use Rattle.parser.proofs.KindLaws.{either}
use Rattle.parser.proofs.FirstToken.{type_missing}
use Rattle.parser.proofs.Loops.{loop_end, loop_more}
use Rattle.parser.proofs.Wf.{comment_kinds, most, Tok, WfType, wcommon, wlist, wset, wmap, WfValue, wleaf, wseq, wdict, WfElements, wnil, wcons, WfProperties, wpnil, wpcons, WfAnnotation, wannotation, WfAnnotations, wabsent, wannotations, WfId, wnoid, wid, WfDefault, wnone, wsome, WfField, wfield, WfThrows, wquiet, wthrows, WfReturn, wvoid, wtype, WfFunction, wfunction, WfOption, wnothing, wjust, WfMember, wmember, WfDefinition, winclude, wcpp, wnamespace, wconst, wtypedef, wenum, wstructure, wservice}
use Rattle.writer.specs.Print.{Piece, gap, mark, word, note, own, keyword, space, line, comma, write_type, write_value, write_elements, more_elements, write_properties, more_properties, write_each, commas, nothing, write_annotation, write_annotations, write_comment, write_comments, write_id, write_required, write_default, write_field, write_param, write_initializer, write_member, write_throws, write_oneway, write_function, write_body, structure_keyword, write_extends, write_definition, pieces}
use Rattle.writer.proofs.Toks.{toks}

-- the state before the pieces r, with the comments c waiting
abbrev pub on : List Lexeme → List Piece → St
on c r = pos nowhere c (toks r)

-- ---- kinds

-- no kind is in both lists; every kind of the first is in the second
unfoldable apart : List Token → List Token → Bool
apart [] js = true
apart (k ∷ ks) js = cond (among k js) false (apart ks js)

unfoldable inside : List Token → List Token → Bool
inside [] js = true
inside (k ∷ ks) js = cond (among k js) (inside ks js) false

among_code : (k j : Token) (js : List Token) → code k ≡ code j → among k js ≡ among j js
unfolding among is
among_code k j [] e = refl
among_code k j (i ∷ js) e = rw (e, among_code k j js e)

cond_fst : (a b : Bool) → cond a false b ≡ true → (a ≡ false) × (b ≡ true)
cond_fst true b e = (cc, cc)
cond_fst false b e = (refl, e)

cond_snd : (a b : Bool) → cond a b false ≡ true → (a ≡ true) × (b ≡ true)
cond_snd true b e = (refl, e)
cond_snd false b e = (cc, cc)

is_code : (k j : Token) → is k j ≡ true → code k ≡ code j
unfolding is
is_code k j e = eqb-true (code k) (code j) e

nil_never : (k : Token) (a b : Bool) → among k [] ≡ true → a ≡ b
unfolding among
nil_never k a b e = cc

among_or : {X : Type 0} (k j : Token) (ks : List Token) → among k (j ∷ ks) ≡ true → (code k ≡ code j → X) → (among k ks ≡ true → X) → X
unfolding among
among_or k j ks h f g = either (is k j) (among k ks) h (λ e. f (is_code k j e)) g

apart_among : (ks js : List Token) → apart ks js ≡ true → (k : Token) → among k ks ≡ true → among k js ≡ false
unfolding apart
apart_among [] js e k h = nil_never k _ _ h
apart_among (j ∷ ks) js e k h =
    let z = cond_fst (among j js) (apart ks js) e in
    among_or k j ks h (λ q. among_code k j js q ∙ z.0) (λ q. apart_among ks js z.1 k q)

inside_among : (ks js : List Token) → inside ks js ≡ true → (k : Token) → among k ks ≡ true → among k js ≡ true
unfolding inside
inside_among [] js e k h = nil_never k _ _ h
inside_among (j ∷ ks) js e k h =
    let z = cond_snd (among j js) (inside ks js) e in
    among_or k j ks h (λ q. among_code k j js q ∙ z.0) (λ q. inside_among ks js z.1 k q)

is_among : (k j : Token) → is k j ≡ among k (j ∷ [])
unfolding among
is_among k j = sym (or-false (is k j))

-- ---- single tokens

gap_rt : (b : List ℕ) (r : List Piece) → toks (gap b ∷ r) ≡ toks r
unfolding toks
gap_rt b r = refl

own_toks : (t : Lexeme) (r : List Piece) → toks (own t ∷ r) ≡ bare_l t ∷ toks r
unfolding toks own move_l
own_toks (lexeme k w l) r = refl

is_self : (k : Token) → among k (k ∷ []) ≡ true
unfolding among is
is_self k = rw (eq-eqb (code k) (code k) refl)

module _ (c : List Lexeme) (r : List Piece) where
  next_own : (t : Lexeme) → next (on c (own t ∷ r)) ≡ ok (bare_l t) (on c r)
  unfolding next
  next_own t = simp (own_toks, place_bare)

  needs_own : {A : Type 0} (e : ℕ) (p : P A) (t : Lexeme) → needs e p (on c (own t ∷ r)) ≡ p (on c (own t ∷ r))
  needs_own e p t = simp own_toks

  next_mark : (k : Token) (b : ℕ) → next (on c (mark k b ∷ r)) ≡ ok (lexeme k (b ∷ []) nowhere) (on c r)
  unfolding next toks place
  next_mark k b = refl

  next_keyword : (k : Token) (s : String) → next (on c (keyword k s ∷ r)) ≡ ok (lexeme k (ascii s) nowhere) (on c r)
  unfolding next toks place keyword
  next_keyword k s = refl

  peek_own : (ks : List Token) (t : Lexeme) → peek ks (on c (own t ∷ r)) ≡ among (kind t) ks
  unfolding peek
  peek_own ks t = simp (own_toks, kind_bare)

  peek_mark : (ks : List Token) (k : Token) (b : ℕ) → peek ks (on c (mark k b ∷ r)) ≡ among k ks
  unfolding peek toks kind
  peek_mark ks k b = refl

  peek_keyword : (ks : List Token) (k : Token) (s : String) → peek ks (on c (keyword k s ∷ r)) ≡ among k ks
  unfolding peek toks kind keyword
  peek_keyword ks k s = refl

  want_mark : (k : Token) (b e : ℕ) → want (k ∷ []) e (on c (mark k b ∷ r)) ≡ ok (lexeme k (b ∷ []) nowhere) (on c r)
  unfolding want when test
  want_mark k b e = simp (peek_mark, is_self, next_mark)

start_rt : (r : List Piece) (c : List Lexeme) → start (on c r) ≡ ok nowhere (on c r)
unfolding start toks place
start_rt [] c = refl
start_rt (gap b ∷ r) c = start_rt r c
start_rt (mark k b ∷ r) c = refl
start_rt (word k b ∷ r) c = refl
start_rt (note k b ∷ r) c = refl

-- ---- the first token

-- the first token is one of these; none of these
pub record Opens (ks : List Token) (r : List Piece) : Type 0 where
  pub opens : (c : List Lexeme) → peek ks (on c r) ≡ true

pub record Free (ks : List Token) (r : List Piece) : Type 0 where
  pub free : (c : List Lexeme) → peek ks (on c r) ≡ false

peek_apart : (ks js : List Token) → apart ks js ≡ true → (l : LOC) (c ts : List Lexeme) → peek ks (pos l c ts) ≡ true → peek js (pos l c ts) ≡ false
unfolding peek
peek_apart ks js e l c [] h = refl
peek_apart ks js e l c (t ∷ ts) h = apart_among ks js e (kind t) h

peek_inside : (ks js : List Token) → inside ks js ≡ true → (l : LOC) (c ts : List Lexeme) → peek ks (pos l c ts) ≡ true → peek js (pos l c ts) ≡ true
unfolding peek
peek_inside ks js e l c [] h = cc
peek_inside ks js e l c (t ∷ ts) h = inside_among ks js e (kind t) h

opens_free : (ks js : List Token) → apart ks js ≡ true → {r : List Piece} → Opens ks r → Free js r
opens_free ks js e {r} h = record { free = λ c. peek_apart ks js e nowhere c (toks r) (h.opens c) }

opens_inside : (ks js : List Token) → inside ks js ≡ true → {r : List Piece} → Opens ks r → Opens js r
opens_inside ks js e {r} h = record { opens = λ c. peek_inside ks js e nowhere c (toks r) (h.opens c) }

opens_own : (ks : List Token) (t : Lexeme) → among (kind t) ks ≡ true → (r : List Piece) → Opens ks (own t ∷ r)
opens_own ks t h r = record { opens = λ c. peek_own c r ks t ∙ h }

opens_mark : (ks : List Token) (k : Token) (b : ℕ) → among k ks ≡ true → (r : List Piece) → Opens ks (mark k b ∷ r)
opens_mark ks k b h r = record { opens = λ c. peek_mark c r ks k b ∙ h }

free_mark : (ks : List Token) (k : Token) (b : ℕ) → among k ks ≡ false → (r : List Piece) → Free ks (mark k b ∷ r)
free_mark ks k b h r = record { free = λ c. peek_mark c r ks k b ∙ h }

free_gap : (ks : List Token) (b : List ℕ) {r : List Piece} → Free ks r → Free ks (gap b ∷ r)
free_gap ks b {r} h = record { free = λ c. rw (gap_rt b r) (h.free c) }

opens_keyword : (ks : List Token) (k : Token) (s : String) → among k ks ≡ true → (r : List Piece) → Opens ks (keyword k s ∷ r)
opens_keyword ks k s h r = record { opens = λ c. peek_keyword c r ks k s ∙ h }

opens_gap : (ks : List Token) (b : List ℕ) {r : List Piece} → Opens ks r → Opens ks (gap b ∷ r)
opens_gap ks b {r} h = record { opens = λ c. rw (gap_rt b r) (h.opens c) }

-- ---- the skips stay where there is nothing to skip

fate_separator : (x : Fate) (k : Token) → among k separators ≡ false → fate x stop k ≡ stop
unfolding fate
fate_separator x k h = rw h (go (among k comment_kinds))
  where
    go : (b : Bool) → cond b stop stop ≡ stop
    go true = refl
    go false = refl

fate_comment : (x : Fate) (k : Token) → among k comment_kinds ≡ false → fate stop x k ≡ stop
unfolding fate
fate_comment x k h = rw h (go (among k separators))
  where
    go : (b : Bool) → cond b stop stop ≡ stop
    go true = refl
    go false = refl

fate_neither : (x y : Fate) (k : Token) → among k separators ≡ false → among k comment_kinds ≡ false → fate x y k ≡ stop
unfolding fate
fate_neither x y k h g = rw (h, g)

module _ (l : LOC) (c : List Lexeme) where
  separator_stay : (ts : List Lexeme) → peek separators (pos l c ts) ≡ false → skip_separator (pos l c ts) ≡ ok tt (pos l c ts)
  unfolding skip_separator skip pass peek by
  separator_stay [] h = refl
  separator_stay (t ∷ ts) h = rw (fate_separator over (kind t) h)

  comments_stay : (ts : List Lexeme) → peek comment_kinds (pos l c ts) ≡ false → skip_comments (pos l c ts) ≡ ok tt (pos l c ts)
  unfolding skip_comments skip pass peek by
  comments_stay [] h = refl
  comments_stay (t ∷ ts) h = rw (fate_comment wait (kind t) h)

  discard_stay : (ts : List Lexeme) → peek comment_kinds (pos l c ts) ≡ false → skip_comments_discard (pos l c ts) ≡ ok tt (pos l c ts)
  unfolding skip_comments_discard skip pass peek by
  discard_stay [] h = refl
  discard_stay (t ∷ ts) h = rw (fate_comment over (kind t) h)

-- a comma is passed over
separator_comma : (c : List Lexeme) (b : List ℕ) (r : List Piece) → skip_separator (on c (comma ∷ gap b ∷ r)) ≡ skip_separator (on c r)
unfolding skip_separator skip pass toks kind place fate among is code by
separator_comma c b r = refl

-- ---- types

abbrev type_starts : List Token
type_starts = T.Binary ∷ T.String ∷ T.Byte ∷ T.I8 ∷ T.I16 ∷ T.I32 ∷ T.I64 ∷ T.Double ∷ T.Bool ∷ T.Identifier ∷ T.List ∷ T.Map ∷ T.Set ∷ []

abbrev value_starts : List Token
value_starts = T.StringLiteral ∷ T.IntegerLiteral ∷ T.DoubleLiteral ∷ T.BooleanLiteral ∷ T.HexLiteral ∷ T.Identifier ∷ T.LeftBracket ∷ T.LeftBrace ∷ []

record Kinds (k : Token) (j : Token) (ls cs : List Token) : Type 0 where
  noleaf : among k ls ≡ false
  container : among k cs ≡ true
  itself : is k j ≡ true

only : (k j : Token) → among k (j ∷ []) ≡ true → is k j ≡ true
only k j h = is_among k j ∙ h

differ : (k j i : Token) → apart (j ∷ []) (i ∷ []) ≡ true → among k (j ∷ []) ≡ true → is k i ≡ false
differ k j i e h = is_among k i ∙ apart_among (j ∷ []) (i ∷ []) e k h

module _ (k : Token) where
  list_kinds : among k (T.List ∷ []) ≡ true → Kinds k T.List leaf_types container_types
  unfolding apart inside among is code
  list_kinds h = record { noleaf = apart_among (T.List ∷ []) leaf_types refl k h; container = inside_among (T.List ∷ []) container_types refl k h; itself = only k T.List h }

  set_kinds : among k (T.Set ∷ []) ≡ true → Kinds k T.Set leaf_types container_types
  unfolding apart inside among is code
  set_kinds h = record { noleaf = apart_among (T.Set ∷ []) leaf_types refl k h; container = inside_among (T.Set ∷ []) container_types refl k h; itself = only k T.Set h }

  map_kinds : among k (T.Map ∷ []) ≡ true → Kinds k T.Map leaf_types container_types
  unfolding apart inside among is code
  map_kinds h = record { noleaf = apart_among (T.Map ∷ []) leaf_types refl k h; container = inside_among (T.Map ∷ []) container_types refl k h; itself = only k T.Map h }

  set_list : among k (T.Set ∷ []) ≡ true → is k T.List ≡ false
  unfolding apart among is code
  set_list h = differ k T.Set T.List refl h

  map_list : among k (T.Map ∷ []) ≡ true → is k T.List ≡ false
  unfolding apart among is code
  map_list h = differ k T.Map T.List refl h

  map_set : among k (T.Map ∷ []) ≡ true → is k T.Set ≡ false
  unfolding apart among is code
  map_set h = differ k T.Map T.Set refl h

module _ (Good : Token → List ℕ → Type 0) where
  want_own : {ks : List Token} {t : Lexeme} → Tok Good ks t → (e : ℕ) (c : List Lexeme) (r : List Piece) → want ks e (on c (own t ∷ r)) ≡ ok (bare_l t) (on c r)
  unfolding want when test
  want_own h e c r = simp (peek_own, h.kinds, next_own)

  pub type_rt : {d : ℕ} {t : FieldType} → WfType Good d t → (c : List Lexeme) (r : List Piece) → field_type d (on c (write_type t r)) ≡ ok (forget_type t) (on c r)
  unfolding field_type type_by container_type complex_type map_type write_type move_type bind test here
  type_rt {d = zero} (wcommon h) c r = simp (needs_own, next_own, kind_bare, h.kinds)
  type_rt {d = suc d} (wcommon h) c r = simp (needs_own, next_own, kind_bare, h.kinds)
  type_rt (wlist {k = k} {t = t} h g) c r = let z = list_kinds (kind k) h.kinds in
      simp (needs_own, next_own, kind_bare, z.noleaf, z.container, z.itself, want_mark, place_bare, span_nowhere, type_rt g c (mark T.RightAngle 62 ∷ r))
  type_rt (wset {k = k} h g) c r = let z = set_kinds (kind k) h.kinds in
      simp (needs_own, next_own, kind_bare, z.noleaf, z.container, set_list (kind k) h.kinds, z.itself, want_mark, place_bare, span_nowhere, type_rt g c (mark T.RightAngle 62 ∷ r))
  type_rt (wmap {k = k} {b = b} h g i) c r = let z = map_kinds (kind k) h.kinds in
      simp (
        needs_own,
        next_own,
        kind_bare,
        z.noleaf,
        z.container,
        map_list (kind k) h.kinds,
        map_set (kind k) h.kinds,
        want_mark,
        gap_rt,
        place_bare,
        span_nowhere,
        type_rt g c (comma ∷ space ∷ write_type b (mark T.RightAngle 62 ∷ r)),
        type_rt i c (mark T.RightAngle 62 ∷ r),
      )

-- ---- values

leaf_starts : (k : Token) → among k leaf_values ≡ true → among k value_starts ≡ true
unfolding inside among is code
leaf_starts k h = inside_among leaf_values value_starts refl k h

bracket_starts : among T.LeftBracket value_starts ≡ true
unfolding among is code
bracket_starts = refl

brace_starts : among T.LeftBrace value_starts ≡ true
unfolding among is code
brace_starts = refl

bracket_leaf : among T.LeftBracket leaf_values ≡ false
unfolding among is code
bracket_leaf = refl

brace_leaf : among T.LeftBrace leaf_values ≡ false
unfolding among is code
brace_leaf = refl

bracket_open : among T.LeftBracket openers ≡ true
unfolding among is code
bracket_open = refl

brace_open : among T.LeftBrace openers ≡ true
unfolding among is code
brace_open = refl

bracket_is : is T.LeftBracket T.LeftBracket ≡ true
unfolding is code
bracket_is = refl

brace_is : is T.LeftBrace T.LeftBracket ≡ false
unfolding is code
brace_is = refl

-- what shuts a list of values is no separator and no comment
record Shuts (k : Token) : Type 0 where
  noseparator : among k separators ≡ false
  nocomment : among k comment_kinds ≡ false

shuts_bracket : Shuts T.RightBracket
unfolding among is code
shuts_bracket = record { noseparator = refl; nocomment = refl }

shuts_brace : Shuts T.RightBrace
unfolding among is code
shuts_brace = record { noseparator = refl; nocomment = refl }

shuts_paren : Shuts T.RightParen
unfolding among is code
shuts_paren = record { noseparator = refl; nocomment = refl }

closed_stay : (k : Token) (s : St) → peek (k ∷ []) s ≡ false → closed k s ≡ ok false s
unfolding closed when test
closed_stay k s h = rw h

closed_mark : (k : Token) (b : ℕ) (c : List Lexeme) (r : List Piece) → closed k (on c (mark k b ∷ r)) ≡ ok true (on c r)
unfolding closed when test bind
closed_mark k b c r = simp (peek_mark, is_self, next_mark)

module _ (k : Token) where
  values_shut : Shuts k → (b : ℕ) (c : List Lexeme) (r : List Piece) → values_end k (on c (mark k b ∷ r)) ≡ ok true (on c r)
  unfolding values_end bind
  values_shut h b c r = simp (separator_stay, discard_stay, peek_mark, h.noseparator, h.nocomment, closed_mark)

  values_stay : (c : List Lexeme) {r : List Piece} → Free separators r → Free comment_kinds r → Free (k ∷ []) r → values_end k (on c r) ≡ ok false (on c r)
  unfolding values_end bind
  values_stay c {r} f g h = simp (separator_stay nowhere c (toks r) (f.free c), discard_stay nowhere c (toks r) (g.free c), closed_stay k (on c r) (h.free c))

  values_comma : (c : List Lexeme) {r : List Piece} → Free separators r → Free comment_kinds r → Free (k ∷ []) r → values_end k (on c (comma ∷ space ∷ r)) ≡ ok false (on c r)
  unfolding values_end bind
  values_comma c {r} f g h = simp (separator_comma, separator_stay nowhere c (toks r) (f.free c), discard_stay nowhere c (toks r) (g.free c), closed_stay k (on c r) (h.free c))

free_value : {r : List Piece} → Opens value_starts r → Free separators r × Free comment_kinds r × Free (T.RightBracket ∷ []) r × Free (T.RightBrace ∷ []) r
unfolding apart among is code
free_value h = (opens_free value_starts separators refl h, opens_free value_starts comment_kinds refl h, opens_free value_starts (T.RightBracket ∷ []) refl h, opens_free value_starts (T.RightBrace ∷ []) refl h)

property_rt : (p : P FieldInitialValue) (k v : FieldInitialValue) (c : List Lexeme) (r : List Piece) →
    p (on c (write_value k (mark T.Colon 58 ∷ space ∷ write_value v r))) ≡ ok (forget_value k) (on c (mark T.Colon 58 ∷ space ∷ write_value v r)) →
    p (on c (write_value v r)) ≡ ok (forget_value v) (on c r) →
    map_property p (on c (write_value k (mark T.Colon 58 ∷ space ∷ write_value v r))) ≡ ok (property nowhere (forget_value k) (forget_value v)) (on c r)
unfolding map_property bind here
property_rt p k v c r h g = simp (start_rt, h, want_mark, gap_rt, g, span_nowhere)

module _ (Good : Token → List ℕ → Type 0) where
  value_opens : {d : ℕ} {v : FieldInitialValue} → WfValue Good d v → (r : List Piece) → Opens value_starts (write_value v r)
  unfolding write_value
  value_opens (wleaf {t = t} h) r = opens_own value_starts t (leaf_starts (kind t) h.kinds) r
  value_opens (wseq h) r = opens_mark value_starts T.LeftBracket 91 bracket_starts _
  value_opens (wdict h) r = opens_mark value_starts T.LeftBrace 123 brace_starts _

  mutual
    unfolding field_value value_by container_value list_value map_value many write_value write_elements more_elements write_properties more_properties move_value move_elements move_properties bind test here kind place put

    pub value_rt : {d : ℕ} {v : FieldInitialValue} → WfValue Good d v → (c : List Lexeme) (r : List Piece) → field_value d (on c (write_value v r)) ≡ ok (forget_value v) (on c r)
    value_rt {d = zero} (wleaf h) c r = simp (next_own, kind_bare, h.kinds)
    value_rt {d = suc d} (wleaf h) c r = simp (next_own, kind_bare, h.kinds)
    value_rt (wseq k) c r = simp (next_mark, bracket_leaf, bracket_open, bracket_is, elements_rt k c r, span_nowhere)
    value_rt (wdict k) c r = simp (next_mark, brace_leaf, brace_open, brace_is, properties_rt k c r, span_nowhere)

    pub elements_rt : {d n : ℕ} {vs : Elements} → WfElements Good d n vs → (c : List Lexeme) (r : List Piece) →
        loop nil cons (values_end T.RightBracket) (field_value d) n (on c (write_elements vs (mark T.RightBracket 93 ∷ r))) ≡ ok (forget_elements vs) (on c r)
    elements_rt wnil c r = loop_end nil cons _ _ _ _ (on c r) (values_shut T.RightBracket shuts_bracket 93 c r)
    elements_rt (wcons {vs = vs} h k) c r = let q = more_elements vs (mark T.RightBracket 93 ∷ r) in let z = free_value (value_opens h q) in
        loop_more nil cons _ _ _ _ _ _ _ _ _ (values_stay T.RightBracket c z.0 z.1 z.2) (value_rt h c q) (more_elements_rt k c r)

    more_elements_rt : {d n : ℕ} {vs : Elements} → WfElements Good d n vs → (c : List Lexeme) (r : List Piece) →
        loop nil cons (values_end T.RightBracket) (field_value d) n (on c (more_elements vs (mark T.RightBracket 93 ∷ r))) ≡ ok (forget_elements vs) (on c r)
    more_elements_rt wnil c r = loop_end nil cons _ _ _ _ (on c r) (values_shut T.RightBracket shuts_bracket 93 c r)
    more_elements_rt (wcons {vs = vs} h k) c r = let q = more_elements vs (mark T.RightBracket 93 ∷ r) in let z = free_value (value_opens h q) in
        loop_more nil cons _ _ _ _ _ _ _ _ _ (values_comma T.RightBracket c z.0 z.1 z.2) (value_rt h c q) (more_elements_rt k c r)

    pub properties_rt : {d n : ℕ} {ps : Properties} → WfProperties Good d n ps → (c : List Lexeme) (r : List Piece) →
        loop pnil put (values_end T.RightBrace) (map_property (field_value d)) n (on c (write_properties ps (mark T.RightBrace 125 ∷ r))) ≡ ok (forget_properties ps) (on c r)
    properties_rt wpnil c r = loop_end pnil put _ _ _ _ (on c r) (values_shut T.RightBrace shuts_brace 125 c r)
    properties_rt (wpcons {d = d} {k = x} {v = y} {ps = ps} h g k) c r =
        let q = more_properties ps (mark T.RightBrace 125 ∷ r) in let u = mark T.Colon 58 ∷ space ∷ write_value y q in let z = free_value (value_opens h u) in
        loop_more pnil put _ _ _ _ _ _ _ _ _ (values_stay T.RightBrace c z.0 z.1 z.3) (property_rt (field_value d) x y c q (value_rt h c u) (value_rt g c q)) (more_properties_rt k c r)

    more_properties_rt : {d n : ℕ} {ps : Properties} → WfProperties Good d n ps → (c : List Lexeme) (r : List Piece) →
        loop pnil put (values_end T.RightBrace) (map_property (field_value d)) n (on c (more_properties ps (mark T.RightBrace 125 ∷ r))) ≡ ok (forget_properties ps) (on c r)
    more_properties_rt wpnil c r = loop_end pnil put _ _ _ _ (on c r) (values_shut T.RightBrace shuts_brace 125 c r)
    more_properties_rt (wpcons {d = d} {k = x} {v = y} {ps = ps} h g k) c r =
        let q = more_properties ps (mark T.RightBrace 125 ∷ r) in let u = mark T.Colon 58 ∷ space ∷ write_value y q in let z = free_value (value_opens h u) in
        loop_more pnil put _ _ _ _ _ _ _ _ _ (values_comma T.RightBrace c z.0 z.1 z.3) (property_rt (field_value d) x y c q (value_rt h c u) (value_rt g c q)) (more_properties_rt k c r)

-- ---- a loop reads what was printed, whatever the members are

-- reading x leaves a state at which the loop goes on as at r
pub record Leaves {A : Type 0} (end : P Bool) (r : List Piece) (m : Res A) (x : A) : Type 0 where
  pub held : List Lexeme
  pub left : List Lexeme
  pub says : m ≡ ok x (pos nowhere held left)
  pub onward : end (pos nowhere held left) ≡ end (on [] r)

module _ {A : Type 0} (end : P Bool) (p : P A) (norm : A → A) (between : List A → List Piece → List Piece) (write : A → List Piece → List Piece)
    (W : A → Type 0) (Calm : List Piece → Type 0) (enters : A → List Piece → St)
    (calm : (xs : List A) (r : List Piece) → All W xs → Calm r → Calm (between xs (write_each between write xs r)))
    (ahead : (xs : List A) (r : List Piece) → end (on [] (between xs r)) ≡ end (on [] r))
    (enter : (x : A) → W x → (r : List Piece) → end (on [] (write x r)) ≡ ok false (enters x r))
    (reads : (x : A) → W x → (r : List Piece) → Calm r → Leaves end r (p (enters x r)) (norm x)) where
  loop_rt : {xs : List A} → All W xs → (n : ℕ) → length xs < n → (r : List Piece) → Calm r → (t : St) → end (on [] r) ≡ ok true t →
      (s : St) → end s ≡ end (on [] (write_each between write xs r)) → loop [] ◌∷◌ end p n s ≡ ok (maps norm xs) t
  unfolding maps write_each
  loop_rt anil zero l r k t e s h = absurd (omega arith)
  loop_rt anil (suc n) l r k t e s h = loop_end [] ◌∷◌ end p n s t (h ∙ e)
  loop_rt (acons x xs) zero l r k t e s h = absurd (omega arith)
  loop_rt (acons {x = y} {xs = ys} x xs) (suc n) l r k t e s h =
      let q = between ys (write_each between write ys r) in
      let z = reads y x q (calm ys r xs k) in
      loop_more [] ◌∷◌ end p n s (enters y q) (pos nowhere z.held z.left) t (norm y) (maps norm ys) (h ∙ enter y x q) z.says
      (loop_rt xs n (omega arith) r k t e (pos nowhere z.held z.left) (z.onward ∙ ahead ys (write_each between write ys r)))

-- ---- annotations

paren_separator : among T.RightParen separators ≡ false
unfolding among is code
paren_separator = refl

comma_separator : among T.Comma separators ≡ true
unfolding among is code
comma_separator = refl

one_separator_rt : (xs : List Annotation) (c : List Lexeme) (r : List Piece) →
    one_separator (on c (commas xs (write_each commas write_annotation xs (mark T.RightParen 41 ∷ r)))) ≡ ok tt (on c (write_each commas write_annotation xs (mark T.RightParen 41 ∷ r)))
unfolding one_separator when test bind commas
one_separator_rt [] c r = unfold write_each in simp (peek_mark, paren_separator)
one_separator_rt (x ∷ xs) c r = simp (peek_mark, comma_separator, next_mark, gap_rt)

identifier_kinds : (k : Token) → among k (T.Identifier ∷ []) ≡ true → (among k comment_kinds ≡ false) × (among k (T.RightParen ∷ []) ≡ false)
unfolding apart among is code
identifier_kinds k h = (apart_among (T.Identifier ∷ []) comment_kinds refl k h, apart_among (T.Identifier ∷ []) (T.RightParen ∷ []) refl k h)

annotations_shut : (c : List Lexeme) (r : List Piece) → annotations_end (on c (mark T.RightParen 41 ∷ r)) ≡ ok true (on c r)
unfolding annotations_end bind
annotations_shut c r = simp (discard_stay, peek_mark, shuts_paren.nocomment, closed_mark)

module _ (Good : Token → List ℕ → Type 0) where
  annotation_rt : {x : Annotation} → WfAnnotation Good x → (xs : List Annotation) (c : List Lexeme) (r : List Piece) →
      parse_annotation (on c (write_each commas write_annotation (x ∷ xs) (mark T.RightParen 41 ∷ r))) ≡ ok (forget_annotation x) (on c (write_each commas write_annotation xs (mark T.RightParen 41 ∷ r)))
  unfolding parse_annotation write_each write_annotation move_annotation bind
  annotation_rt (wannotation h g) xs c r = simp (want_own Good h, want_own Good g, want_mark, gap_rt, one_separator_rt xs c r, place_bare, span_nowhere)

  annotation_stay : {x : Annotation} → WfAnnotation Good x → (xs : List Annotation) (c : List Lexeme) (r : List Piece) →
      annotations_end (on c (write_each commas write_annotation (x ∷ xs) r)) ≡ ok false (on c (write_each commas write_annotation (x ∷ xs) r))
  unfolding annotations_end write_each write_annotation bind
  annotation_stay (wannotation {n = n} h g) xs c r = let z = identifier_kinds (kind n) h.kinds in simp (discard_stay, closed_stay, peek_own, z.0, z.1)

  each_annotation_rt : {xs : List Annotation} → All (WfAnnotation Good) xs → (n : ℕ) → length xs < n → (c : List Lexeme) (r : List Piece) →
      loop [] ◌∷◌ annotations_end parse_annotation n (on c (write_each commas write_annotation xs (mark T.RightParen 41 ∷ r))) ≡ ok (maps forget_annotation xs) (on c r)
  unfolding maps
  each_annotation_rt anil zero l c r = absurd (omega arith)
  each_annotation_rt anil (suc n) l c r = unfold write_each in loop_end [] ◌∷◌ annotations_end parse_annotation n _ (on c r) (annotations_shut c r)
  each_annotation_rt (acons h k) zero l c r = absurd (omega arith)
  each_annotation_rt (acons {xs = xs} h k) (suc n) l c r =
      loop_more [] ◌∷◌ annotations_end parse_annotation n _ _ _ _ _ _ (annotation_stay h xs c (mark T.RightParen 41 ∷ r)) (annotation_rt h xs c r) (each_annotation_rt k n (omega arith) c r)

  pub annotations_rt : {a : Annotations} → WfAnnotations Good a → (c : List Lexeme) (r : List Piece) → Free (T.LeftParen ∷ []) r →
      parse_annotations (on c (write_annotations a r)) ≡ ok (forget_annotations a) (on c r)
  unfolding parse_annotations write_annotations move_annotations when test bind here many
  annotations_rt wabsent c r h = simp (h.free c)
  annotations_rt (wannotations k l) c r h = simp (gap_rt, peek_mark, is_self, next_mark, each_annotation_rt k 65537 l c r, span_nowhere)

-- ---- what members and definitions open with

abbrev starts : List Token
starts =
    T.IntegerLiteral ∷ T.Void ∷ T.Oneway ∷ T.Binary ∷ T.String ∷ T.Byte ∷ T.I8 ∷ T.I16 ∷ T.I32 ∷ T.I64 ∷ T.Double ∷ T.Bool ∷ T.Identifier ∷ T.List ∷ T.Map ∷ T.Set
    ∷ T.Include ∷ T.CppInclude ∷ T.Namespace ∷ T.Const ∷ T.Typedef ∷ T.Enum ∷ T.Struct ∷ T.Union ∷ T.Exception ∷ T.Service ∷ T.Required ∷ T.Optional ∷ []

pub record Clear (r : List Piece) : Type 0 where
  pub first : Opens starts r
  pub noseparator : Free separators r
  pub nocomment : Free comment_kinds r
  pub nobrace : Free (T.RightBrace ∷ []) r
  pub noparen : Free (T.RightParen ∷ []) r
  pub noleft : Free (T.LeftParen ∷ []) r
  pub nothrows : Free (T.Throws ∷ []) r

clear : {r : List Piece} → Opens starts r → Clear r
unfolding apart among is code
clear h = record {
  first = h;
  noseparator = opens_free starts separators refl h;
  nocomment = opens_free starts comment_kinds refl h;
  nobrace = opens_free starts (T.RightBrace ∷ []) refl h;
  noparen = opens_free starts (T.RightParen ∷ []) refl h;
  noleft = opens_free starts (T.LeftParen ∷ []) refl h;
  nothrows = opens_free starts (T.Throws ∷ []) refl h;
}

-- ---- comments

fate_waits : (x : Fate) (k : Token) → among k separators ≡ false → among k comment_kinds ≡ true → fate x wait k ≡ wait
unfolding fate
fate_waits x k h g = rw (h, g)

record Comment (k : Token) : Type 0 where
  noseparator : among k separators ≡ false
  noleft : among k (T.LeftParen ∷ []) ≡ false
  nothrows : among k (T.Throws ∷ []) ≡ false

comment_kinds_law : (k : Token) → among k comment_kinds ≡ true → Comment k
unfolding apart among is code
comment_kinds_law k h = record {
  noseparator = apart_among comment_kinds separators refl k h;
  noleft = apart_among comment_kinds (T.LeftParen ∷ []) refl k h;
  nothrows = apart_among comment_kinds (T.Throws ∷ []) refl k h;
}

note_toks : (t : Lexeme) (r : List Piece) → toks (write_comment t ∷ r) ≡ bare_l t ∷ toks r
unfolding toks write_comment move_l
note_toks (lexeme k w l) r = refl

peek_note : (c : List Lexeme) (r : List Piece) (ks : List Token) (t : Lexeme) → peek ks (on c (write_comment t ∷ r)) ≡ among (kind t) ks
unfolding peek
peek_note c r ks t = simp (note_toks, kind_bare)

pass_wait : (f : Token → Fate) (a : List Lexeme) (t : Lexeme) (ts : List Lexeme) → f (kind t) ≡ wait → pass f nowhere a (bare_l t ∷ ts) ≡ pass f nowhere (a ++ (bare_l t ∷ [])) ts
unfolding pass by
pass_wait f a t ts h = simp (kind_bare, h, place_bare)

module _ (c : List Lexeme) where
  comments_pass : (ts : List Lexeme) → peek comment_kinds (pos nowhere c ts) ≡ false → pass (fate stop wait) nowhere c ts ≡ pos nowhere c ts
  unfolding pass peek by
  comments_pass [] h = refl
  comments_pass (t ∷ ts) h = rw (fate_comment wait (kind t) h)

  trivia_pass : (ts : List Lexeme) → peek separators (pos nowhere c ts) ≡ false → peek comment_kinds (pos nowhere c ts) ≡ false → pass (fate over wait) nowhere c ts ≡ pos nowhere c ts
  unfolding pass peek by
  trivia_pass [] h g = refl
  trivia_pass (t ∷ ts) h g = rw (fate_neither over wait (kind t) h g)

module _ (Good : Token → List ℕ → Type 0) (ind : List ℕ) (q : List Piece) (h : Clear q) where
  module _ (f : Token → Fate) (waits : (k : Token) → among k comment_kinds ≡ true → f k ≡ wait)
      (stays : (c : List Lexeme) → pass f nowhere c (toks q) ≡ on c q) where
    pass_comments_law : {c : List Lexeme} → All (Tok Good comment_kinds) c → (a : List Lexeme) → pass f nowhere a (toks (write_comments ind c q)) ≡ on (a ++ bares c) q
    unfolding write_comments moves
    pass_comments_law anil a = rw (append-nil a) (stays a)
    pass_comments_law (acons {x = t} {xs = ts} g gs) a =
        simp (gap_rt, note_toks, pass_wait f a t (toks (write_comments ind ts q)) (waits (kind t) g.kinds)) (pass_comments_law gs (a ++ (bare_l t ∷ [])) ∙ simp append_assoc)

  comments_rt : {c : List Lexeme} → All (Tok Good comment_kinds) c → (a : List Lexeme) → skip_comments (on a (write_comments ind c q)) ≡ ok tt (on (a ++ bares c) q)
  unfolding skip_comments skip
  comments_rt g a =
      ap (ok tt)
      (pass_comments_law (fate stop wait) (λ k e. fate_waits stop k (comment_kinds_law k e).noseparator e) (λ c. comments_pass c (toks q) (h.nocomment.free c)) g a)

  trivia_rt : {c : List Lexeme} → All (Tok Good comment_kinds) c → (a : List Lexeme) → skip_trivia (on a (write_comments ind c q)) ≡ ok tt (on (a ++ bares c) q)
  unfolding skip_trivia skip
  trivia_rt g a =
      ap (ok tt)
      (pass_comments_law (fate over wait) (λ k e. fate_waits over k (comment_kinds_law k e).noseparator e)
      (λ c. trivia_pass c (toks q) (h.noseparator.free c) (h.nocomment.free c)) g a)

  free_comments : (ks : List Token) → ((k : Token) → among k comment_kinds ≡ true → among k ks ≡ false) → Free ks q →
      {c : List Lexeme} → All (Tok Good comment_kinds) c → Free ks (write_comments ind c q)
  unfolding write_comments
  free_comments ks e f anil = f
  free_comments ks e f (acons {x = t} g gs) = record { free = λ c. rw gap_rt (peek_note c _ ks t ∙ e (kind t) g.kinds) }

  members_stay : (k : Token) → Free (k ∷ []) q → (a : List Lexeme) → members_end k (on a q) ≡ ok false (on a q)
  unfolding members_end bind
  members_stay k f a =
      simp (separator_stay nowhere a (toks q) (h.noseparator.free a), comments_stay nowhere a (toks q) (h.nocomment.free a), closed_stay k (on a q) (f.free a))

  members_comments : (k : Token) → Free (k ∷ []) q → {c : List Lexeme} → All (Tok Good comment_kinds) c → members_end k (on [] (write_comments ind c q)) ≡ ok false (on (bares c) q)
  unfolding members_end bind
  members_comments k f {c} g =
      let z = free_comments separators (λ k e. (comment_kinds_law k e).noseparator) h.noseparator g in
      simp (separator_stay nowhere [] (toks (write_comments ind c q)) (z.free []), comments_rt g [], closed_stay k (on (bares c) q) (f.free (bares c)))

-- ---- fields

unfoldable pub notes_field : Field → List Lexeme
notes_field (field l c i q t n v a) = c

unfoldable pub core_field : List ℕ → Field → List Piece → List Piece
core_field ind (field l c i q t n v a) r =
    gap ind ∷ write_id i (write_required q (write_type t (space ∷ own n ∷ write_default v (write_annotations a (comma ∷ line ∷ r)))))

write_field_law : (ind : List ℕ) (f : Field) (r : List Piece) → write_field ind f r ≡ write_comments ind (notes_field f) (core_field ind f r)
unfolding write_field notes_field core_field
write_field_law ind (field l c i q t n v a) r = refl

type_free : {r : List Piece} → Opens type_starts r →
    Free (T.Required ∷ []) r × Free (T.Optional ∷ []) r × Free (T.Void ∷ []) r × Free (T.Oneway ∷ []) r × Opens starts r
unfolding apart inside among is code
type_free h = (
  opens_free type_starts (T.Required ∷ []) refl h,
  opens_free type_starts (T.Optional ∷ []) refl h,
  opens_free type_starts (T.Void ∷ []) refl h,
  opens_free type_starts (T.Oneway ∷ []) refl h,
  opens_inside type_starts starts refl h,
)

-- an id, or requiredness or a type without one
abbrev field_starts : List Token
field_starts = T.Required ∷ T.Optional ∷ type_starts

head_free : {r : List Piece} → Opens field_starts r → Free (T.IntegerLiteral ∷ []) r × Opens starts r
unfolding apart inside among is code
head_free h = (opens_free field_starts (T.IntegerLiteral ∷ []) refl h, opens_inside field_starts starts refl h)

leaf_type_starts : (k : Token) → among k leaf_types ≡ true → among k type_starts ≡ true
unfolding inside among is code
leaf_type_starts k h = inside_among leaf_types type_starts refl k h

container_starts : (k : Token) → among k container_types ≡ true → among k type_starts ≡ true
unfolding inside among is code
container_starts k h = inside_among container_types type_starts refl k h

integer_starts : (k : Token) → among k (T.IntegerLiteral ∷ []) ≡ true → among k starts ≡ true
unfolding inside among is code
integer_starts k h = inside_among (T.IntegerLiteral ∷ []) starts refl k h

identifier_starts : (k : Token) → among k (T.Identifier ∷ []) ≡ true → among k starts ≡ true
unfolding inside among is code
identifier_starts k h = inside_among (T.Identifier ∷ []) starts refl k h

optional_required : among T.Optional (T.Required ∷ []) ≡ false
unfolding among is code
optional_required = refl

free_annotations : (ks : List Token) → among T.LeftParen ks ≡ false → (a : Annotations) {r : List Piece} → Free ks r → Free ks (write_annotations a r)
unfolding write_annotations
free_annotations ks e absent h = h
free_annotations ks e (annotations l xs) h = free_gap ks (32 ∷ []) (free_mark ks T.LeftParen 40 e _)

paren_equals : among T.LeftParen (T.Equals ∷ []) ≡ false
unfolding among is code
paren_equals = refl

paren_throws : among T.LeftParen (T.Throws ∷ []) ≡ false
unfolding among is code
paren_throws = refl

-- what a comma is not
comma_free : (r : List Piece) → Free (T.Equals ∷ []) (comma ∷ r) × Free (T.LeftParen ∷ []) (comma ∷ r)
unfolding among is code
comma_free r = (free_mark (T.Equals ∷ []) T.Comma 44 refl r, free_mark (T.LeftParen ∷ []) T.Comma 44 refl r)

module _ (Good : Token → List ℕ → Type 0) where
  type_opens : {d : ℕ} {t : FieldType} → WfType Good d t → (r : List Piece) → Opens type_starts (write_type t r)
  unfolding write_type
  type_opens (wcommon {t = t} h) r = opens_own type_starts t (leaf_type_starts (kind t) h.kinds) r
  type_opens (wlist {k = k} h g) r = opens_own type_starts k (container_starts (kind k) (list_kinds (kind k) h.kinds).container) _
  type_opens (wset {k = k} h g) r = opens_own type_starts k (container_starts (kind k) (set_kinds (kind k) h.kinds).container) _
  type_opens (wmap {k = k} h g i) r = opens_own type_starts k (container_starts (kind k) (map_kinds (kind k) h.kinds).container) _

  parse_type_rt : {t : FieldType} → WfType Good 32 t → (c : List Lexeme) (r : List Piece) → parse_type (on c (write_type t r)) ≡ ok (forget_type t) (on c r)
  unfolding parse_type
  parse_type_rt h c r = type_rt Good h c r

  parse_value_rt : {v : FieldInitialValue} → WfValue Good 32 v → (c : List Lexeme) (r : List Piece) → parse_value (on c (write_value v r)) ≡ ok (forget_value v) (on c r)
  unfolding parse_value
  parse_value_rt h c r = value_rt Good h c r

  -- what stands behind an id, and opens a field without one
  head_opens : {t : FieldType} → WfType Good 32 t → (q : Required) (r : List Piece) → Opens field_starts (write_required q (write_type t r))
  unfolding write_required inside among is code
  head_opens h default r = opens_inside type_starts field_starts refl (type_opens h r)
  head_opens h required r = opens_keyword field_starts T.Required "required" refl _
  head_opens h optional r = opens_keyword field_starts T.Optional "optional" refl _

  field_opens : {i : Option Lexeme} → WfId Good i → {t : FieldType} → WfType Good 32 t → (q : Required) (r : List Piece) → Opens starts (write_id i (write_required q (write_type t r)))
  unfolding write_id
  field_opens wnoid y q r = (head_free (head_opens y q r)).1
  field_opens (wid {t = t} h g) y q r = opens_own starts t (integer_starts (kind t) h.kinds) _

  id_rt : {i : Option Lexeme} → WfId Good i → {t : FieldType} → WfType Good 32 t → (q : Required) (c : List Lexeme) (r : List Piece) →
      parse_field_id (on c (write_id i (write_required q (write_type t r)))) ≡ ok (opt bare_l i) (on c (write_required q (write_type t r)))
  unfolding parse_field_id write_id opt when test bind
  id_rt wnoid y q c r = simp ((head_free (head_opens y q r)).0.free c)
  id_rt (wid h g) y q c r = simp (peek_own, h.kinds, next_own, bytes_bare, g, want_mark, gap_rt)

  required_rt : {t : FieldType} → WfType Good 32 t → (q : Required) (c : List Lexeme) (r : List Piece) → parse_required (on c (write_required q (write_type t r))) ≡ ok q (on c (write_type t r))
  unfolding parse_required write_required when test bind
  required_rt h default c r = let z = type_free (type_opens h r) in simp (z.0.free c, z.1.free c)
  required_rt h required c r = simp (peek_keyword, is_self, next_keyword, gap_rt)
  required_rt h optional c r = simp (peek_keyword, optional_required, is_self, next_keyword, gap_rt)

  default_rt : {v : Option FieldInitialValue} → WfDefault Good v → (c : List Lexeme) (r : List Piece) → Free (T.Equals ∷ []) r → parse_default (on c (write_default v r)) ≡ ok (opt forget_value v) (on c r)
  unfolding parse_default write_default opt when test bind
  default_rt wnone c r h = simp (h.free c)
  default_rt (wsome g) c r h = simp (gap_rt, peek_mark, is_self, next_mark, parse_value_rt g c r)

  pub field_rt : (ind : List ℕ) {f : Field} → WfField Good f → (r : List Piece) → parse_field (on (bares (notes_field f)) (core_field ind f r)) ≡ ok (forget_field f) (on [] (comma ∷ line ∷ r))
  unfolding parse_field core_field notes_field taken bind here move_field
  field_rt ind (wfield {a = a} c i t n v a') r =
      let e = comma ∷ line ∷ r in let z = comma_free (line ∷ r) in
      simp (
        start_rt,
        gap_rt,
        id_rt i t,
        required_rt t,
        parse_type_rt t,
        want_own Good n,
        default_rt v [] (write_annotations a e) (free_annotations (T.Equals ∷ []) paren_equals a z.0),
        annotations_rt Good a' [] e z.1,
        span_nowhere,
      )

  pub param_rt : {f : Field} → WfField Good f → (r : List Piece) → Free (T.Equals ∷ []) r → Free (T.LeftParen ∷ []) r → parse_field (on [] (write_param f r)) ≡ ok (forget_field (drop_field f)) (on [] r)
  unfolding parse_field write_param taken bind here move_field drop_field moves write_required write_annotations move_annotations
  param_rt (wfield c i t n v a') r h g =
      simp (start_rt, gap_rt, id_rt i t default, required_rt t default, parse_type_rt t, want_own Good n, default_rt v [] r h, annotations_rt Good {a = absent} wabsent [] r g, span_nowhere)

-- ---- the fields of a structure, the members of an enum

members_comma : (k : Token) (b : List ℕ) (r : List Piece) → members_end k (on [] (comma ∷ gap b ∷ r)) ≡ members_end k (on [] r)
unfolding members_end
members_comma k b r = rw separator_comma

members_shut : (k : Token) → Shuts k → (b : ℕ) (r : List Piece) → members_end k (on [] (mark k b ∷ r)) ≡ ok true (on [] r)
unfolding members_end bind
members_shut k h b r = simp (separator_stay, comments_stay, peek_mark, h.noseparator, h.nocomment, closed_mark)

unfoldable pub notes_member : EnumMember → List Lexeme
notes_member (member l c n v a) = c

unfoldable pub core_member : List ℕ → EnumMember → List Piece → List Piece
core_member ind (member l c n v a) r = gap ind ∷ own n ∷ write_initializer v (write_annotations a (comma ∷ line ∷ r))

write_member_law : (ind : List ℕ) (x : EnumMember) (r : List Piece) → write_member ind x r ≡ write_comments ind (notes_member x) (core_member ind x r)
unfolding write_member notes_member core_member
write_member_law ind (member l c n v a) r = refl

abbrev Any : List Piece → Type 0
Any r = Unit {0}

module _ (Good : Token → List ℕ → Type 0) (ind : List ℕ) where
  notes_field_law : {f : Field} → WfField Good f → All (Tok Good comment_kinds) (notes_field f)
  unfolding notes_field
  notes_field_law (wfield c i t n v a) = c

  clear_field : {f : Field} → WfField Good f → (r : List Piece) → Clear (core_field ind f r)
  unfolding core_field
  clear_field (wfield {q = q} c i y n v a) r = clear (opens_gap starts ind (field_opens Good i y q _))

  enter_field : (f : Field) → WfField Good f → (r : List Piece) → members_end T.RightBrace (on [] (write_field ind f r)) ≡ ok false (on (bares (notes_field f)) (core_field ind f r))
  enter_field f h r = let z = clear_field h r in rw (write_field_law ind f r) (members_comments Good ind (core_field ind f r) z T.RightBrace z.nobrace (notes_field_law h))

  reads_field : (f : Field) → WfField Good f → (r : List Piece) → Any r → Leaves (members_end T.RightBrace) r (parse_field (on (bares (notes_field f)) (core_field ind f r))) (forget_field f)
  reads_field f h r u = record { held = []; left = toks (comma ∷ line ∷ r); says = field_rt Good ind h r; onward = members_comma T.RightBrace (10 ∷ []) r }

  fields_rt : {fs : List Field} → All (WfField Good) fs → length fs < most → (r : List Piece) →
      many [] ◌∷◌ (members_end T.RightBrace) parse_field (on [] (write_each nothing (write_field ind) fs (mark T.RightBrace 125 ∷ r))) ≡ ok (maps forget_field fs) (on [] r)
  unfolding many nothing
  fields_rt h l r =
      loop_rt (members_end T.RightBrace) parse_field forget_field nothing (write_field ind) (WfField Good) Any (λ f r. on (bares (notes_field f)) (core_field ind f r))
      (λ xs r w u. tt) (λ xs r. refl) enter_field reads_field h most l (mark T.RightBrace 125 ∷ r) tt (on [] r) (members_shut T.RightBrace shuts_brace 125 r) _ refl

  initializer_rt : {v : Option Lexeme} → WfOption Good (T.IntegerLiteral ∷ T.HexLiteral ∷ []) v → (c : List Lexeme) (r : List Piece) → Free (T.Equals ∷ []) r →
      parse_initializer (on c (write_initializer v r)) ≡ ok (opt bare_l v) (on c r)
  unfolding parse_initializer write_initializer opt when test bind
  initializer_rt wnothing c r h = simp (h.free c)
  initializer_rt (wjust g) c r h = simp (gap_rt, peek_mark, is_self, next_mark, want_own Good g)

  pub member_rt : {x : EnumMember} → WfMember Good x → (r : List Piece) → parse_enum_member (on (bares (notes_member x)) (core_member ind x r)) ≡ ok (forget_member x) (on [] (comma ∷ line ∷ r))
  unfolding parse_enum_member core_member notes_member taken bind here move_member
  member_rt (wmember {a = a} c n v a') r =
      let e = comma ∷ line ∷ r in let z = comma_free (line ∷ r) in
      simp (gap_rt, want_own Good n, initializer_rt v [] (write_annotations a e) (free_annotations (T.Equals ∷ []) paren_equals a z.0), annotations_rt Good a' [] e z.1, place_bare, span_nowhere)

  notes_member_law : {x : EnumMember} → WfMember Good x → All (Tok Good comment_kinds) (notes_member x)
  unfolding notes_member
  notes_member_law (wmember c n v a) = c

  clear_member : {x : EnumMember} → WfMember Good x → (r : List Piece) → Clear (core_member ind x r)
  unfolding core_member
  clear_member (wmember {n = n} c h v a) r = clear (opens_gap starts ind (opens_own starts n (identifier_starts (kind n) h.kinds) _))

  enter_member : (x : EnumMember) → WfMember Good x → (r : List Piece) → members_end T.RightBrace (on [] (write_member ind x r)) ≡ ok false (on (bares (notes_member x)) (core_member ind x r))
  enter_member x h r = let z = clear_member h r in rw (write_member_law ind x r) (members_comments Good ind (core_member ind x r) z T.RightBrace z.nobrace (notes_member_law h))

  reads_member : (x : EnumMember) → WfMember Good x → (r : List Piece) → Any r → Leaves (members_end T.RightBrace) r (parse_enum_member (on (bares (notes_member x)) (core_member ind x r))) (forget_member x)
  reads_member x h r u = record { held = []; left = toks (comma ∷ line ∷ r); says = member_rt h r; onward = members_comma T.RightBrace (10 ∷ []) r }

  members_rt : {xs : List EnumMember} → All (WfMember Good) xs → length xs < most → (r : List Piece) →
      many [] ◌∷◌ (members_end T.RightBrace) parse_enum_member (on [] (write_each nothing (write_member ind) xs (mark T.RightBrace 125 ∷ r))) ≡ ok (maps forget_member xs) (on [] r)
  unfolding many nothing
  members_rt h l r =
      loop_rt (members_end T.RightBrace) parse_enum_member forget_member nothing (write_member ind) (WfMember Good) Any (λ x r. on (bares (notes_member x)) (core_member ind x r))
      (λ xs r w u. tt) (λ xs r. refl) enter_member reads_member h most l (mark T.RightBrace 125 ∷ r) tt (on [] r) (members_shut T.RightBrace shuts_brace 125 r) _ refl

-- ---- parameters

maps_two : {A B C : Type 0} (f : A → B) (g : B → C) (xs : List A) → maps (λ x. g (f x)) xs ≡ maps g (maps f xs)
unfolding maps
maps_two f g [] = refl
maps_two f g (x ∷ xs) = ap (g (f x) ∷◌) (maps_two f g xs)

-- what may stand behind a parameter
record Ends (r : List Piece) : Type 0 where
  noequals : Free (T.Equals ∷ []) r
  noleft : Free (T.LeftParen ∷ []) r

ends_paren : (r : List Piece) → Ends (mark T.RightParen 41 ∷ r)
unfolding among is code
ends_paren r = record { noequals = free_mark (T.Equals ∷ []) T.RightParen 41 refl r; noleft = free_mark (T.LeftParen ∷ []) T.RightParen 41 refl r }

ahead_param : (xs : List Field) (r : List Piece) → members_end T.RightParen (on [] (commas xs r)) ≡ members_end T.RightParen (on [] r)
unfolding commas
ahead_param [] r = refl
ahead_param (x ∷ xs) r = members_comma T.RightParen (32 ∷ []) r

module _ (Good : Token → List ℕ → Type 0) where
  clear_param : {f : Field} → WfField Good f → (r : List Piece) → Clear (write_param f r)
  unfolding write_param write_required
  clear_param (wfield c i y n v a) r = clear (field_opens Good i y default _)

  enter_param : (f : Field) → WfField Good f → (r : List Piece) → members_end T.RightParen (on [] (write_param f r)) ≡ ok false (on [] (write_param f r))
  enter_param f h r = let z = clear_param h r in members_stay Good [] (write_param f r) z T.RightParen z.noparen []

  reads_param : (f : Field) → WfField Good f → (r : List Piece) → Ends r → Leaves (members_end T.RightParen) r (parse_field (on [] (write_param f r))) (forget_field (drop_field f))
  reads_param f h r e = record { held = []; left = toks r; says = param_rt Good h r e.noequals e.noleft; onward = refl }

  calm_param : (xs : List Field) (r : List Piece) → All (WfField Good) xs → Ends r → Ends (commas xs (write_each commas write_param xs r))
  unfolding commas write_each
  calm_param [] r h e = e
  calm_param (x ∷ xs) r h e = let z = comma_free (space ∷ write_param x (commas xs (write_each commas write_param xs r))) in record { noequals = z.0; noleft = z.1 }

  params_rt : {fs : List Field} → All (WfField Good) fs → length fs < most → (r : List Piece) →
      parse_parameters (on [] (mark T.LeftParen 40 ∷ write_each commas write_param fs (mark T.RightParen 41 ∷ r))) ≡ ok (maps forget_field (maps drop_field fs)) (on [] r)
  unfolding parse_parameters parse_members bind many
  params_rt {fs} h l r =
      rw (want_mark, ← maps_two drop_field forget_field fs)
      (loop_rt (members_end T.RightParen) parse_field (λ f. forget_field (drop_field f)) commas write_param (WfField Good) Ends (λ f r. on [] (write_param f r))
      calm_param ahead_param enter_param reads_param h most l (mark T.RightParen 41 ∷ r) (ends_paren r) (on [] r) (members_shut T.RightParen shuts_paren 41 r) _ refl)

  throws_rt : {th : Option (List Field)} → WfThrows Good th → (r : List Piece) → Free (T.Throws ∷ []) r →
      parse_throws (on [] (write_throws th r)) ≡ ok (opt (maps forget_field) (opt (maps drop_field) th)) (on [] r)
  unfolding parse_throws write_throws opt when test bind
  throws_rt wquiet r h = simp (h.free [])
  throws_rt (wthrows k l) r h = simp (gap_rt, peek_keyword, is_self, next_keyword, params_rt k l r)

-- ---- what may stand behind a function or a definition: comments, which skip_trivia may take early

pub record Calm (end : P Bool) (r : List Piece) : Type 0 where
  pub held : List Lexeme
  pub left : List Lexeme
  pub passes : skip_trivia (on [] r) ≡ ok tt (pos nowhere held left)
  pub noleft : peek (T.LeftParen ∷ []) (pos nowhere held left) ≡ false
  pub nextleft : Free (T.LeftParen ∷ []) r
  pub nothrows : Free (T.Throws ∷ []) r
  pub resumes : end (pos nowhere held left) ≡ end (on [] r)

unfoldable pub notes_function : Function → List Lexeme
notes_function (function l c o t n ps th a) = c

unfoldable pub core_function : List ℕ → Function → List Piece → List Piece
core_function ind (function l c o t n ps th a) r =
    gap ind ∷ write_oneway o (write_type t (space ∷ own n ∷ mark T.LeftParen 40
    ∷ write_each commas write_param ps (mark T.RightParen 41 ∷ write_throws th (write_annotations a (line ∷ r)))))

write_function_law : (ind : List ℕ) (f : Function) (r : List Piece) → write_function ind f r ≡ write_comments ind (notes_function f) (core_function ind f r)
unfolding write_function notes_function core_function
write_function_law ind (function l c o t n ps th a) r = refl

void_starts : (k : Token) → among k (T.Void ∷ []) ≡ true → (among k starts ≡ true) × (among k (T.Oneway ∷ []) ≡ false)
unfolding inside apart among is code
void_starts k h = (inside_among (T.Void ∷ []) starts refl k h, apart_among (T.Void ∷ []) (T.Oneway ∷ []) refl k h)

oneway_starts : among T.Oneway starts ≡ true
unfolding among is code
oneway_starts = refl

paren_trivia : (c : List Lexeme) (r : List Piece) → skip_trivia (on c (mark T.LeftParen 40 ∷ r)) ≡ ok tt (on c (mark T.LeftParen 40 ∷ r))
unfolding skip_trivia skip pass toks kind fate among is code by
paren_trivia c r = refl

absent_rt : (s : St) → peek (T.LeftParen ∷ []) s ≡ false → parse_annotations s ≡ ok absent s
unfolding parse_annotations when test
absent_rt s h = rw h

annotations_trivia : (c : List Lexeme) (l : LOC) (xs : List Annotation) (r : List Piece) →
    skip_trivia (on c (write_annotations (annotations l xs) r)) ≡ ok tt (on c (write_annotations (annotations l xs) r))
unfolding write_annotations
annotations_trivia c l xs r = simp (gap_rt, paren_trivia)

absent_skips : (r : List Piece) {s : St} → skip_trivia (on [] r) ≡ ok tt s → skip_trivia (on [] (write_annotations absent (line ∷ r))) ≡ ok tt s
unfolding write_annotations
absent_skips r h = rw gap_rt h

absent_reads : (s : St) → peek (T.LeftParen ∷ []) s ≡ false → parse_annotations s ≡ ok (forget_annotations absent) s
unfolding move_annotations
absent_reads s h = absent_rt s h

calm_shut : (r : List Piece) → Calm (members_end T.RightBrace) (mark T.RightBrace 125 ∷ r)
unfolding skip_trivia skip pass toks kind fate among is code by peek
calm_shut r = record {
  held = [];
  left = toks (mark T.RightBrace 125 ∷ r);
  passes = refl;
  noleft = refl;
  nextleft = free_mark (T.LeftParen ∷ []) T.RightBrace 125 refl r;
  nothrows = free_mark (T.Throws ∷ []) T.RightBrace 125 refl r;
  resumes = refl;
}

module _ (Good : Token → List ℕ → Type 0) where
  calm_comments : (end : P Bool) (ind : List ℕ) (q : List Piece) → Clear q → {c : List Lexeme} → All (Tok Good comment_kinds) c →
      end (on (bares c) q) ≡ ok false (on (bares c) q) → end (on [] (write_comments ind c q)) ≡ ok false (on (bares c) q) → Calm end (write_comments ind c q)
  calm_comments end ind q h {c} g a b = record {
    held = bares c;
    left = toks q;
    passes = trivia_rt Good ind q h g [];
    noleft = h.noleft.free (bares c);
    nextleft = free_comments Good ind q h (T.LeftParen ∷ []) (λ k e. (comment_kinds_law k e).noleft) h.noleft g;
    nothrows = free_comments Good ind q h (T.Throws ∷ []) (λ k e. (comment_kinds_law k e).nothrows) h.nothrows g;
    resumes = a ∙ sym b;
  }

  -- ---- functions

  -- what is read was there
  needs_ok : {A : Type 0} (e k : ℕ) (p : P A) (s u : St) (a : A) → ((l : LOC) (c : List Lexeme) → p (pos l c []) ≡ no (raise k None) l) → p s ≡ ok a u
      → needs e p s ≡ ok a u
  needs_ok e k p (pos l c []) u a z h = let y = z l c in let o : ◌≡◌ {A = ℕ} 0 1 = cc in absurd (omega arith)
  needs_ok e k p (pos l c (t ∷ ts)) u a z h = h

  return_rt : {t : FieldType} → WfReturn Good t → (c : List Lexeme) (r : List Piece) → parse_return_type (on c (write_type t r)) ≡ ok (forget_type t) (on c r)
  unfolding parse_return_type when test bind
  return_rt (wvoid h) c r = unfold write_type move_type in simp (peek_own, h.kinds, next_own)
  return_rt (wtype h) c r = let z = type_free (type_opens Good h r) in simp (z.2.free c, needs_ok InvalidReturnType MissingTypeDeclaration parse_type _ _ _ type_missing (parse_type_rt Good h c r))

  return_opens : {t : FieldType} → WfReturn Good t → (r : List Piece) → Opens starts (write_type t r) × Free (T.Oneway ∷ []) (write_type t r)
  return_opens (wvoid {t = t} h) r = let z = void_starts (kind t) h.kinds in
      unfold write_type in (opens_own starts t z.0 r, record { free = λ c. peek_own c r (T.Oneway ∷ []) t ∙ z.1 })
  return_opens (wtype h) r = let z = type_free (type_opens Good h r) in (z.4, z.3)

  oneway_rt : {t : FieldType} → WfReturn Good t → (o : Bool) (c : List Lexeme) (r : List Piece) → parse_oneway (on c (write_oneway o (write_type t r))) ≡ ok o (on c (write_type t r))
  unfolding parse_oneway write_oneway when test bind
  oneway_rt h true c r = simp (peek_keyword, is_self, next_keyword, gap_rt)
  oneway_rt h false c r = simp ((return_opens h r).1.free c)

  -- skip_trivia, then the annotations
  record Tail (end : P Bool) (a : Annotations) (r : List Piece) : Type 0 where
    between : St
    held : List Lexeme
    left : List Lexeme
    skips : skip_trivia (on [] (write_annotations a (line ∷ r))) ≡ ok tt between
    reads : parse_annotations between ≡ ok (forget_annotations a) (pos nowhere held left)
    onward : end (pos nowhere held left) ≡ end (on [] r)

  tail_rt : (end : P Bool) {a : Annotations} → WfAnnotations Good a → (r : List Piece) → Calm end r → Tail end a r
  tail_rt end wabsent r k = record {
    between = pos nowhere k.held k.left;
    held = k.held;
    left = k.left;
    skips = absent_skips r k.passes;
    reads = absent_reads (pos nowhere k.held k.left) k.noleft;
    onward = k.resumes;
  }
  tail_rt end (wannotations {l = l} {xs = xs} h g) r k = record {
    between = on [] (write_annotations (annotations l xs) (line ∷ r));
    held = [];
    left = toks r;
    skips = annotations_trivia [] l xs (line ∷ r);
    reads = annotations_rt Good {a = annotations l xs} (wannotations h g) [] (line ∷ r) (free_gap (T.LeftParen ∷ []) (10 ∷ []) k.nextleft) ∙ ap (λ (ts : List Lexeme). ok (forget_annotations (annotations l xs)) (pos nowhere [] ts)) (gap_rt (10 ∷ []) r);
    onward = refl;
  }

  pub function_rt : (end : P Bool) (ind : List ℕ) {f : Function} → WfFunction Good f → (r : List Piece) → Calm end r →
      Leaves end r (parse_function (on (bares (notes_function f)) (core_function ind f r))) (forget_function (drop_function f))
  unfolding parse_function core_function notes_function taken bind here move_function drop_function
  function_rt end ind (wfunction {a = a} c t n ps l th a') r k = let z = tail_rt end a' r k in record {
    held = z.held;
    left = z.left;
    says = simp (
      gap_rt,
      oneway_rt t,
      return_rt t,
      want_own Good n,
      params_rt Good ps l,
      throws_rt Good th (write_annotations a (line ∷ r)) (free_annotations (T.Throws ∷ []) paren_throws a (free_gap (T.Throws ∷ []) (10 ∷ []) k.nothrows)),
      z.skips,
      z.reads,
      place_bare,
      span_nowhere,
    );
    onward = z.onward;
  }

  module _ (ind : List ℕ) where
    notes_function_law : {f : Function} → WfFunction Good f → All (Tok Good comment_kinds) (notes_function f)
    unfolding notes_function
    notes_function_law (wfunction c t n ps l th a) = c

    clear_function : {f : Function} → WfFunction Good f → (r : List Piece) → Clear (core_function ind f r)
    unfolding core_function write_oneway
    clear_function (wfunction {o = true} c t n ps l th a) r = clear (opens_gap starts ind (opens_keyword starts T.Oneway "oneway" oneway_starts _))
    clear_function (wfunction {o = false} c t n ps l th a) r = clear (opens_gap starts ind (return_opens t _).0)

    enter_function : (f : Function) → WfFunction Good f → (r : List Piece) → members_end T.RightBrace (on [] (write_function ind f r)) ≡ ok false (on (bares (notes_function f)) (core_function ind f r))
    enter_function f h r =
        let z = clear_function h r in
        rw (write_function_law ind f r) (members_comments Good ind (core_function ind f r) z T.RightBrace z.nobrace (notes_function_law h))

    calm_function : (xs : List Function) (r : List Piece) → All (WfFunction Good) xs → Calm (members_end T.RightBrace) r →
        Calm (members_end T.RightBrace) (nothing xs (write_each nothing (write_function ind) xs r))
    unfolding nothing write_each
    calm_function [] r h k = k
    calm_function (f ∷ xs) r (acons h hs) k =
        let u = write_each nothing (write_function ind) xs r in let q = core_function ind f u in let z = clear_function h u in
        rw (write_function_law ind f u)
        (calm_comments (members_end T.RightBrace) ind q z (notes_function_law h) (members_stay Good ind q z T.RightBrace z.nobrace (bares (notes_function f)))
        (members_comments Good ind q z T.RightBrace z.nobrace (notes_function_law h)))

    functions_rt : {fs : List Function} → All (WfFunction Good) fs → length fs < most → (r : List Piece) →
        many [] ◌∷◌ (members_end T.RightBrace) parse_function (on [] (write_each nothing (write_function ind) fs (mark T.RightBrace 125 ∷ r))) ≡ ok (maps forget_function (maps drop_function fs)) (on [] r)
    unfolding many nothing
    functions_rt {fs} h l r =
        rw (← maps_two drop_function forget_function fs)
        (loop_rt (members_end T.RightBrace) parse_function (λ f. forget_function (drop_function f)) nothing (write_function ind) (WfFunction Good) (Calm (members_end T.RightBrace))
        (λ f r. on (bares (notes_function f)) (core_function ind f r)) calm_function (λ xs r. refl) enter_function (λ f h r k. function_rt (members_end T.RightBrace) ind h r k)
        h most l (mark T.RightBrace 125 ∷ r) (calm_shut r) (on [] r) (members_shut T.RightBrace shuts_brace 125 r) _ refl)

-- ---- definitions

unfoldable pub notes_definition : Definition → List Lexeme
notes_definition (Include l c n) = c
notes_definition (CppInclude l c n) = c
notes_definition (Namespace l c s n) = c
notes_definition (Const l c t n v) = c
notes_definition (Typedef l c t n) = c
notes_definition (Enum l c n ms a) = c
notes_definition (structure s l c n fs a) = c
notes_definition (Service l c n x fs a) = c

unfoldable pub core_definition : List ℕ → Definition → List Piece → List Piece
core_definition ind (Include l c n) r = keyword T.Include "include" ∷ space ∷ own n ∷ line ∷ r
core_definition ind (CppInclude l c n) r = keyword T.CppInclude "cpp_include" ∷ space ∷ own n ∷ line ∷ r
core_definition ind (Namespace l c s n) r = keyword T.Namespace "namespace" ∷ space ∷ own s ∷ space ∷ own n ∷ line ∷ r
core_definition ind (Const l c t n v) r = keyword T.Const "const" ∷ space ∷ write_type t (space ∷ own n ∷ space ∷ mark T.Equals 61 ∷ space ∷ write_value v (line ∷ r))
core_definition ind (Typedef l c t n) r = keyword T.Typedef "typedef" ∷ space ∷ write_type t (space ∷ own n ∷ line ∷ r)
core_definition ind (Enum l c n ms a) r = keyword T.Enum "enum" ∷ space ∷ own n ∷ write_body (write_member ind) ms a r
core_definition ind (structure s l c n fs a) r = structure_keyword s ∷ space ∷ own n ∷ write_body (write_field ind) fs a r
core_definition ind (Service l c n x fs a) r = keyword T.Service "service" ∷ space ∷ own n ∷ write_extends x (write_body (write_function ind) fs a r)

pub write_definition_law : (ind : List ℕ) (d : Definition) (r : List Piece) → write_definition ind d r ≡ write_comments [] (notes_definition d) (core_definition ind d r)
unfolding write_definition notes_definition core_definition
write_definition_law ind (Include l c n) r = refl
write_definition_law ind (CppInclude l c n) r = refl
write_definition_law ind (Namespace l c s n) r = refl
write_definition_law ind (Const l c t n v) r = refl
write_definition_law ind (Typedef l c t n) r = refl
write_definition_law ind (Enum l c n ms a) r = refl
write_definition_law ind (structure s l c n fs a) r = refl
write_definition_law ind (Service l c n x fs a) r = refl

-- the reader is chosen by the keyword
module _ (c : List Lexeme) (s : String) (r : List Piece) where
  pick_include : parse_definition (on c (keyword T.Include s ∷ r)) ≡ parse_include Include (on c (keyword T.Include s ∷ r))
  unfolding parse_definition when test peek toks kind keyword among is code
  pick_include = refl

  pick_cpp : parse_definition (on c (keyword T.CppInclude s ∷ r)) ≡ parse_include CppInclude (on c (keyword T.CppInclude s ∷ r))
  unfolding parse_definition when test peek toks kind keyword among is code
  pick_cpp = refl

  pick_namespace : parse_definition (on c (keyword T.Namespace s ∷ r)) ≡ parse_namespace (on c (keyword T.Namespace s ∷ r))
  unfolding parse_definition when test peek toks kind keyword among is code
  pick_namespace = refl

  pick_const : parse_definition (on c (keyword T.Const s ∷ r)) ≡ parse_const (on c (keyword T.Const s ∷ r))
  unfolding parse_definition when test peek toks kind keyword among is code
  pick_const = refl

  pick_typedef : parse_definition (on c (keyword T.Typedef s ∷ r)) ≡ parse_typedef (on c (keyword T.Typedef s ∷ r))
  unfolding parse_definition when test peek toks kind keyword among is code
  pick_typedef = refl

  pick_enum : parse_definition (on c (keyword T.Enum s ∷ r)) ≡ parse_enum (on c (keyword T.Enum s ∷ r))
  unfolding parse_definition when test peek toks kind keyword among is code
  pick_enum = refl

  pick_service : parse_definition (on c (keyword T.Service s ∷ r)) ≡ parse_service (on c (keyword T.Service s ∷ r))
  unfolding parse_definition when test peek toks kind keyword among is code
  pick_service = refl

pick_structure : (x : Structure) (c : List Lexeme) (r : List Piece) → parse_definition (on c (structure_keyword x ∷ r)) ≡ parse_structure x (on c (structure_keyword x ∷ r))
unfolding parse_definition when test peek toks kind keyword among is code structure_keyword
pick_structure Struct c r = refl
pick_structure Union c r = refl
pick_structure Exception c r = refl

-- the keyword's lexeme
unfoldable structure_lexeme : Structure → Lexeme
unfolding ascii
structure_lexeme Struct = lexeme T.Struct (ascii "struct") nowhere
structure_lexeme Union = lexeme T.Union (ascii "union") nowhere
structure_lexeme Exception = lexeme T.Exception (ascii "exception") nowhere

next_structure : (x : Structure) (c : List Lexeme) (r : List Piece) → next (on c (structure_keyword x ∷ r)) ≡ ok (structure_lexeme x) (on c r)
unfolding structure_keyword structure_lexeme
next_structure Struct c r = next_keyword c r T.Struct "struct"
next_structure Union c r = next_keyword c r T.Union "union"
next_structure Exception c r = next_keyword c r T.Exception "exception"

structure_place : (x : Structure) → place (structure_lexeme x) ≡ nowhere
unfolding structure_lexeme place
structure_place Struct = refl
structure_place Union = refl
structure_place Exception = refl

structure_opens : (x : Structure) (r : List Piece) → Opens starts (structure_keyword x ∷ r)
unfolding structure_keyword among is code
structure_opens Struct r = opens_keyword starts T.Struct "struct" refl r
structure_opens Union r = opens_keyword starts T.Union "union" refl r
structure_opens Exception r = opens_keyword starts T.Exception "exception" refl r

brace_extends : among T.LeftBrace (T.Extends ∷ []) ≡ false
unfolding among is code
brace_extends = refl

-- ---- the end of a document

over_opens : (ks : List Token) (c ts : List Lexeme) → peek ks (pos nowhere c ts) ≡ true → D.over (pos nowhere c ts) ≡ ok false (pos nowhere c ts)
unfolding D.over peek
over_opens ks c [] h = cc
over_opens ks c (t ∷ ts) h = refl

document_shut : document_end (on [] []) ≡ ok true (on [] [])
unfolding document_end bind skip_separator skip_comments skip pass toks D.over test
document_shut = refl

module _ (Good : Token → List ℕ → Type 0) (q : List Piece) (h : Clear q) where
  document_stay : (a : List Lexeme) → document_end (on a q) ≡ ok false (on a q)
  unfolding document_end bind
  document_stay a =
      simp (separator_stay nowhere a (toks q) (h.noseparator.free a), comments_stay nowhere a (toks q) (h.nocomment.free a), over_opens starts a (toks q) (h.first.opens a))

  document_comments : {c : List Lexeme} → All (Tok Good comment_kinds) c → document_end (on [] (write_comments [] c q)) ≡ ok false (on (bares c) q)
  unfolding document_end bind
  document_comments {c} g =
      let z = free_comments Good [] q h separators (λ k e. (comment_kinds_law k e).noseparator) h.noseparator g in
      simp (
        separator_stay nowhere [] (toks (write_comments [] c q)) (z.free []),
        comments_rt Good [] q h g [],
        separator_stay nowhere (bares c) (toks q) (h.noseparator.free (bares c)),
        over_opens starts (bares c) (toks q) (h.first.opens (bares c)),
      )

calm_document : Calm document_end []
unfolding skip_trivia skip pass toks peek
calm_document = record {
  held = [];
  left = [];
  passes = refl;
  noleft = refl;
  nextleft = record { free = λ c. refl };
  nothrows = record { free = λ c. refl };
  resumes = refl;
}

module _ (Good : Token → List ℕ → Type 0) (ind : List ℕ) where
  extends_rt : {x : Option Lexeme} → WfOption Good (T.Identifier ∷ []) x → (c : List Lexeme) (r : List Piece) → Free (T.Extends ∷ []) r →
      parse_extends (on c (write_extends x r)) ≡ ok (opt bare_l x) (on c r)
  unfolding parse_extends write_extends opt when test bind
  extends_rt wnothing c r h = simp (h.free c)
  extends_rt (wjust g) c r h = simp (gap_rt, peek_keyword, is_self, next_keyword, want_own Good g)

  -- a body, from its brace to its annotations
  body_extends : {A : Type 0} (write : A → List Piece → List Piece) (xs : List A) (a : Annotations) (r : List Piece) → Free (T.Extends ∷ []) (write_body write xs a r)
  unfolding write_body
  body_extends write xs a r = free_gap (T.Extends ∷ []) (32 ∷ []) (free_mark (T.Extends ∷ []) T.LeftBrace 123 brace_extends _)

  module _ (l : LOC) (c : List Lexeme) (r : List Piece) where
    include_rt : {n : Lexeme} → Tok Good (T.StringLiteral ∷ []) n → parse_definition (on (bares c) (core_definition ind (Include l c n) r)) ≡ ok (forget_definition (drop_params (Include l c n))) (on [] r)
    unfolding core_definition parse_include taken bind move_definition drop_params place
    include_rt h = simp (pick_include, next_keyword, gap_rt, want_own Good h, place_bare, span_nowhere)

    cpp_rt : {n : Lexeme} → Tok Good (T.StringLiteral ∷ []) n → parse_definition (on (bares c) (core_definition ind (CppInclude l c n) r)) ≡ ok (forget_definition (drop_params (CppInclude l c n))) (on [] r)
    unfolding core_definition parse_include taken bind move_definition drop_params place
    cpp_rt h = simp (pick_cpp, next_keyword, gap_rt, want_own Good h, place_bare, span_nowhere)

    namespace_rt : {s n : Lexeme} → Tok Good (T.Identifier ∷ T.Star ∷ []) s → Tok Good (T.Identifier ∷ []) n →
        parse_definition (on (bares c) (core_definition ind (Namespace l c s n) r)) ≡ ok (forget_definition (drop_params (Namespace l c s n))) (on [] r)
    unfolding core_definition parse_namespace taken bind move_definition drop_params place
    namespace_rt g h = simp (pick_namespace, next_keyword, gap_rt, want_own Good g, want_own Good h, place_bare, span_nowhere)

    const_rt : {t : FieldType} {n : Lexeme} {v : FieldInitialValue} → WfType Good 32 t → Tok Good (T.Identifier ∷ []) n → WfValue Good 32 v → (k : Calm document_end r) →
        parse_definition (on (bares c) (core_definition ind (Const l c t n v) r)) ≡ ok (forget_definition (drop_params (Const l c t n v))) (pos nowhere k.held k.left)
    unfolding core_definition parse_const taken bind here move_definition drop_params place
    const_rt t n v k = simp (pick_const, next_keyword, gap_rt, parse_type_rt Good t, want_own Good n, want_mark, parse_value_rt Good v, k.passes, span_nowhere)

    typedef_rt : {t : FieldType} {n : Lexeme} → WfType Good 32 t → Tok Good (T.Identifier ∷ []) n →
        parse_definition (on (bares c) (core_definition ind (Typedef l c t n) r)) ≡ ok (forget_definition (drop_params (Typedef l c t n))) (on [] r)
    unfolding core_definition parse_typedef taken bind move_definition drop_params place
    typedef_rt t n = simp (pick_typedef, next_keyword, gap_rt, parse_type_rt Good t, want_own Good n, place_bare, span_nowhere)

    enum_rt : {n : Lexeme} {xs : List EnumMember} {a : Annotations} → Tok Good (T.Identifier ∷ []) n → All (WfMember Good) xs → length xs < most → WfAnnotations Good a → Free (T.LeftParen ∷ []) r →
        parse_definition (on (bares c) (core_definition ind (Enum l c n xs a) r)) ≡ ok (forget_definition (drop_params (Enum l c n xs a))) (on [] r)
    unfolding core_definition write_body parse_enum parse_members taken bind here move_definition drop_params place
    enum_rt n xs g a k =
        simp (pick_enum, next_keyword, gap_rt, want_own Good n, want_mark, members_rt Good ind xs g, annotations_rt Good a [] (line ∷ r) (free_gap (T.LeftParen ∷ []) (10 ∷ []) k), span_nowhere)

    structure_rt : (s : Structure) {n : Lexeme} {fs : List Field} {a : Annotations} → Tok Good (T.Identifier ∷ []) n → All (WfField Good) fs → length fs < most → WfAnnotations Good a → Free (T.LeftParen ∷ []) r →
        parse_definition (on (bares c) (core_definition ind (structure s l c n fs a) r)) ≡ ok (forget_definition (drop_params (structure s l c n fs a))) (on [] r)
    unfolding core_definition write_body parse_structure parse_members taken bind here move_definition drop_params
    structure_rt s n fs g a k =
        simp (pick_structure, next_structure, structure_place, gap_rt, want_own Good n, want_mark, fields_rt Good ind fs g, annotations_rt Good a [] (line ∷ r) (free_gap (T.LeftParen ∷ []) (10 ∷ []) k), span_nowhere)

    service_body : {fs : List Function} {a : Annotations} → All (WfFunction Good) fs → length fs < most → WfAnnotations Good a → Free (T.LeftParen ∷ []) r →
        parse_members T.LeftBrace T.RightBrace parse_function (on [] (write_body (write_function ind) fs a r)) ≡ ok (maps forget_function (maps drop_function fs)) (on [] (write_annotations a (line ∷ r)))
    unfolding write_body parse_members bind
    service_body fs g a k = simp (gap_rt, want_mark, functions_rt Good ind fs g)

    service_rt : {n : Lexeme} {x : Option Lexeme} {fs : List Function} {a : Annotations} → Tok Good (T.Identifier ∷ []) n → WfOption Good (T.Identifier ∷ []) x → All (WfFunction Good) fs → length fs < most →
        WfAnnotations Good a → Free (T.LeftParen ∷ []) r →
        parse_definition (on (bares c) (core_definition ind (Service l c n x fs a) r)) ≡ ok (forget_definition (drop_params (Service l c n x fs a))) (on [] r)
    unfolding core_definition parse_service taken bind here move_definition drop_params place
    service_rt {fs = fs'} {a = a'} n x fs g a k =
        simp (
          pick_service,
          next_keyword,
          gap_rt,
          want_own Good n,
          extends_rt x [] (write_body (write_function ind) fs' a' r) (body_extends (write_function ind) fs' a' r),
          service_body fs g a k,
          annotations_rt Good a [] (line ∷ r) (free_gap (T.LeftParen ∷ []) (10 ∷ []) k),
          span_nowhere,
        )

  pub definition_rt : (d : Definition) → WfDefinition Good d → (r : List Piece) → Calm document_end r →
      Leaves document_end r (parse_definition (on (bares (notes_definition d)) (core_definition ind d r))) (forget_definition (drop_params d))
  unfolding notes_definition
  definition_rt d (winclude {l = l} {c = c} g n) r k = record { held = []; left = toks r; says = include_rt l c r n; onward = refl }
  definition_rt d (wcpp {l = l} {c = c} g n) r k = record { held = []; left = toks r; says = cpp_rt l c r n; onward = refl }
  definition_rt d (wnamespace {l = l} {c = c} g s n) r k = record { held = []; left = toks r; says = namespace_rt l c r s n; onward = refl }
  definition_rt d (wconst {l = l} {c = c} g t n v) r k = record { held = k.held; left = k.left; says = const_rt l c r t n v k; onward = k.resumes }
  definition_rt d (wtypedef {l = l} {c = c} g t n) r k = record { held = []; left = toks r; says = typedef_rt l c r t n; onward = refl }
  definition_rt d (wenum {l = l} {c = c} g n xs m a) r k = record { held = []; left = toks r; says = enum_rt l c r n xs m a k.nextleft; onward = refl }
  definition_rt d (wstructure {s = s} {l = l} {c = c} g n fs m a) r k = record { held = []; left = toks r; says = structure_rt l c r s n fs m a k.nextleft; onward = refl }
  definition_rt d (wservice {l = l} {c = c} g n x fs m a) r k = record { held = []; left = toks r; says = service_rt l c r n x fs m a k.nextleft; onward = refl }

  notes_definition_law : {d : Definition} → WfDefinition Good d → All (Tok Good comment_kinds) (notes_definition d)
  unfolding notes_definition
  notes_definition_law (winclude g n) = g
  notes_definition_law (wcpp g n) = g
  notes_definition_law (wnamespace g s n) = g
  notes_definition_law (wconst g t n v) = g
  notes_definition_law (wtypedef g t n) = g
  notes_definition_law (wenum g n xs m a) = g
  notes_definition_law (wstructure g n fs m a) = g
  notes_definition_law (wservice g n x fs m a) = g

  definition_opens : {d : Definition} → WfDefinition Good d → (r : List Piece) → Opens starts (core_definition ind d r)
  unfolding core_definition among is code
  definition_opens (winclude g n) r = opens_keyword starts T.Include "include" refl _
  definition_opens (wcpp g n) r = opens_keyword starts T.CppInclude "cpp_include" refl _
  definition_opens (wnamespace g s n) r = opens_keyword starts T.Namespace "namespace" refl _
  definition_opens (wconst g t n v) r = opens_keyword starts T.Const "const" refl _
  definition_opens (wtypedef g t n) r = opens_keyword starts T.Typedef "typedef" refl _
  definition_opens (wenum g n xs m a) r = opens_keyword starts T.Enum "enum" refl _
  definition_opens (wstructure {s = s} g n fs m a) r = structure_opens s _
  definition_opens (wservice g n x fs m a) r = opens_keyword starts T.Service "service" refl _

  enter_definition : (d : Definition) → WfDefinition Good d → (r : List Piece) → document_end (on [] (write_definition ind d r)) ≡ ok false (on (bares (notes_definition d)) (core_definition ind d r))
  enter_definition d h r = rw (write_definition_law ind d r) (document_comments Good (core_definition ind d r) (clear (definition_opens h r)) (notes_definition_law h))

  calm_definition : (xs : List Definition) (r : List Piece) → All (WfDefinition Good) xs → Calm document_end r → Calm document_end (nothing xs (write_each nothing (write_definition ind) xs r))
  unfolding nothing write_each
  calm_definition [] r h k = k
  calm_definition (d ∷ xs) r (acons h hs) k =
      let u = write_each nothing (write_definition ind) xs r in let q = core_definition ind d u in let z = clear (definition_opens h u) in
      rw (write_definition_law ind d u)
      (calm_comments Good document_end [] q z (notes_definition_law h) (document_stay Good q z (bares (notes_definition d))) (document_comments Good q z (notes_definition_law h)))

  each_definition_rt : {ds : List Definition} → All (WfDefinition Good) ds → length ds < most →
      parse_document (on [] (write_each nothing (write_definition ind) ds [])) ≡ ok (forget (maps drop_params ds)) (on [] [])
  unfolding parse_document many nothing move
  each_definition_rt {ds} h l =
      rw (← maps_two drop_params forget_definition ds)
      (loop_rt document_end parse_definition (λ d. forget_definition (drop_params d)) nothing (write_definition ind) (WfDefinition Good) (Calm document_end)
      (λ d r. on (bares (notes_definition d)) (core_definition ind d r)) calm_definition (λ xs r. refl) enter_definition definition_rt h most l [] calm_document (on [] []) document_shut _ refl)

-- the print of a document reads back
pub document_rt : (Good : Token → List ℕ → Type 0) (indent : ℕ) {ds : List Definition} → All (WfDefinition Good) ds → length ds < most →
    parse_document (pos nowhere [] (toks (pieces indent ds))) ≡ ok (forget (maps drop_params ds)) (pos nowhere [] [])
unfolding pieces toks
document_rt Good indent h l = each_definition_rt Good (replicate indent 32) h l
