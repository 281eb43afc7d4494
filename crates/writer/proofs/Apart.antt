-- The pieces of the print of what is well formed stand apart: whatever follows a word begins with a byte that ends it.
--     Break         nothing follows, or a byte that ends every word of the printer
--     type_apart, value_apart, definition_apart, ...   the print of each thing
--     pieces_apart  the print of a file, at any indent
use mathlib.Core.Path.{◌≡◌, refl, sym}
use mathlib.Core.Bool.{Bool, true, false, cond, not, ◌||◌, false≢true}
use mathlib.Core.List.{List, [], ◌∷◌}
use Rattle.std.specs.Prelude.{Option, Some, None}
use Prim.Native.Nat.{ℕ, suc, zero, ◌<◌}
use Prim.Native.String.{String}
use native.Mathlib.Omega.{arith}
use lib.Dec.{T, eqb, ltb, ltb→lt}
use lib.ListN.{length, replicate}
use borrow.Author.Tests.{eqb-true}
use Rattle.token.specs.Code.{code, is, among}
use Rattle.token.specs.Regex.{bytes as ascii, ranges, within}
use Rattle.token.specs.Patterns.{words, rules}
use Rattle.token.specs.Scan.{first, keep, scan_from, scan}
use Rattle.token.specs.Automaton.{rules_at}
use Rattle.token.specs.Breaks.{goes_on, breaks, Stops, Bytes}
use Rattle.token.specs.declared.Token.{Token}
use Rattle.token.specs.declared.Token.TheVariants as T
use Rattle.token.specs.Scanned.{Scan}
use Rattle.token.proofs.Every.{both, both_left, both_right}
use Rattle.lexer.specs.Tokens.{Lexeme, lexeme, skipped}
use Rattle.utf8.proofs.Utf8Laws.{well_ascii, Ascii}
use Rattle.parser.specs.Steps.{kind, bytes}
use Rattle.ast.specs.Ast.{
  FieldType,
  FieldInitialValue,
  Elements,
  nil,
  cons,
  Properties,
  pnil,
  pcons,
  Annotation,
  Annotations,
  absent,
  annotations,
  Required,
  default,
  required,
  optional,
  Field,
  EnumMember,
  Function,
  Structure,
  Struct,
  Union,
  Exception,
  Definition,
}
use Rattle.writer.specs.Print.{
  Piece,
  mark,
  word,
  bytes_of,
  own,
  keyword,
  space,
  line,
  write_type,
  write_value,
  write_elements,
  more_elements,
  write_properties,
  more_properties,
  write_each,
  commas,
  nothing,
  write_annotation,
  write_annotations,
  write_comment,
  write_comments,
  write_id,
  write_required,
  write_default,
  write_field,
  write_param,
  write_initializer,
  write_member,
  write_throws,
  write_oneway,
  write_function,
  write_body,
  structure_keyword,
  write_extends,
  write_definition,
  pieces,
}
use Rattle.ast.specs.Lists.{All, anil, acons}
use Rattle.parser.proofs.Wf.{comment_kinds, Tok, WfType, wcommon, wlist, wset, wmap, WfValue, wleaf, wseq, wdict, WfElements, wnil, wcons, WfProperties, wpnil, wpcons, WfAnnotation, wannotation, WfAnnotations, wabsent, wannotations, WfId, wnoid, wid, WfDefault, wnone, wsome, WfField, wfield, WfThrows, wquiet, wthrows, WfReturn, wvoid, wtype, WfFunction, wfunction, WfOption, wnothing, wjust, WfMember, wmember, WfDefinition, winclude, wcpp, wnamespace, wconst, wtypedef, wenum, wstructure, wservice}
use Rattle.writer.proofs.Toks.{
  Blanks,
  bnil,
  bspace,
  bline,
  left_brace,
  right_brace,
  left_bracket,
  right_bracket,
  left_angle,
  right_angle,
  left_paren,
  right_paren,
  colon,
  comma,
  equals,
  Good,
  Sep,
  snil,
  sgap,
  smark,
  sword,
  snote,
}

-- ---- the bytes behind a word

abbrev pub breakers : List ℕ
breakers = 32 ∷ 10 ∷ 44 ∷ 40 ∷ 41 ∷ 58 ∷ 60 ∷ 62 ∷ 93 ∷ 125 ∷ 61 ∷ []

abbrev pub member_of : ℕ → List ℕ → Bool
member_of x [] = false
member_of x (y ∷ ys) = eqb x y || member_of x ys

-- no byte, or one of those first
abbrev pub breaking : List ℕ → Bool
breaking [] = true
breaking (b ∷ r) = member_of b breakers

abbrev pub Break : List Piece → Type 0
Break r = breaking (bytes_of r) ≡ true

-- what holds of each of a list holds of one of them
abbrev every_of : (ℕ → Bool) → List ℕ → Bool
every_of p [] = true
every_of p (y ∷ ys) = both (p y) (every_of p ys)

of_every : (p : ℕ → Bool) (ys : List ℕ) (x : ℕ) → T (every_of p ys) → member_of x ys ≡ true → T (p x)
of_every p [] x h e = absurd (false≢true e)
of_every p (y ∷ ys) x h e = go (eqb x y) refl e (of_every p ys x (both_right (p y) (every_of p ys) h))
  where
    go : (b : Bool) → eqb x y ≡ b → (b || member_of x ys) ≡ true → (member_of x ys ≡ true → T (p x)) → T (p x)
    go true f e g = rw (eqb-true x y f) (both_left (p y) (every_of p ys) h)
    go false f e g = g e

is_byte : (x : ℕ) → member_of x breakers ≡ true → x < 256
is_byte x e = ltb→lt x 256 (of_every (λ x. ltb x 256) breakers x tt e)

no_letter : (x : ℕ) → member_of x breakers ≡ true → T (not (within x (ranges (ascii "azAZ09__.."))))
unfolding within ranges ascii
no_letter x e = of_every (λ x. not (within x (ranges (ascii "azAZ09__..")))) breakers x tt e

-- such a byte ends every token but a blank and a line comment
pub stops : (k : Token) (r : List ℕ) → skipped k ≡ false → is k T.LineComment ≡ false → breaking r ≡ true → Stops k r
unfolding breaks skipped
stops k [] s c e = tt
stops k (x ∷ r) s c e = (is_byte x e, go (goes_on k) (is k T.Blank) s)
  where
    go : (a b : Bool) → (b || is k T.Newline) ≡ false
        → T (cond a (not (within x (ranges (ascii "azAZ09__.."))))
        (cond b (not (within x (ranges (ascii "  \t\t")))) (cond (is k T.LineComment) (eqb x 10) true)))
    go true b s = no_letter x e
    go false true s = absurd (false≢true (sym s))
    go false false s = rw c tt

-- ---- a lexeme

-- no line comment among these kinds
abbrev pub quiet : List Token → Bool
quiet [] = true
quiet (j ∷ ks) = cond (is j T.LineComment) false (quiet ks)

quiet_head : (j : Token) (ks : List Token) → quiet (j ∷ ks) ≡ true → (is j T.LineComment ≡ false) × (quiet ks ≡ true)
quiet_head j ks e = go (is j T.LineComment) e
  where
    go : (b : Bool) → cond b false (quiet ks) ≡ true → (b ≡ false) × (quiet ks ≡ true)
    go true e = absurd (false≢true e)
    go false e = (refl, e)

no_comment : (k : Token) (ks : List Token) → quiet ks ≡ true → among k ks ≡ true → is k T.LineComment ≡ false
unfolding among is
no_comment k [] q e = cc
no_comment k (j ∷ ks) q e = go (is k j) refl e (no_comment k ks (quiet_head j ks q).1)
  where
    go : (b : Bool) → is k j ≡ b → (b || among k ks) ≡ true → (among k ks ≡ true → is k T.LineComment ≡ false) → is k T.LineComment ≡ false
    go true f e g = unfold is in rw (eqb-true (code k) (code j) f) (quiet_head j ks q).0
    go false f e g = g e

word_apart : {k : Token} {w : List ℕ} {r : List Piece} → Good k w → is k T.LineComment ≡ false → Break r → Sep r → Sep (word k w ∷ r)
word_apart {k = k} {w = w} {r = r} h c b g = sword h (stops k (bytes_of r) h.solid c b) g

pub own_apart : {ks : List Token} {t : Lexeme} {r : List Piece} → Tok Good ks t → quiet ks ≡ true → Break r → Sep r → Sep (own t ∷ r)
unfolding own kind bytes
own_apart {ks = ks} {t = lexeme k w l} h q b g = word_apart h.good (no_comment k ks q h.kinds) b g

-- ---- the words of the printer

abbrev low : List ℕ → Bool
low [] = true
low (c ∷ u) = both (ltb c 128) (low u)

low_ascii : (u : List ℕ) → T (low u) → Ascii u
low_ascii [] h = tt
low_ascii (c ∷ u) h = (ltb→lt c 128 (both_left (ltb c 128) (low u) h), low_ascii u (both_right (ltb c 128) (low u) h))

low_bytes : (u : List ℕ) → T (low u) → Bytes u
low_bytes [] h = tt
low_bytes (c ∷ u) h = (let l : c < 128 = ltb→lt c 128 (both_left (ltb c 128) (low u) h) in omega arith, low_bytes u (both_right (ltb c 128) (low u) h))

-- `rules_at` unfolds all that the patterns are made of
unfoldable on : String → Scan
unfolding rules_at words rules first keep scan_from scan
on s = scan (ascii s)

fixed_good : (k : Token) (u : List ℕ) → T (low u) → scan u ≡ Some (k, length u) → skipped k ≡ false → Good k u
fixed_good k u h e s = record { bytes = low_bytes u h; scanned = e; solid = s; formed = well_ascii u (low_ascii u h) }

pub namespace_good : Good T.Namespace (ascii "namespace")
unfolding on skipped is code
namespace_good = fixed_good T.Namespace (ascii "namespace") tt refl refl

pub include_good : Good T.Include (ascii "include")
unfolding on skipped is code
include_good = fixed_good T.Include (ascii "include") tt refl refl

pub cpp_include_good : Good T.CppInclude (ascii "cpp_include")
unfolding on skipped is code
cpp_include_good = fixed_good T.CppInclude (ascii "cpp_include") tt refl refl

pub const_good : Good T.Const (ascii "const")
unfolding on skipped is code
const_good = fixed_good T.Const (ascii "const") tt refl refl

pub typedef_good : Good T.Typedef (ascii "typedef")
unfolding on skipped is code
typedef_good = fixed_good T.Typedef (ascii "typedef") tt refl refl

pub enum_good : Good T.Enum (ascii "enum")
unfolding on skipped is code
enum_good = fixed_good T.Enum (ascii "enum") tt refl refl

pub struct_good : Good T.Struct (ascii "struct")
unfolding on skipped is code
struct_good = fixed_good T.Struct (ascii "struct") tt refl refl

pub union_good : Good T.Union (ascii "union")
unfolding on skipped is code
union_good = fixed_good T.Union (ascii "union") tt refl refl

pub exception_good : Good T.Exception (ascii "exception")
unfolding on skipped is code
exception_good = fixed_good T.Exception (ascii "exception") tt refl refl

pub service_good : Good T.Service (ascii "service")
unfolding on skipped is code
service_good = fixed_good T.Service (ascii "service") tt refl refl

pub extends_good : Good T.Extends (ascii "extends")
unfolding on skipped is code
extends_good = fixed_good T.Extends (ascii "extends") tt refl refl

pub throws_good : Good T.Throws (ascii "throws")
unfolding on skipped is code
throws_good = fixed_good T.Throws (ascii "throws") tt refl refl

pub oneway_good : Good T.Oneway (ascii "oneway")
unfolding on skipped is code
oneway_good = fixed_good T.Oneway (ascii "oneway") tt refl refl

pub required_good : Good T.Required (ascii "required")
unfolding on skipped is code
required_good = fixed_good T.Required (ascii "required") tt refl refl

pub optional_good : Good T.Optional (ascii "optional")
unfolding on skipped is code
optional_good = fixed_good T.Optional (ascii "optional") tt refl refl

-- ---- lists

spaced : {r : List Piece} → Sep r → Sep (space ∷ r)
spaced g = sgap (bspace bnil) g

lined : {r : List Piece} → Sep r → Sep (line ∷ r)
lined g = sgap (bline bnil) g

module _ {A : Type 0} (between : List A → List Piece → List Piece) (write : A → List Piece → List Piece) (W : A → Type 0) (B : List Piece → Type 0)
    (ends : (xs : List A) (r : List Piece) → B r → B (between xs (write_each between write xs r)))
    (parts : (xs : List A) (r : List Piece) → Sep r → Sep (between xs r))
    (each : (x : A) → W x → (r : List Piece) → B r → Sep r → Sep (write x r)) where
  each_apart : {xs : List A} → All W xs → (r : List Piece) → B r → Sep r → Sep (write_each between write xs r)
  unfolding write_each
  each_apart anil r b g = g
  each_apart (acons {x = x} {xs = xs} h hs) r b g =
      each x h (between xs (write_each between write xs r)) (ends xs r b) (parts xs (write_each between write xs r) (each_apart hs r b g))

module _ {A : Type 0} (write : A → List Piece → List Piece) (W : A → Type 0) where
  commas_break : (xs : List A) (r : List Piece) → Break r → Break (commas xs (write_each commas write xs r))
  unfolding commas write_each bytes_of
  commas_break [] r b = b
  commas_break (x ∷ xs) r b = refl

  commas_apart : (xs : List A) (r : List Piece) → Sep r → Sep (commas xs r)
  unfolding commas
  commas_apart [] r g = g
  commas_apart (x ∷ xs) r g = smark comma (spaced g)

  nothing_apart : (xs : List A) (r : List Piece) → Sep r → Sep (nothing xs r)
  unfolding nothing
  nothing_apart xs r g = g

  listed : ((x : A) → W x → (r : List Piece) → Break r → Sep r → Sep (write x r)) → {xs : List A} → All W xs → (r : List Piece) → Break r → Sep r
      → Sep (write_each commas write xs r)
  listed each h r b g = each_apart commas write W Break commas_break commas_apart each h r b g

  lines : ((x : A) → W x → (r : List Piece) → Sep r → Sep (write x r)) → {xs : List A} → All W xs → (r : List Piece) → Sep r
      → Sep (write_each nothing write xs r)
  lines each h r g = each_apart nothing write W (λ r. Unit {0}) (λ xs r u. tt) nothing_apart (λ x h r u g. each x h r g) h r tt g

-- ---- types and values

pub type_apart : {d : ℕ} {t : FieldType} → WfType Good d t → (r : List Piece) → Break r → Sep r → Sep (write_type t r)
unfolding write_type bytes_of is code
type_apart (wcommon h) r b g = own_apart h refl b g
type_apart (wlist h k) r b g = own_apart h refl refl (smark left_angle (type_apart k _ refl (smark right_angle g)))
type_apart (wset h k) r b g = own_apart h refl refl (smark left_angle (type_apart k _ refl (smark right_angle g)))
type_apart (wmap h k v) r b g =
    own_apart h refl refl (smark left_angle (type_apart k _ refl (smark comma (spaced (type_apart v _ refl (smark right_angle g))))))

elements_break : (vs : Elements) (r : List Piece) → Break r → Break (more_elements vs r)
unfolding more_elements bytes_of
elements_break nil r b = b
elements_break (cons v vs) r b = refl

properties_break : (ps : Properties) (r : List Piece) → Break r → Break (more_properties ps r)
unfolding more_properties bytes_of
properties_break pnil r b = b
properties_break (pcons l k v ps) r b = refl

mutual
  unfolding write_value bytes_of is code

  pub value_apart : {d : ℕ} {v : FieldInitialValue} → WfValue Good d v → (r : List Piece) → Break r → Sep r → Sep (write_value v r)
  value_apart (wleaf h) r b g = own_apart h refl b g
  value_apart (wseq k) r b g = smark left_bracket (elements_apart k (mark T.RightBracket 93 ∷ r) refl (smark right_bracket g))
  value_apart (wdict k) r b g = smark left_brace (properties_apart k (mark T.RightBrace 125 ∷ r) refl (smark right_brace g))

  elements_apart : {d n : ℕ} {vs : Elements} → WfElements Good d n vs → (r : List Piece) → Break r → Sep r → Sep (write_elements vs r)
  elements_apart wnil r b g = g
  elements_apart (wcons {vs = vs} h k) r b g = value_apart h (more_elements vs r) (elements_break vs r b) (more_elements_law k r b g)

  more_elements_law : {d n : ℕ} {vs : Elements} → WfElements Good d n vs → (r : List Piece) → Break r → Sep r → Sep (more_elements vs r)
  more_elements_law wnil r b g = g
  more_elements_law (wcons {vs = vs} h k) r b g =
      smark comma (spaced (value_apart h (more_elements vs r) (elements_break vs r b) (more_elements_law k r b g)))

  properties_apart : {d n : ℕ} {ps : Properties} → WfProperties Good d n ps → (r : List Piece) → Break r → Sep r → Sep (write_properties ps r)
  properties_apart wpnil r b g = g
  properties_apart (wpcons {v = v} {ps = ps} h k l) r b g =
      value_apart h (mark T.Colon 58 ∷ space ∷ write_value v (more_properties ps r)) refl
      (smark colon (spaced (value_apart k (more_properties ps r) (properties_break ps r b) (more_properties_law l r b g))))

  more_properties_law : {d n : ℕ} {ps : Properties} → WfProperties Good d n ps → (r : List Piece) → Break r → Sep r → Sep (more_properties ps r)
  more_properties_law wpnil r b g = g
  more_properties_law (wpcons {v = v} {ps = ps} h k l) r b g =
      smark comma (spaced (value_apart h (mark T.Colon 58 ∷ space ∷ write_value v (more_properties ps r)) refl
      (smark colon (spaced (value_apart k (more_properties ps r) (properties_break ps r b) (more_properties_law l r b g))))))

-- ---- annotations and comments

annotation_apart : (x : Annotation) → WfAnnotation Good x → (r : List Piece) → Break r → Sep r → Sep (write_annotation x r)
unfolding write_annotation bytes_of is code
annotation_apart x (wannotation h k) r b g = own_apart h refl refl (spaced (smark equals (spaced (own_apart k refl b g))))

pub annotations_apart : {a : Annotations} → WfAnnotations Good a → (r : List Piece) → Sep r → Sep (write_annotations a r)
unfolding write_annotations bytes_of
annotations_apart wabsent r g = g
annotations_apart (wannotations h l) r g =
    spaced (smark left_paren (listed write_annotation (WfAnnotation Good) annotation_apart h _ refl (smark right_paren g)))

annotations_break : (a : Annotations) (r : List Piece) → Break r → Break (write_annotations a r)
unfolding write_annotations bytes_of
annotations_break absent r b = b
annotations_break (annotations l xs) r b = refl

comment_apart : {t : Lexeme} → Tok Good comment_kinds t → (r : List Piece) → Sep r → Sep (write_comment t ∷ r)
unfolding write_comment kind bytes
comment_apart {t = lexeme k w l} h r g = snote h.good h.kinds g

pub comments_apart : (ind : List ℕ) → Blanks ind → {c : List Lexeme} → All (Tok Good comment_kinds) c → (r : List Piece) → Sep r → Sep (write_comments ind c r)
unfolding write_comments
comments_apart ind i anil r g = g
comments_apart ind i (acons h hs) r g = sgap i (comment_apart h _ (comments_apart ind i hs r g))

-- ---- fields and parameters

default_apart : {v : Option FieldInitialValue} → WfDefault Good v → (r : List Piece) → Break r → Sep r → Sep (write_default v r)
unfolding write_default bytes_of
default_apart wnone r b g = g
default_apart (wsome h) r b g = spaced (smark equals (spaced (value_apart h r b g)))

default_break : (v : Option FieldInitialValue) (r : List Piece) → Break r → Break (write_default v r)
unfolding write_default bytes_of
default_break None r b = b
default_break (Some v) r b = refl

required_apart : (q : Required) (r : List Piece) → Sep r → Sep (write_required q r)
unfolding write_required keyword bytes_of is code
required_apart default r g = g
required_apart required r g = word_apart required_good refl refl (spaced g)
required_apart optional r g = word_apart optional_good refl refl (spaced g)

id_apart : {i : Option Lexeme} → WfId Good i → (r : List Piece) → Sep r → Sep (write_id i r)
unfolding write_id bytes_of is code
id_apart wnoid r g = g
id_apart (wid h k) r g = own_apart h refl refl (smark colon (spaced g))

pub param_apart : (f : Field) → WfField Good f → (r : List Piece) → Break r → Sep r → Sep (write_param f r)
unfolding write_param bytes_of is code
param_apart f (wfield {v = u} c i t n v a) r b g =
    id_apart i _ (type_apart t _ refl (spaced (own_apart n refl (default_break u r b) (default_apart v r b g))))

params_apart : {fs : List Field} → All (WfField Good) fs → (r : List Piece) → Sep r → Sep (write_each commas write_param fs (mark T.RightParen 41 ∷ r))
unfolding bytes_of
params_apart h r g = listed write_param (WfField Good) param_apart h (mark T.RightParen 41 ∷ r) refl (smark right_paren g)

-- ---- functions and members

throws_apart : {th : Option (List Field)} → WfThrows Good th → (r : List Piece) → Sep r → Sep (write_throws th r)
unfolding write_throws keyword bytes_of is code
throws_apart wquiet r g = g
throws_apart (wthrows h l) r g = spaced (word_apart throws_good refl refl (spaced (smark left_paren (params_apart h r g))))

return_apart : {t : FieldType} → WfReturn Good t → (r : List Piece) → Break r → Sep r → Sep (write_type t r)
unfolding write_type is code
return_apart (wvoid h) r b g = own_apart h refl b g
return_apart (wtype h) r b g = type_apart h r b g

oneway_apart : (o : Bool) (r : List Piece) → Sep r → Sep (write_oneway o r)
unfolding write_oneway keyword bytes_of is code
oneway_apart true r g = word_apart oneway_good refl refl (spaced g)
oneway_apart false r g = g

initializer_apart : {v : Option Lexeme} → WfOption Good (T.IntegerLiteral ∷ T.HexLiteral ∷ []) v → (r : List Piece) → Break r → Sep r → Sep (write_initializer v r)
unfolding write_initializer is code
initializer_apart wnothing r b g = g
initializer_apart (wjust h) r b g = spaced (smark equals (spaced (own_apart h refl b g)))

initializer_break : (v : Option Lexeme) (r : List Piece) → Break r → Break (write_initializer v r)
unfolding write_initializer bytes_of
initializer_break None r b = b
initializer_break (Some t) r b = refl

extends_apart : {x : Option Lexeme} → WfOption Good (T.Identifier ∷ []) x → (r : List Piece) → Break r → Sep r → Sep (write_extends x r)
unfolding write_extends keyword bytes_of is code
extends_apart wnothing r b g = g
extends_apart (wjust h) r b g = spaced (word_apart extends_good refl refl (spaced (own_apart h refl b g)))

extends_break : (x : Option Lexeme) (r : List Piece) → Break r → Break (write_extends x r)
unfolding write_extends bytes_of
extends_break None r b = b
extends_break (Some t) r b = refl

module _ {A : Type 0} (write : A → List Piece → List Piece) (W : A → Type 0) (each : (x : A) → W x → (r : List Piece) → Sep r → Sep (write x r)) where
  body_apart : {xs : List A} {a : Annotations} → All W xs → WfAnnotations Good a → (r : List Piece) → Sep r → Sep (write_body write xs a r)
  unfolding write_body
  body_apart h a r g = spaced (smark left_brace (lined (lines write W each h _ (smark right_brace (annotations_apart a _ (lined g))))))

  body_break : (xs : List A) (a : Annotations) (r : List Piece) → Break (write_body write xs a r)
  unfolding write_body bytes_of
  body_break xs a r = refl

structure_apart : (s : Structure) (r : List Piece) → Break r → Sep r → Sep (structure_keyword s ∷ r)
unfolding structure_keyword keyword is code
structure_apart Struct r b g = word_apart struct_good refl b g
structure_apart Union r b g = word_apart union_good refl b g
structure_apart Exception r b g = word_apart exception_good refl b g

-- ---- definitions

module _ (ind : List ℕ) (i : Blanks ind) where
  pub field_apart : (f : Field) → WfField Good f → (r : List Piece) → Sep r → Sep (write_field ind f r)
  unfolding write_field bytes_of is code
  field_apart f (wfield {v = u} {a = z} c j t n v a) r g =
      comments_apart ind i c _ (sgap i (id_apart j _ (required_apart _ _ (type_apart t _ refl (spaced
      (own_apart n refl (default_break u _ (annotations_break z _ refl))
      (default_apart v _ (annotations_break z _ refl) (annotations_apart a _ (smark comma (lined g))))))))))

  pub member_apart : (m : EnumMember) → WfMember Good m → (r : List Piece) → Sep r → Sep (write_member ind m r)
  unfolding write_member bytes_of is code
  member_apart m (wmember {v = u} {a = z} c n v a) r g =
      comments_apart ind i c _ (sgap i
      (own_apart n refl (initializer_break u _ (annotations_break z _ refl))
      (initializer_apart v _ (annotations_break z _ refl) (annotations_apart a _ (smark comma (lined g))))))

  pub function_apart : (f : Function) → WfFunction Good f → (r : List Piece) → Sep r → Sep (write_function ind f r)
  unfolding write_function bytes_of is code
  function_apart f (wfunction c t n ps l th a) r g =
      comments_apart ind i c _ (sgap i (oneway_apart _ _ (return_apart t _ refl (spaced
      (own_apart n refl refl (smark left_paren (params_apart ps _ (throws_apart th _ (annotations_apart a _ (lined g))))))))))

  pub definition_apart : (d : Definition) → WfDefinition Good d → (r : List Piece) → Sep r → Sep (write_definition ind d r)
  unfolding write_definition keyword bytes_of is code
  definition_apart d (winclude c n) r g = comments_apart [] bnil c _ (word_apart include_good refl refl (spaced (own_apart n refl refl (lined g))))
  definition_apart d (wcpp c n) r g = comments_apart [] bnil c _ (word_apart cpp_include_good refl refl (spaced (own_apart n refl refl (lined g))))
  definition_apart d (wnamespace c s n) r g =
      comments_apart [] bnil c _
      (word_apart namespace_good refl refl (spaced (own_apart s refl refl (spaced (own_apart n refl refl (lined g))))))
  definition_apart d (wconst c t n v) r g =
      comments_apart [] bnil c _
      (word_apart const_good refl refl (spaced (type_apart t _ refl (spaced
      (own_apart n refl refl (spaced (smark equals (spaced (value_apart v _ refl (lined g))))))))))
  definition_apart d (wtypedef c t n) r g =
      comments_apart [] bnil c _ (word_apart typedef_good refl refl (spaced (type_apart t _ refl (spaced (own_apart n refl refl (lined g))))))
  definition_apart d (wenum {xs = xs} {a = z} c n h l a) r g =
      comments_apart [] bnil c _
      (word_apart enum_good refl refl (spaced
      (own_apart n refl (body_break (write_member ind) (WfMember Good) member_apart xs z r) (body_apart (write_member ind) (WfMember Good) member_apart h a r g))))
  definition_apart d (wstructure {s = s} {fs = xs} {a = z} c n h l a) r g =
      comments_apart [] bnil c _
      (structure_apart s _ refl (spaced
      (own_apart n refl (body_break (write_field ind) (WfField Good) field_apart xs z r) (body_apart (write_field ind) (WfField Good) field_apart h a r g))))
  definition_apart d (wservice {x = y} {fs = xs} {a = z} c n x h l a) r g =
      comments_apart [] bnil c _
      (word_apart service_good refl refl (spaced
      (own_apart n refl (extends_break y _ (body_break (write_function ind) (WfFunction Good) function_apart xs z r))
      (extends_apart x _ (body_break (write_function ind) (WfFunction Good) function_apart xs z r)
      (body_apart (write_function ind) (WfFunction Good) function_apart h a r g)))))

spaces : (n : ℕ) → Blanks (replicate n 32)
spaces zero = bnil
spaces (suc n) = bspace (spaces n)

pub pieces_apart : (n : ℕ) {ds : List Definition} → All (WfDefinition Good) ds → Sep (pieces n ds)
unfolding pieces
pieces_apart n h = lines (write_definition (replicate n 32)) (WfDefinition Good) (definition_apart (replicate n 32) (spaces n)) h [] snil
