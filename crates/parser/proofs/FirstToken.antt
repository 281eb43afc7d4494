-- Where a field is begun, its first token is not passed over (document 02, Change 4).
--     type_missing        in a type's place with no token left 5 is raised
--     type_unsupported    in a type's place a token that starts no type is refused with 4 there
--     field_unsupported   so is a field's first token that is no id, no requiredness and starts no type
--     field_from_law          a field that is read ranges from its first token on
use mathlib.Core.Path.{◌≡◌, refl}
use mathlib.Core.Bool.{false}
use mathlib.Core.List.{List, [], ◌∷◌}
use Rattle.std.specs.Prelude.{Some, None}
use Rattle.token.specs.Code.{among}
use Rattle.token.specs.declared.Token.TheVariants as T
use Rattle.lexer.specs.declared.location.LOC.{LOC}
use Rattle.lexer.specs.Error.{UnsupportedType}
use Rattle.lexer.specs.Tokens.{Lexeme}
use Rattle.ast.specs.Ast.{Field, field}
use Rattle.parser.specs.Steps.{kind, place, span, St, pos, MissingTypeDeclaration, raise, Res, ok, no, P, bind, test, peek, when, refuse, next, start, taken}
use Rattle.parser.specs.Types.{leaf_types, container_types, type_by, field_type}
use Rattle.parser.specs.Definitions.{parse_type, parse_field_id, parse_required, parse_field}

pub type_missing : (l : LOC) (c : List Lexeme) → parse_type (pos l c []) ≡ no (raise MissingTypeDeclaration None) l
unfolding parse_type field_type type_by
type_missing l c = refl

module _ (l : LOC) (c : List Lexeme) (t : Lexeme) (ts : List Lexeme) (leaf : among (kind t) leaf_types ≡ false) (container : among (kind t) container_types ≡ false) where
  pub type_unsupported : parse_type (pos l c (t ∷ ts)) ≡ no (raise UnsupportedType (Some t)) (place t)
  unfolding parse_type field_type type_by next bind test refuse
  type_unsupported = rw (leaf, container)

module _ (l : LOC) (c : List Lexeme) (t : Lexeme) (ts : List Lexeme) (leaf : among (kind t) leaf_types ≡ false) (container : among (kind t) container_types ≡ false)
    (id : among (kind t) (T.IntegerLiteral ∷ []) ≡ false) (first : among (kind t) (T.Required ∷ []) ≡ false) (second : among (kind t) (T.Optional ∷ []) ≡ false) where
  pub field_unsupported : parse_field (pos l c (t ∷ ts)) ≡ no (raise UnsupportedType (Some t)) (place t)
  unfolding parse_field taken start bind parse_field_id parse_required when test peek
  field_unsupported = rw (id, first, second, type_unsupported l [] t ts leaf container)

-- ---- the range

abbrev pub FromHere : LOC → Res Field → Type 0
FromHere p (ok (field l c i r t m v a) s) = l.start ≡ p.start
FromHere p (no e l) = Unit {0}

-- whatever is read next, the range starts as it did
kept : {A : Type 0} (p : LOC) (m : Res A) (k : A → P Field) → ((a : A) (s : St) → FromHere p (k a s)) → FromHere p (bind m k)
unfolding bind
kept p (ok a s) k h = h a s
kept p (no e l) k h = tt

given : {A : Type 0} (p : LOC) (k : A → P Field) (a : A) (s : St) → FromHere p (k a s) → FromHere p (bind (ok a s) k)
unfolding bind
given p k a s h = h

pub field_from_law : (l : LOC) (c : List Lexeme) (t : Lexeme) (ts : List Lexeme) → FromHere (place t) (parse_field (pos l c (t ∷ ts)))
unfolding parse_field taken start span
field_from_law l c t ts =
    let p = place t in
    given p _ c _ (given p _ p _
    (kept p _ _ λ i s. kept p _ _ λ r s. kept p _ _ λ y s. kept p _ _ λ m s. kept p _ _ λ v s. kept p _ _ λ a s. kept p _ _ λ e s. refl))
