-- The code's tests of a kind's number are the definitions' lists of kinds, by tests over all 52.
--     opener_test                             the openers of a value
--     leaf_type_law, container_type_law, leaf_value_law   the record of a kind; leaf_type_none, container_type_none, leaf_value_none: there is one exactly for the kinds of the list
use mathlib.Core.Path.{◌≡◌, refl, sym, ◌∙◌}
use mathlib.Core.Bool.{true, false, not, cond}
use mathlib.Core.List.{List, [], ◌∷◌}
use lib.Dec.{eqb}
use Rattle.token.specs.Code.{code, is, among}
use Rattle.token.specs.declared.Token.{Token}
use Rattle.token.specs.declared.Token.TheVariants as T
use Rattle.ast.specs.Tree.{value_kind}
use Rattle.parser.specs.Types.{leaf_types, container_types}
use Rattle.parser.specs.Values.{leaf_values, openers}
use Rattle.std.specs.Prelude.{Option, Some}
use Rattle.steps.specs.Into.{numbered}
use Rattle.parser.proofs.KindLaws.{all, same, agree, alike, unlike, Tests}
use Rattle.parse_values.specs.Into.{leaf_type, container_type, leaf_value, is_opener}

pub opener_test : Tests is_opener openers
unfolding all same code is among is_opener
opener_test = record { agrees = agree (λ k. is_opener (code k)) (λ k. among k openers) refl refl; fails = refl }

pub leaf_type_none : (k : Token) → eqb (leaf_type (code k)) 0 ≡ not (among k leaf_types)
unfolding all same code is among leaf_type
leaf_type_none = agree (λ k. eqb (leaf_type (code k)) 0) (λ k. not (among k leaf_types)) refl refl

pub leaf_type_law : (k : Token) → among k leaf_types ≡ true → leaf_type (code k) ≡ cond (is k T.Identifier) 19 18
unfolding all code is among leaf_type
leaf_type_law = alike (λ k. among k leaf_types) (λ k. leaf_type (code k)) (λ k. cond (is k T.Identifier) 19 18) refl refl

pub container_type_none : (k : Token) → eqb (container_type (code k)) 0 ≡ not (among k container_types)
unfolding all same code is among container_type
container_type_none = agree (λ k. eqb (container_type (code k)) 0) (λ k. not (among k container_types)) refl refl

pub container_type_law : (k : Token) → among k container_types ≡ true → container_type (code k) ≡ cond (is k T.List) 20 (cond (is k T.Set) 21 22)
unfolding all code is among container_type
container_type_law = alike (λ k. among k container_types) (λ k. container_type (code k)) (λ k. cond (is k T.List) 20 (cond (is k T.Set) 21 22)) refl refl

pub leaf_value_none : (k : Token) → eqb (leaf_value (code k)) 0 ≡ not (among k leaf_values)
unfolding all same code is among leaf_value
leaf_value_none = agree (λ k. eqb (leaf_value (code k)) 0) (λ k. not (among k leaf_values)) refl refl

pub leaf_value_law : (k : Token) → among k leaf_values ≡ true → leaf_value (code k) ≡ value_kind k
unfolding all code is among leaf_value value_kind
leaf_value_law = alike (λ k. among k leaf_values) (λ k. leaf_value (code k)) value_kind refl refl

-- ---- a `match` on the token

abbrev pub words : List Token
words = T.Bool ∷ (T.Byte ∷ (T.I8 ∷ (T.I16 ∷ (T.I32 ∷ (T.I64 ∷ (T.Double ∷ (T.String ∷ (T.Binary ∷ []))))))))

pub leaf_type_word : (k : Token) → among k words ≡ true → 18 ≡ leaf_type (code k)
unfolding all code is among leaf_type
leaf_type_word = alike (λ k. among k words) (λ k. 18) (λ k. leaf_type (code k)) refl refl

pub leaf_type_not : (k : Token) → among k leaf_types ≡ false → 0 ≡ leaf_type (code k)
unfolding all code is among leaf_type
leaf_type_not k h = alike (λ k. not (among k leaf_types)) (λ k. 0) (λ k. leaf_type (code k)) refl refl k (rw h)

module _ (k : Token) where
  pub container_type_not : (k ≡ T.Map → ⊥) → (k ≡ T.List → ⊥) → (k ≡ T.Set → ⊥) → 0 ≡ container_type (code k)
  unfolding container_type code
  container_type_not m l s = rw (unlike m, unlike l, unlike s)

  pub opener_not : (k ≡ T.LeftBracket → ⊥) → (k ≡ T.LeftBrace → ⊥) → false ≡ is_opener (code k)
  unfolding is_opener code
  opener_not l m = rw (unlike l, unlike m)

pub opener_is : (k : Token) → among k openers ≡ true → true ≡ is_opener (code k)
opener_is k h = sym h ∙ sym (opener_test.agrees k)

pub leaf_value_not : (k : Token) → among k leaf_values ≡ false → 0 ≡ leaf_value (code k)
unfolding all code is among leaf_value
leaf_value_not k h = alike (λ k. not (among k leaf_values)) (λ k. 0) (λ k. leaf_value (code k)) refl refl k (rw h)

-- a token ahead that is no bracket
pub bracket_not : {a : Option Token} {k : Token} → a ≡ Some k → (k ≡ T.LeftBracket → ⊥) → eqb (numbered a) 36 ≡ false
unfolding numbered code
bracket_not h n = rw h (unlike n)
