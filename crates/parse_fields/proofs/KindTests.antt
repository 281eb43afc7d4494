-- `name_test`: the code's test of a kind's number is the definitions' list of the kinds that name a field, by a test over all 52.
use mathlib.Core.Path.{◌≡◌, refl, sym, ◌∙◌}
use mathlib.Core.Bool.{true, false}
use mathlib.Core.List.{List, [], ◌∷◌}
use Rattle.token.specs.declared.Token.{Token}
use Rattle.token.specs.declared.Token.TheVariants as T
use Rattle.token.specs.Code.{code, is, among}
use Rattle.parser.specs.Definitions.{field_names}
use Rattle.parser.proofs.KindLaws.{all, same, agree, Tests}
use Rattle.parse_fields.specs.Into.{is_field_name, is_early_name}

pub name_test : Tests is_field_name field_names
unfolding all same code is among is_field_name is_early_name
name_test = record { agrees = agree (λ k. is_field_name (code k)) (λ k. among k field_names) refl refl; fails = refl }

-- the same as the code has it

abbrev pub words : List Token
words =
    T.Namespace ∷ T.Include ∷ T.Enum ∷ T.Struct ∷ T.Service ∷ T.Extends ∷ T.Throws ∷ T.Required ∷ T.Optional ∷ T.Bool ∷ T.Byte ∷ T.I8 ∷ T.I16 ∷ T.I32 ∷ T.I64 ∷ T.Double ∷ T.String
    ∷ T.Binary ∷ T.Map ∷ T.List ∷ T.Set ∷ T.Identifier ∷ T.Oneway ∷ []

pub name_word : (k : Token) → among k words ≡ true → true ≡ is_field_name (code k)
unfolding all same code is among is_field_name is_early_name
name_word k h = sym h ∙ agree (λ k. among k words) (λ k. is_field_name (code k)) refl refl k

pub name_not : (k : Token) → among k field_names ≡ false → false ≡ is_field_name (code k)
name_not k h = sym (name_test.agrees k ∙ h)
