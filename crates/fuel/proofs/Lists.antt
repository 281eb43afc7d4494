-- Every list of the definitions, with any amount of fuel above 65536 and at most 65536 tokens left: loop_fuel at each `many`.
use mathlib.Core.Path.{◌≡◌}
use mathlib.Core.List.{[], ◌∷◌}
use Prim.Native.Nat.{ℕ, ◌≤◌, ◌<◌}
use Rattle.token.specs.declared.Token.{Token}
use Rattle.token.specs.declared.Token.TheVariants as T
use Rattle.ast.specs.Ast.{nil, cons, pnil}
use Rattle.parser.specs.Steps.{St, loop, many}
use Rattle.parser.specs.Values.{values_end, put, map_property, field_value}
use Rattle.parser.specs.Definitions.{parse_annotation, annotations_end, parse_field, members_end, parse_function, parse_enum_member, parse_definition, document_end}
use Rattle.fuel.specs.Takes.{tokens_left}
use Rattle.fuel.proofs.Loop.{many_fuel}
use Rattle.fuel.proofs.Taken.{
  value_takes,
  property_takes,
  annotation_takes,
  field_takes,
  member_takes,
  function_takes,
  definition_takes,
  values_end_keeps,
  annotations_end_keeps,
  members_end_keeps,
  document_end_keeps,
}

module _ (n : ℕ) (s : St) (few : tokens_left s ≤ 65536) (more : 65536 < n) where
  pub elements_fuel : (d : ℕ) → loop nil cons (values_end T.RightBracket) (field_value d) n s ≡ many nil cons (values_end T.RightBracket) (field_value d) s
  elements_fuel d = many_fuel nil cons _ _ (values_end_keeps _) (value_takes d) n s few more

  pub properties_fuel : (d : ℕ) →
      loop pnil put (values_end T.RightBrace) (map_property (field_value d)) n s ≡ many pnil put (values_end T.RightBrace) (map_property (field_value d)) s
  properties_fuel d = many_fuel pnil put _ _ (values_end_keeps _) (property_takes _ (value_takes d)) n s few more

  pub annotations_fuel : loop [] ◌∷◌ annotations_end parse_annotation n s ≡ many [] ◌∷◌ annotations_end parse_annotation s
  annotations_fuel = many_fuel [] ◌∷◌ _ _ annotations_end_keeps annotation_takes n s few more

  -- of a structure, of parameters and of exceptions
  pub fields_fuel : (k : Token) → loop [] ◌∷◌ (members_end k) parse_field n s ≡ many [] ◌∷◌ (members_end k) parse_field s
  fields_fuel k = many_fuel [] ◌∷◌ _ _ (members_end_keeps k) field_takes n s few more

  pub members_fuel : (k : Token) → loop [] ◌∷◌ (members_end k) parse_enum_member n s ≡ many [] ◌∷◌ (members_end k) parse_enum_member s
  members_fuel k = many_fuel [] ◌∷◌ _ _ (members_end_keeps k) member_takes n s few more

  pub functions_fuel : (k : Token) → loop [] ◌∷◌ (members_end k) parse_function n s ≡ many [] ◌∷◌ (members_end k) parse_function s
  functions_fuel k = many_fuel [] ◌∷◌ _ _ (members_end_keeps k) function_takes n s few more

  pub definitions_fuel : loop [] ◌∷◌ document_end parse_definition n s ≡ many [] ◌∷◌ document_end parse_definition s
  definitions_fuel = many_fuel [] ◌∷◌ _ _ document_end_keeps definition_takes n s few more
