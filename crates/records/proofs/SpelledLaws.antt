-- Where the lexemes of definitions stand in a text, their trees are spelled in it.
--     forest_spelled    so of every accepted reading: `document_reads` of parser/proofs/Walk has the premise
use mathlib.Core.Path.{◌≡◌, refl, sym, ◌∙◌}
use mathlib.Core.Bool.{false, cond, false≢true}
use mathlib.Core.List.{List, []}
use Rattle.std.specs.Prelude.{Option}
use Prim.Native.Nat.{ℕ}
use Rattle.token.specs.Code.{is}
use Rattle.token.specs.declared.Token.{Token}
use Rattle.token.specs.declared.Token.TheVariants as T
use Rattle.lexer.specs.Tokens.{Lexeme, lexeme}
use Rattle.lexer.specs.declared.location.LOC.{LOC}
use Rattle.ast.specs.Kind as K
use Rattle.ast.specs.Lists.{All, anil, acons}
use Rattle.ast.specs.Ast.{
  FieldType,
  FieldInitialValue,
  Elements,
  Properties,
  Annotation,
  Annotations,
  Field,
  EnumMember,
  Function,
  Structure,
  Struct,
  Union,
  Exception,
  Definition,
}
use Rattle.ast.specs.Tree.{Tree, node, Forest, leaf, inner, single, both, each, perhaps, name_tree, id_tree, type_tree, value_kind, literal_tree, value_tree, element_trees, property_trees, annotation_tree, annotations_tree, field_tree, member_tree, throws_trees, function_tree, structure_kind, definition_tree}
use Rattle.ast.specs.Records.{forest}
use Rattle.parser.specs.Steps.{bytes, place}
use Rattle.parser.proofs.Lexemes.{Stands}
use Rattle.parser.proofs.Each.{Kinded, EachOption, enone, esome, EachType, ecommon, elist, eset, emap, EachValue, eleaf, eseq, edict, EachElements, enil, econs, EachProperties, epnil, epcons, EachAnnotation, eannotation, EachAnnotations, eabsent, eannotations, EachField, efield, EachMember, emember, EachFunction, efunction, EachDefinition, einclude, ecpp, enamespace, econst, etypedef, eenum, estructure, eservice}
use Rattle.records.specs.Table.{is_token, SpelledTree, spelled, Spelled, snone, smore}
use Rattle.records.proofs.ShownLaws.{stands_part}

module _ (text : List ℕ) where
  abbrev S : Lexeme → Type 0
  S = Stands text

  -- no token of its own
  inside : {k f : ℕ} {l : LOC} {c : List Lexeme} {ts : Forest} → is_token k ≡ false → Spelled text ts → SpelledTree text (node k f l [] c ts)
  inside h s = spelled (λ e. absurd (false≢true (sym h ∙ e))) s

  leaf_spelled : (k : ℕ) {x : Lexeme} → S x → SpelledTree text (leaf k x)
  unfolding leaf bytes place
  leaf_spelled k {x = lexeme t w l} h = spelled (λ e. stands_part text (lexeme t w l) h) snone

  each_spelled : {A : Type 0} {W : A → Type 0} {f : A → Tree} → ((x : A) → W x → SpelledTree text (f x)) → {xs : List A} {r : Forest} →
      All W xs → Spelled text r → Spelled text (each f xs r)
  unfolding each
  each_spelled g anil s = s
  each_spelled g (acons {x = x} h hs) s = smore (g x h) (each_spelled g hs s)

  perhaps_spelled : {A : Type 0} {W : A → Type 0} {f : A → Tree} → ((x : A) → W x → SpelledTree text (f x)) → {o : Option A} {r : Forest} →
      EachOption W o → Spelled text r → Spelled text (perhaps f o r)
  unfolding perhaps
  perhaps_spelled g enone s = s
  perhaps_spelled g (esome {x = x} h) s = smore (g x h) s

  -- ---- the trees of definitions

  type_spelled : {d : ℕ} {t : FieldType} → EachType S d t → SpelledTree text (type_tree t)
  unfolding type_tree inner single both is_token
  type_spelled (ecommon {t = lexeme t w l} h) = leaf_spelled (cond (is t T.Identifier) K.NamedType K.KeywordType) h
  type_spelled (elist k h) = inside refl (smore (type_spelled h) snone)
  type_spelled (eset k h) = inside refl (smore (type_spelled h) snone)
  type_spelled (emap k g h) = inside refl (smore (type_spelled g) (smore (type_spelled h) snone))

  literal_spelled : {x : Lexeme} → S x → SpelledTree text (literal_tree x)
  unfolding literal_tree
  literal_spelled {x = lexeme t w l} h = leaf_spelled (value_kind t) h

  mutual
    unfolding value_tree inner both single is_token

    value_spelled : {d : ℕ} {v : FieldInitialValue} → EachValue S d v → SpelledTree text (value_tree v)
    value_spelled (eleaf h) = literal_spelled h
    value_spelled (eseq h) = inside refl (elements_spelled h)
    value_spelled (edict h) = inside refl (properties_spelled h)

    elements_spelled : {d : ℕ} {vs : Elements} → EachElements S d vs → Spelled text (element_trees vs)
    elements_spelled enil = snone
    elements_spelled (econs h hs) = smore (value_spelled h) (elements_spelled hs)

    properties_spelled : {d : ℕ} {ps : Properties} → EachProperties S d ps → Spelled text (property_trees ps)
    properties_spelled epnil = snone
    properties_spelled (epcons g h hs) = smore (inside refl (smore (value_spelled g) (smore (value_spelled h) snone))) (properties_spelled hs)

  name_spelled : {ks : List Token} {x : Lexeme} → Kinded S ks x → SpelledTree text (name_tree x)
  unfolding name_tree
  name_spelled h = leaf_spelled K.Name h.holds

  id_spelled : {x : Lexeme} → S x → SpelledTree text (id_tree x)
  unfolding id_tree
  id_spelled h = leaf_spelled K.FieldId h

  annotation_spelled : {a : Annotation} → EachAnnotation S a → SpelledTree text (annotation_tree a)
  unfolding annotation_tree inner both single is_token
  annotation_spelled (eannotation g h) = inside refl (smore (name_spelled g) (smore (literal_spelled h) snone))

  annotations_spelled : {a : Annotations} {r : Forest} → EachAnnotations S a → Spelled text r → Spelled text (annotations_tree a r)
  unfolding annotations_tree inner is_token
  annotations_spelled eabsent s = s
  annotations_spelled (eannotations h) s = smore (inside refl (each_spelled (λ x h. annotation_spelled h) h snone)) s

  field_spelled : (f : ℕ) {x : Field} → EachField S x → SpelledTree text (field_tree f x)
  unfolding field_tree is_token
  field_spelled f (efield c i t n v a) =
      inside refl
      (perhaps_spelled (λ x h. id_spelled h) i (smore (type_spelled t) (smore (name_spelled n) (perhaps_spelled (λ x h. value_spelled h) v (annotations_spelled a snone)))))

  member_spelled : {x : EnumMember} → EachMember S x → SpelledTree text (member_tree x)
  unfolding member_tree is_token
  member_spelled (emember c n v a) = inside refl (smore (name_spelled n) (perhaps_spelled (λ x h. literal_spelled h) v (annotations_spelled a snone)))

  throws_spelled : {x : Option (List Field)} {r : Forest} → EachOption (All (EachField S)) x → Spelled text r → Spelled text (throws_trees x r)
  unfolding throws_trees
  throws_spelled enone s = s
  throws_spelled (esome h) s = each_spelled (λ x h. field_spelled K.Thrown h) h s

  function_spelled : {x : Function} → EachFunction S x → SpelledTree text (function_tree x)
  unfolding function_tree is_token
  function_spelled (efunction c t n ps th a) =
      inside refl
      (smore (type_spelled t) (smore (name_spelled n) (each_spelled (λ x h. field_spelled 0 h) ps (throws_spelled th (annotations_spelled a snone)))))

  structure_kind_law : (s : Structure) → is_token (structure_kind s) ≡ false
  unfolding structure_kind is_token
  structure_kind_law Struct = refl
  structure_kind_law Union = refl
  structure_kind_law Exception = refl

  definition_spelled : {d : Definition} → EachDefinition S d → SpelledTree text (definition_tree d)
  unfolding definition_tree single both is_token
  definition_spelled (einclude c n) = inside refl (smore (name_spelled n) snone)
  definition_spelled (ecpp c n) = inside refl (smore (name_spelled n) snone)
  definition_spelled (enamespace c s n) = inside refl (smore (name_spelled s) (smore (name_spelled n) snone))
  definition_spelled (econst c t n v) = inside refl (smore (type_spelled t) (smore (name_spelled n) (smore (value_spelled v) snone)))
  definition_spelled (etypedef c t n) = inside refl (smore (type_spelled t) (smore (name_spelled n) snone))
  definition_spelled (eenum c n ms a) = inside refl (smore (name_spelled n) (each_spelled (λ x h. member_spelled h) ms (annotations_spelled a snone)))
  definition_spelled (estructure {s = s} c n fs a) =
      inside (structure_kind_law s) (smore (name_spelled n) (each_spelled (λ x h. field_spelled 0 h) fs (annotations_spelled a snone)))
  definition_spelled (eservice c n x fs a) =
      inside refl (smore (name_spelled n) (perhaps_spelled (λ x h. name_spelled h) x (each_spelled (λ x h. function_spelled h) fs (annotations_spelled a snone))))

  pub forest_spelled : {ds : List Definition} → All (EachDefinition S) ds → Spelled text (forest ds)
  unfolding forest
  forest_spelled h = each_spelled (λ x h. definition_spelled h) h snone
