-- What is known of each lexeme of a tree. Holds t: what is known of each token; a name is of the kinds that the grammar has there.
use mathlib.Core.Path.{◌≡◌}
use mathlib.Core.Bool.{Bool, true}
use mathlib.Core.List.{List, [], ◌∷◌}
use Rattle.std.specs.Prelude.{Option, Some, None}
use Prim.Native.Nat.{ℕ, suc}
use Rattle.token.specs.Code.{among}
use Rattle.token.specs.declared.Token.{Token}
use Rattle.token.specs.declared.Token.TheVariants as T
use Rattle.lexer.specs.declared.location.LOC.{LOC}
use Rattle.lexer.specs.Tokens.{Lexeme}
use Rattle.ast.specs.Lists.{All}
use Rattle.ast.specs.Ast.{
  FieldType,
  CommonType,
  ListType,
  SetType,
  MapType,
  FieldInitialValue,
  ConstValue,
  ConstList,
  ConstMap,
  Elements,
  nil,
  cons,
  Properties,
  pnil,
  pcons,
  Annotation,
  annotation,
  Annotations,
  absent,
  annotations,
  Required,
  Field,
  field,
  EnumMember,
  member,
  Function,
  function,
  Structure,
  Definition,
  Include,
  CppInclude,
  Namespace,
  Const,
  Typedef,
  Enum,
  structure,
  Service,
}
use Rattle.parser.specs.Steps.{kind}
use Rattle.parser.specs.Definitions.{field_names}

-- of what may be there
pub data EachOption {A : Type 0} (W : A → Type 0) : Option A → Type 0 where
  enone : EachOption W None
  esome : {x : A} → W x → EachOption W (Some x)

module _ (Holds : Lexeme → Type 0) where
  -- a lexeme of one of these kinds
  pub record Kinded (ks : List Token) (t : Lexeme) : Type 0 where
    pub kinds : among (kind t) ks ≡ true
    pub holds : Holds t

  abbrev Identifier : Lexeme → Type 0
  Identifier = Kinded (T.Identifier ∷ [])

  -- at most so many containers inside one another
  pub data EachType : ℕ → FieldType → Type 0 where
    ecommon : {d : ℕ} {t : Lexeme} → Holds t → EachType d (CommonType t)
    elist : {d : ℕ} {l : LOC} {k : Lexeme} {t : FieldType} → Kinded (T.List ∷ []) k → EachType d t → EachType (suc d) (ListType l k t)
    eset : {d : ℕ} {l : LOC} {k : Lexeme} {t : FieldType} → Kinded (T.Set ∷ []) k → EachType d t → EachType (suc d) (SetType l k t)
    emap : {d : ℕ} {l : LOC} {k : Lexeme} {a b : FieldType} → Kinded (T.Map ∷ []) k → EachType d a → EachType d b → EachType (suc d) (MapType l k a b)

  mutual
    pub data EachValue : ℕ → FieldInitialValue → Type 0 where
      eleaf : {d : ℕ} {t : Lexeme} → Holds t → EachValue d (ConstValue t)
      eseq : {d : ℕ} {l : LOC} {vs : Elements} → EachElements d vs → EachValue (suc d) (ConstList l vs)
      edict : {d : ℕ} {l : LOC} {ps : Properties} → EachProperties d ps → EachValue (suc d) (ConstMap l ps)

    pub data EachElements : ℕ → Elements → Type 0 where
      enil : {d : ℕ} → EachElements d nil
      econs : {d : ℕ} {v : FieldInitialValue} {vs : Elements} → EachValue d v → EachElements d vs → EachElements d (cons v vs)

    pub data EachProperties : ℕ → Properties → Type 0 where
      epnil : {d : ℕ} → EachProperties d pnil
      epcons : {d : ℕ} {l : LOC} {k v : FieldInitialValue} {ps : Properties} →
          EachValue d k → EachValue d v → EachProperties d ps → EachProperties d (pcons l k v ps)

  pub data EachAnnotation : Annotation → Type 0 where
    eannotation : {l : LOC} {n v : Lexeme} → Identifier n → Holds v → EachAnnotation (annotation l n v)

  pub data EachAnnotations : Annotations → Type 0 where
    eabsent : EachAnnotations absent
    eannotations : {l : LOC} {xs : List Annotation} → All EachAnnotation xs → EachAnnotations (annotations l xs)

  -- comments, id, type, name, value, annotations
  pub data EachField : Field → Type 0 where
    efield : {l : LOC} {c : List Lexeme} {i : Option Lexeme} {q : Required} {t : FieldType} {n : Lexeme} {v : Option FieldInitialValue} {a : Annotations} →
        All Holds c → EachOption Holds i → EachType 32 t → Kinded field_names n → EachOption (EachValue 32) v → EachAnnotations a → EachField (field l c i q t n v a)

  -- comments, name, initializer, annotations
  pub data EachMember : EnumMember → Type 0 where
    emember : {l : LOC} {c : List Lexeme} {n : Lexeme} {v : Option Lexeme} {a : Annotations} →
        All Holds c → Identifier n → EachOption Holds v → EachAnnotations a → EachMember (member l c n v a)

  -- comments, return type, name, parameters, throws, annotations
  pub data EachFunction : Function → Type 0 where
    efunction : {l : LOC} {c : List Lexeme} {o : Bool} {t : FieldType} {n : Lexeme} {ps : List Field} {th : Option (List Field)} {a : Annotations} →
        All Holds c → EachType 32 t → Identifier n → All EachField ps → EachOption (All EachField) th → EachAnnotations a →
        EachFunction (function l c o t n ps th a)

  pub data EachDefinition : Definition → Type 0 where
    einclude : {l : LOC} {c : List Lexeme} {n : Lexeme} → All Holds c → Kinded (T.StringLiteral ∷ []) n → EachDefinition (Include l c n)
    ecpp : {l : LOC} {c : List Lexeme} {n : Lexeme} → All Holds c → Kinded (T.StringLiteral ∷ []) n → EachDefinition (CppInclude l c n)
    enamespace : {l : LOC} {c : List Lexeme} {s n : Lexeme} → All Holds c → Kinded (T.Identifier ∷ T.Star ∷ []) s → Identifier n → EachDefinition (Namespace l c s n)
    econst : {l : LOC} {c : List Lexeme} {t : FieldType} {n : Lexeme} {v : FieldInitialValue} →
        All Holds c → EachType 32 t → Identifier n → EachValue 32 v → EachDefinition (Const l c t n v)
    etypedef : {l : LOC} {c : List Lexeme} {t : FieldType} {n : Lexeme} → All Holds c → EachType 32 t → Identifier n → EachDefinition (Typedef l c t n)
    eenum : {l : LOC} {c : List Lexeme} {n : Lexeme} {xs : List EnumMember} {a : Annotations} →
        All Holds c → Identifier n → All EachMember xs → EachAnnotations a → EachDefinition (Enum l c n xs a)
    estructure : {s : Structure} {l : LOC} {c : List Lexeme} {n : Lexeme} {fs : List Field} {a : Annotations} →
        All Holds c → Identifier n → All EachField fs → EachAnnotations a → EachDefinition (structure s l c n fs a)
    eservice : {l : LOC} {c : List Lexeme} {n : Lexeme} {x : Option Lexeme} {fs : List Function} {a : Annotations} →
        All Holds c → Identifier n → EachOption Identifier x → All EachFunction fs → EachAnnotations a → EachDefinition (Service l c n x fs a)
