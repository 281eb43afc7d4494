-- What every reading gives: the kinds of its lexemes, the nesting, the counts. Good k w: what is known of each token, its kind k and its bytes w.
use mathlib.Core.Path.{◌≡◌}
use mathlib.Core.Bool.{Bool, true}
use Rattle.std.specs.Prelude.{Option, Some, None}
use mathlib.Core.List.{List, [], ◌∷◌}
use Prim.Native.Nat.{ℕ, suc, ◌<◌}
use lib.ListN.{length}
use Rattle.token.specs.Code.{among}
use Rattle.token.specs.declared.Token.{Token}
use Rattle.token.specs.declared.Token.TheVariants as T
use Rattle.lexer.specs.declared.location.LOC.{LOC}
use Rattle.lexer.specs.Tokens.{Lexeme}
use Rattle.ast.specs.Lists.{All}
use Rattle.ast.specs.Ast.{
  FieldType,
  CommonType,
  ListType,
  SetType,
  MapType,
  FieldInitialValue,
  ConstValue,
  ConstList,
  ConstMap,
  Elements,
  nil,
  cons,
  Properties,
  pnil,
  pcons,
  Annotation,
  annotation,
  Annotations,
  absent,
  annotations,
  Required,
  Field,
  field,
  EnumMember,
  member,
  Function,
  function,
  Structure,
  Definition,
  Include,
  CppInclude,
  Namespace,
  Const,
  Typedef,
  Enum,
  structure,
  Service,
}
use Rattle.parser.specs.Steps.{kind, bytes}
use Rattle.parser.specs.Types.{leaf_types}
use Rattle.parser.specs.Values.{leaf_values}
use Rattle.parser.specs.Definitions.{is_id, field_names}

abbrev pub comment_kinds : List Token
comment_kinds = T.LineComment ∷ T.BlockComment ∷ []

-- a list that is read is shorter than this
abbrev pub most : ℕ
most = 65537

module _ (Good : Token → List ℕ → Type 0) where
  -- a good lexeme of one of these kinds
  pub record Tok (ks : List Token) (t : Lexeme) : Type 0 where
    pub kinds : among (kind t) ks ≡ true
    pub good : Good (kind t) (bytes t)

  -- at most so many containers inside one another
  pub data WfType : ℕ → FieldType → Type 0 where
    wcommon : {d : ℕ} {t : Lexeme} → Tok leaf_types t → WfType d (CommonType t)
    wlist : {d : ℕ} {l : LOC} {k : Lexeme} {t : FieldType} → Tok (T.List ∷ []) k → WfType d t → WfType (suc d) (ListType l k t)
    wset : {d : ℕ} {l : LOC} {k : Lexeme} {t : FieldType} → Tok (T.Set ∷ []) k → WfType d t → WfType (suc d) (SetType l k t)
    wmap : {d : ℕ} {l : LOC} {k : Lexeme} {a b : FieldType} → Tok (T.Map ∷ []) k → WfType d a → WfType d b → WfType (suc d) (MapType l k a b)

  -- of elements and properties, fewer than the second number
  mutual
    pub data WfValue : ℕ → FieldInitialValue → Type 0 where
      wleaf : {d : ℕ} {t : Lexeme} → Tok leaf_values t → WfValue d (ConstValue t)
      wseq : {d : ℕ} {l : LOC} {vs : Elements} → WfElements d most vs → WfValue (suc d) (ConstList l vs)
      wdict : {d : ℕ} {l : LOC} {ps : Properties} → WfProperties d most ps → WfValue (suc d) (ConstMap l ps)

    pub data WfElements : ℕ → ℕ → Elements → Type 0 where
      wnil : {d n : ℕ} → WfElements d (suc n) nil
      wcons : {d n : ℕ} {v : FieldInitialValue} {vs : Elements} → WfValue d v → WfElements d n vs → WfElements d (suc n) (cons v vs)

    pub data WfProperties : ℕ → ℕ → Properties → Type 0 where
      wpnil : {d n : ℕ} → WfProperties d (suc n) pnil
      wpcons : {d n : ℕ} {l : LOC} {k v : FieldInitialValue} {ps : Properties} →
          WfValue d k → WfValue d v → WfProperties d n ps → WfProperties d (suc n) (pcons l k v ps)

  pub data WfAnnotation : Annotation → Type 0 where
    wannotation : {l : LOC} {n v : Lexeme} → Tok (T.Identifier ∷ []) n → Tok (T.StringLiteral ∷ []) v → WfAnnotation (annotation l n v)

  pub data WfAnnotations : Annotations → Type 0 where
    wabsent : WfAnnotations absent
    wannotations : {l : LOC} {xs : List Annotation} → All WfAnnotation xs → length xs < most → WfAnnotations (annotations l xs)

  pub data WfId : Option Lexeme → Type 0 where
    wnoid : WfId None
    wid : {t : Lexeme} → Tok (T.IntegerLiteral ∷ []) t → is_id (bytes t) ≡ true → WfId (Some t)

  pub data WfDefault : Option FieldInitialValue → Type 0 where
    wnone : WfDefault None
    wsome : {v : FieldInitialValue} → WfValue 32 v → WfDefault (Some v)

  pub data WfField : Field → Type 0 where
    wfield : {l : LOC} {c : List Lexeme} {i : Option Lexeme} {q : Required} {t : FieldType} {n : Lexeme} {v : Option FieldInitialValue} {a : Annotations} →
        All (Tok comment_kinds) c → WfId i → WfType 32 t → Tok field_names n → WfDefault v → WfAnnotations a → WfField (field l c i q t n v a)

  pub data WfThrows : Option (List Field) → Type 0 where
    wquiet : WfThrows None
    wthrows : {fs : List Field} → All WfField fs → length fs < most → WfThrows (Some fs)

  pub data WfReturn : FieldType → Type 0 where
    wvoid : {t : Lexeme} → Tok (T.Void ∷ []) t → WfReturn (CommonType t)
    wtype : {t : FieldType} → WfType 32 t → WfReturn t

  pub data WfFunction : Function → Type 0 where
    wfunction : {l : LOC} {c : List Lexeme} {o : Bool} {t : FieldType} {n : Lexeme} {ps : List Field} {th : Option (List Field)} {a : Annotations} →
        All (Tok comment_kinds) c → WfReturn t → Tok (T.Identifier ∷ []) n → All WfField ps → length ps < most → WfThrows th → WfAnnotations a →
        WfFunction (function l c o t n ps th a)

  -- a lexeme of one of these kinds, if any: an initializer, an extended service
  pub data WfOption (ks : List Token) : Option Lexeme → Type 0 where
    wnothing : WfOption ks None
    wjust : {t : Lexeme} → Tok ks t → WfOption ks (Some t)

  pub data WfMember : EnumMember → Type 0 where
    wmember : {l : LOC} {c : List Lexeme} {n : Lexeme} {v : Option Lexeme} {a : Annotations} →
        All (Tok comment_kinds) c → Tok (T.Identifier ∷ []) n → WfOption (T.IntegerLiteral ∷ T.HexLiteral ∷ []) v → WfAnnotations a →
        WfMember (member l c n v a)

  pub data WfDefinition : Definition → Type 0 where
    winclude : {l : LOC} {c : List Lexeme} {n : Lexeme} → All (Tok comment_kinds) c → Tok (T.StringLiteral ∷ []) n → WfDefinition (Include l c n)
    wcpp : {l : LOC} {c : List Lexeme} {n : Lexeme} → All (Tok comment_kinds) c → Tok (T.StringLiteral ∷ []) n → WfDefinition (CppInclude l c n)
    wnamespace : {l : LOC} {c : List Lexeme} {s n : Lexeme} →
        All (Tok comment_kinds) c → Tok (T.Identifier ∷ T.Star ∷ []) s → Tok (T.Identifier ∷ []) n → WfDefinition (Namespace l c s n)
    wconst : {l : LOC} {c : List Lexeme} {t : FieldType} {n : Lexeme} {v : FieldInitialValue} →
        All (Tok comment_kinds) c → WfType 32 t → Tok (T.Identifier ∷ []) n → WfValue 32 v → WfDefinition (Const l c t n v)
    wtypedef : {l : LOC} {c : List Lexeme} {t : FieldType} {n : Lexeme} →
        All (Tok comment_kinds) c → WfType 32 t → Tok (T.Identifier ∷ []) n → WfDefinition (Typedef l c t n)
    wenum : {l : LOC} {c : List Lexeme} {n : Lexeme} {xs : List EnumMember} {a : Annotations} →
        All (Tok comment_kinds) c → Tok (T.Identifier ∷ []) n → All WfMember xs → length xs < most → WfAnnotations a → WfDefinition (Enum l c n xs a)
    wstructure : {s : Structure} {l : LOC} {c : List Lexeme} {n : Lexeme} {fs : List Field} {a : Annotations} →
        All (Tok comment_kinds) c → Tok (T.Identifier ∷ []) n → All WfField fs → length fs < most → WfAnnotations a →
        WfDefinition (structure s l c n fs a)
    wservice : {l : LOC} {c : List Lexeme} {n : Lexeme} {x : Option Lexeme} {fs : List Function} {a : Annotations} →
        All (Tok comment_kinds) c → Tok (T.Identifier ∷ []) n → WfOption (T.Identifier ∷ []) x → All WfFunction fs → length fs < most → WfAnnotations a →
        WfDefinition (Service l c n x fs a)
