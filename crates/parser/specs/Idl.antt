-- Types and constant values as Apache's Thrift IDL has them: productions [23] to [31], [34] and [35] over lexemes, as derivations; [32] and [33], over the bytes of
-- a lexeme, stand in constants/specs/Constants.
-- `X ts x e r`: the tokens ts begin with a run that derives x, whose last token is at e, and r is left behind it.
-- Each departure of rico is marked (docs/DIFFERENCES.md has its smallest text).
use Rattle.std.specs.Prelude.{List, ◌∷◌, ℕ, suc}
use Rattle.token.specs.declared.Token.{Token}
use Rattle.token.specs.declared.Token.TheVariants as T
use Rattle.lexer.specs.declared.location.LOC.{LOC}
use Rattle.lexer.specs.Tokens.{Lexeme, lexeme}
use Rattle.ast.specs.Ast.{
  FieldType,
  CommonType,
  ListType,
  SetType,
  MapType,
  FieldInitialValue,
  ConstValue,
  ConstList,
  ConstMap,
  Elements,
  nil,
  cons,
  Properties,
  pnil,
  pcons,
}
use Rattle.parser.specs.Steps.{span}

-- [25] BaseType. Departure: no 'uuid', which is an Identifier
pub data BaseType : Token → Type 0 where
  bool : BaseType T.Bool
  byte : BaseType T.Byte
  i8 : BaseType T.I8
  i16 : BaseType T.I16
  i32 : BaseType T.I32
  i64 : BaseType T.I64
  double : BaseType T.Double
  string : BaseType T.String
  binary : BaseType T.Binary

-- [23] FieldType ::= Identifier | BaseType | ContainerType; [26] ContainerType ::= MapType | SetType | ListType.
-- [24] DefinitionType. Departure: a typedef takes a FieldType, so an Identifier too.
-- [30] CppType. Departure: there is none, in [27], [28] and [29]
pub data DerivesType : List Lexeme → FieldType → LOC → List Lexeme → Type 0 where
  identifier : {w : List ℕ} {l : LOC} {r : List Lexeme} → DerivesType (lexeme T.Identifier w l ∷ r) (CommonType (lexeme T.Identifier w l)) l r
  base : {k : Token} {w : List ℕ} {l : LOC} {r : List Lexeme} → BaseType k → DerivesType (lexeme k w l ∷ r) (CommonType (lexeme k w l)) l r
  -- [27] 'map' '<' FieldType ',' FieldType '>'
  map : {a b : FieldType} {w w1 w2 w3 : List ℕ} {l l1 l2 l3 d e : LOC} {ts us r : List Lexeme} →
      DerivesType ts a d (lexeme T.Comma w2 l2 ∷ us) → DerivesType us b e (lexeme T.RightAngle w3 l3 ∷ r) →
      DerivesType (lexeme T.Map w l ∷ lexeme T.LeftAngle w1 l1 ∷ ts) (MapType (span l l3) (lexeme T.Map w l) a b) l3 r
  -- [28] 'set' '<' FieldType '>'
  set : {a : FieldType} {w w1 w2 : List ℕ} {l l1 l2 e : LOC} {ts r : List Lexeme} → DerivesType ts a e (lexeme T.RightAngle w2 l2 ∷ r) →
      DerivesType (lexeme T.Set w l ∷ lexeme T.LeftAngle w1 l1 ∷ ts) (SetType (span l l2) (lexeme T.Set w l) a) l2 r
  -- [29] 'list' '<' FieldType '>'
  list : {a : FieldType} {w w1 w2 : List ℕ} {l l1 l2 e : LOC} {ts r : List Lexeme} → DerivesType ts a e (lexeme T.RightAngle w2 l2 ∷ r) →
      DerivesType (lexeme T.List w l ∷ lexeme T.LeftAngle w1 l1 ∷ ts) (ListType (span l l2) (lexeme T.List w l) a) l2 r

-- [31] the ConstValues of one token. [32] IntConstant and [33] DoubleConstant are the lexer's (constants/proofs/Whole holds them to its tokens), as are
-- [36] Literal and [37] Identifier.
-- Departures: a boolean and a hexadecimal number are values of their own; a literal has escapes (docs/DIFFERENCES.md)
pub data Constant : Token → Type 0 where
  int : Constant T.IntegerLiteral
  double : Constant T.DoubleLiteral
  literal : Constant T.StringLiteral
  identifier : Constant T.Identifier
  boolean : Constant T.BooleanLiteral
  hex : Constant T.HexLiteral

pub data Separator : Token → Type 0 where
  comma : Separator T.Comma
  semicolon : Separator T.Semicolon

pub data Comment : Token → Type 0 where
  line : Comment T.LineComment
  block : Comment T.BlockComment

-- before an element or the closing bracket. Departure: any number of separators, also before the first element, and comments behind them
pub data Comments : List Lexeme → List Lexeme → Type 0 where
  done : {r : List Lexeme} → Comments r r
  comment : {k : Token} {w : List ℕ} {l : LOC} {ts r : List Lexeme} → Comment k → Comments ts r → Comments (lexeme k w l ∷ ts) r

pub data Gap : List Lexeme → List Lexeme → Type 0 where
  notes : {ts r : List Lexeme} → Comments ts r → Gap ts r
  separator : {k : Token} {w : List ℕ} {l : LOC} {ts r : List Lexeme} → Separator k → Gap ts r → Gap (lexeme k w l ∷ ts) r

mutual
  -- [31] ConstValue ::= IntConstant | DoubleConstant | Literal | Identifier | ConstList | ConstMap
  pub data DerivesValue : List Lexeme → FieldInitialValue → LOC → List Lexeme → Type 0 where
    constant : {k : Token} {w : List ℕ} {l : LOC} {r : List Lexeme} → Constant k → DerivesValue (lexeme k w l ∷ r) (ConstValue (lexeme k w l)) l r
    -- [34] ConstList ::= '[' (ConstValue ListSeparator?)* ']'
    list : {vs : Elements} {w : List ℕ} {l e : LOC} {ts r : List Lexeme} → DerivesElements ts vs e r →
        DerivesValue (lexeme T.LeftBracket w l ∷ ts) (ConstList (span l e) vs) e r
    -- [35] ConstMap ::= '{' (ConstValue ':' ConstValue ListSeparator?)* '}'
    map : {ps : Properties} {w : List ℕ} {l e : LOC} {ts r : List Lexeme} → DerivesProperties ts ps e r →
        DerivesValue (lexeme T.LeftBrace w l ∷ ts) (ConstMap (span l e) ps) e r

  -- the elements, up to the closing bracket and with it
  pub data DerivesElements : List Lexeme → Elements → LOC → List Lexeme → Type 0 where
    close : {w : List ℕ} {l : LOC} {ts r : List Lexeme} → Gap ts (lexeme T.RightBracket w l ∷ r) → DerivesElements ts nil l r
    more : {v : FieldInitialValue} {vs : Elements} {d e : LOC} {ts us xs r : List Lexeme} →
        Gap ts us → DerivesValue us v d xs → DerivesElements xs vs e r → DerivesElements ts (cons v vs) e r

  -- a property's range is from its key's first token, the one at b, to its value's last
  pub data DerivesProperties : List Lexeme → Properties → LOC → List Lexeme → Type 0 where
    end : {w : List ℕ} {l : LOC} {ts r : List Lexeme} → Gap ts (lexeme T.RightBrace w l ∷ r) → DerivesProperties ts pnil l r
    next : {k v : FieldInitialValue} {ps : Properties} {q : Token} {w w1 : List ℕ} {b l c d e : LOC} {ts us xs ys r : List Lexeme} →
        Gap ts (lexeme q w b ∷ us) → DerivesValue (lexeme q w b ∷ us) k c (lexeme T.Colon w1 l ∷ xs) → DerivesValue xs v d ys →
        DerivesProperties ys ps e r → DerivesProperties ts (pcons (span b d) k v ps) e r

-- at most so many containers inside one another
pub data WithinType : ℕ → FieldType → Type 0 where
  common : {d : ℕ} {t : Lexeme} → WithinType d (CommonType t)
  list : {d : ℕ} {l : LOC} {k : Lexeme} {a : FieldType} → WithinType d a → WithinType (suc d) (ListType l k a)
  set : {d : ℕ} {l : LOC} {k : Lexeme} {a : FieldType} → WithinType d a → WithinType (suc d) (SetType l k a)
  map : {d : ℕ} {l : LOC} {k : Lexeme} {a b : FieldType} → WithinType d a → WithinType d b → WithinType (suc d) (MapType l k a b)

mutual
  pub data WithinValue : ℕ → FieldInitialValue → Type 0 where
    constant : {d : ℕ} {t : Lexeme} → WithinValue d (ConstValue t)
    list : {d : ℕ} {l : LOC} {vs : Elements} → WithinElements d vs → WithinValue (suc d) (ConstList l vs)
    map : {d : ℕ} {l : LOC} {ps : Properties} → WithinProperties d ps → WithinValue (suc d) (ConstMap l ps)

  pub data WithinElements : ℕ → Elements → Type 0 where
    none : {d : ℕ} → WithinElements d nil
    element : {d : ℕ} {v : FieldInitialValue} {vs : Elements} → WithinValue d v → WithinElements d vs → WithinElements d (cons v vs)

  pub data WithinProperties : ℕ → Properties → Type 0 where
    empty : {d : ℕ} → WithinProperties d pnil
    property : {d : ℕ} {l : LOC} {k v : FieldInitialValue} {ps : Properties} →
        WithinValue d k → WithinValue d v → WithinProperties d ps → WithinProperties d (pcons l k v ps)
