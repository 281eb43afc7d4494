-- The tree that is read, after rico's ast/definitions.rs. Its leaves are lexemes: kind, bytes and place.
use Rattle.std.specs.Prelude.{Bool, List}
use Rattle.std.specs.Prelude.{Option}
use Rattle.lexer.specs.declared.location.LOC.{LOC}
use Rattle.lexer.specs.Tokens.{Lexeme}

-- FieldType: a keyword (void too) or a name; list, set, map with the keyword's lexeme
pub data FieldType : Type 0 where
  CommonType : Lexeme → FieldType
  ListType SetType : LOC → Lexeme → FieldType → FieldType
  MapType : LOC → Lexeme → FieldType → FieldType → FieldType

-- FieldInitialValue; MapProperty is a property with its range, key and value
mutual
  pub data FieldInitialValue : Type 0 where
    ConstValue : Lexeme → FieldInitialValue
    ConstList : LOC → Elements → FieldInitialValue
    ConstMap : LOC → Properties → FieldInitialValue

  pub data Elements : Type 0 where
    nil : Elements
    cons : FieldInitialValue → Elements → Elements

  pub data Properties : Type 0 where
    pnil : Properties
    pcons : LOC → FieldInitialValue → FieldInitialValue → Properties → Properties

-- Annotation: range, name, value
pub data Annotation : Type 0 where
  annotation : LOC → Lexeme → Lexeme → Annotation

-- Option<Annotations>
pub data Annotations : Type 0 where
  absent : Annotations
  annotations : LOC → List Annotation → Annotations

-- required_type
pub data Required : Type 0 where
  default required optional : Required

-- Field: range, comments, id, requiredness, type, name, value, annotations
pub data Field : Type 0 where
  field : LOC → List Lexeme → Option Lexeme → Required → FieldType → Lexeme → Option FieldInitialValue → Annotations → Field

-- EnumMember: range, comments, name, initializer, annotations
pub data EnumMember : Type 0 where
  member : LOC → List Lexeme → Lexeme → Option Lexeme → Annotations → EnumMember

-- Function: range, comments, oneway, return type, name, parameters, throws, annotations
pub data Function : Type 0 where
  function : LOC → List Lexeme → Bool → FieldType → Lexeme → List Field → Option (List Field) → Annotations → Function

-- what parse_struct_like reads
pub data Structure : Type 0 where
  Struct Union Exception : Structure

-- DocumentMembers, each with its range and comments first
pub data Definition : Type 0 where
  Include CppInclude : LOC → List Lexeme → Lexeme → Definition
  Namespace : LOC → List Lexeme → Lexeme → Lexeme → Definition
  Const : LOC → List Lexeme → FieldType → Lexeme → FieldInitialValue → Definition
  Typedef : LOC → List Lexeme → FieldType → Lexeme → Definition
  Enum : LOC → List Lexeme → Lexeme → List EnumMember → Annotations → Definition
  structure : Structure → LOC → List Lexeme → Lexeme → List Field → Annotations → Definition
  Service : LOC → List Lexeme → Lexeme → Option Lexeme → List Function → Annotations → Definition
