-- The print of each definition: rico's writer/types.rs, values.rs, common.rs and document.rs.
-- It is made of pieces, blanks and tokens: its bytes and its tokens are both read off them. `writeX x r` is x's pieces, then r.
use Rattle.std.specs.Prelude.{Bool, true, false, List, [], ◌∷◌, ◌++◌, ℕ, replicate}
use Rattle.std.specs.Prelude.{Option, Some, None}
use Prim.Native.String.{String}
use Rattle.token.specs.Regex.{bytes as ascii}
use Rattle.token.specs.declared.Token.{Token}
use Rattle.token.specs.declared.Token.TheVariants as T
use Rattle.lexer.specs.Tokens.{Lexeme, lexeme}
use Rattle.ast.specs.Ast.{
  FieldType,
  CommonType,
  ListType,
  SetType,
  MapType,
  FieldInitialValue,
  ConstValue,
  ConstList,
  ConstMap,
  Elements,
  nil,
  cons,
  Properties,
  pnil,
  pcons,
  Annotation,
  annotation,
  Annotations,
  absent,
  annotations,
  Required,
  default,
  required,
  optional,
  Field,
  field,
  EnumMember,
  member,
  Function,
  function,
  Structure,
  Struct,
  Union,
  Exception,
  Definition,
  Include,
  CppInclude,
  Namespace,
  Const,
  Typedef,
  Enum,
  structure,
  Service,
}

-- blanks; a token of one byte; a token that ends at a break; a comment and the newline behind it
pub data Piece : Type 0 where
  gap : List ℕ → Piece
  mark : Token → ℕ → Piece
  word : Token → List ℕ → Piece
  note : Token → List ℕ → Piece

unfoldable pub bytes_of : List Piece → List ℕ
bytes_of [] = []
bytes_of (gap b ∷ r) = b ++ bytes_of r
bytes_of (mark k b ∷ r) = b ∷ bytes_of r
bytes_of (word k b ∷ r) = b ++ bytes_of r
bytes_of (note k b ∷ r) = b ++ (10 ∷ bytes_of r)

-- a token's own bytes; a keyword
unfoldable pub own : Lexeme → Piece
own (lexeme k w l) = word k w

unfoldable pub keyword : Token → String → Piece
keyword k s = word k (ascii s)

abbrev pub space : Piece
space = gap (32 ∷ [])

abbrev pub line : Piece
line = gap (10 ∷ [])

abbrev pub comma : Piece
comma = mark T.Comma 44

-- write_field_type
unfoldable pub write_type : FieldType → List Piece → List Piece
write_type (CommonType t) r = own t ∷ r
write_type (ListType l k t) r = own k ∷ mark T.LeftAngle 60 ∷ write_type t (mark T.RightAngle 62 ∷ r)
write_type (SetType l k t) r = own k ∷ mark T.LeftAngle 60 ∷ write_type t (mark T.RightAngle 62 ∷ r)
write_type (MapType l k a b) r = own k ∷ mark T.LeftAngle 60 ∷ write_type a (comma ∷ space ∷ write_type b (mark T.RightAngle 62 ∷ r))

-- write_field_value; `, ` before each but the first
unfoldable mutual
  pub write_value : FieldInitialValue → List Piece → List Piece
  write_value (ConstValue t) r = own t ∷ r
  write_value (ConstList l vs) r = mark T.LeftBracket 91 ∷ write_elements vs (mark T.RightBracket 93 ∷ r)
  write_value (ConstMap l ps) r = mark T.LeftBrace 123 ∷ write_properties ps (mark T.RightBrace 125 ∷ r)

  pub write_elements : Elements → List Piece → List Piece
  write_elements nil r = r
  write_elements (cons v vs) r = write_value v (more_elements vs r)

  pub more_elements : Elements → List Piece → List Piece
  more_elements nil r = r
  more_elements (cons v vs) r = comma ∷ space ∷ write_value v (more_elements vs r)

  pub write_properties : Properties → List Piece → List Piece
  write_properties pnil r = r
  write_properties (pcons l k v ps) r = write_value k (mark T.Colon 58 ∷ space ∷ write_value v (more_properties ps r))

  pub more_properties : Properties → List Piece → List Piece
  more_properties pnil r = r
  more_properties (pcons l k v ps) r = comma ∷ space ∷ write_value k (mark T.Colon 58 ∷ space ∷ write_value v (more_properties ps r))

-- a list, with what stands between two of it
unfoldable pub write_each : {A : Type 0} → (List A → List Piece → List Piece) → (A → List Piece → List Piece) → List A → List Piece → List Piece
write_each between write [] r = r
write_each between write (x ∷ xs) r = write x (between xs (write_each between write xs r))

unfoldable pub commas : {A : Type 0} → List A → List Piece → List Piece
commas [] r = r
commas (x ∷ xs) r = comma ∷ space ∷ r

unfoldable pub nothing : {A : Type 0} → List A → List Piece → List Piece
nothing xs r = r

-- write_annotations
unfoldable pub write_annotation : Annotation → List Piece → List Piece
write_annotation (annotation l n v) r = own n ∷ space ∷ mark T.Equals 61 ∷ space ∷ own v ∷ r

unfoldable pub write_annotations : Annotations → List Piece → List Piece
write_annotations absent r = r
write_annotations (annotations l xs) r = space ∷ mark T.LeftParen 40 ∷ write_each commas write_annotation xs (mark T.RightParen 41 ∷ r)

-- write_comments: each on a line of its own, behind the indent
unfoldable pub write_comment : Lexeme → Piece
write_comment (lexeme k w l) = note k w

unfoldable pub write_comments : List ℕ → List Lexeme → List Piece → List Piece
write_comments ind [] r = r
write_comments ind (c ∷ cs) r = gap ind ∷ write_comment c ∷ write_comments ind cs r

unfoldable pub write_id : Option Lexeme → List Piece → List Piece
write_id None r = r
write_id (Some t) r = own t ∷ mark T.Colon 58 ∷ space ∷ r

unfoldable pub write_required : Required → List Piece → List Piece
write_required default r = r
write_required required r = keyword T.Required "required" ∷ space ∷ r
write_required optional r = keyword T.Optional "optional" ∷ space ∷ r

unfoldable pub write_default : Option FieldInitialValue → List Piece → List Piece
write_default None r = r
write_default (Some v) r = space ∷ mark T.Equals 61 ∷ space ∷ write_value v r

-- write_field
unfoldable pub write_field : List ℕ → Field → List Piece → List Piece
write_field ind (field l c i q t n v a) r =
    write_comments ind c
    (gap ind ∷ write_id i (write_required q (write_type t (space ∷ own n ∷ write_default v (write_annotations a (comma ∷ line ∷ r))))))

-- write_param: no comments, no requiredness, no annotations
unfoldable pub write_param : Field → List Piece → List Piece
write_param (field l c i q t n v a) r = write_id i (write_type t (space ∷ own n ∷ write_default v r))

unfoldable pub write_initializer : Option Lexeme → List Piece → List Piece
write_initializer None r = r
write_initializer (Some t) r = space ∷ mark T.Equals 61 ∷ space ∷ own t ∷ r

-- the members of write_enum
unfoldable pub write_member : List ℕ → EnumMember → List Piece → List Piece
write_member ind (member l c n v a) r =
    write_comments ind c (gap ind ∷ own n ∷ write_initializer v (write_annotations a (comma ∷ line ∷ r)))

unfoldable pub write_throws : Option (List Field) → List Piece → List Piece
write_throws None r = r
write_throws (Some fs) r =
    space ∷ keyword T.Throws "throws" ∷ space ∷ mark T.LeftParen 40 ∷ write_each commas write_param fs (mark T.RightParen 41 ∷ r)

unfoldable pub write_oneway : Bool → List Piece → List Piece
write_oneway true r = keyword T.Oneway "oneway" ∷ space ∷ r
write_oneway false r = r

-- write_function
unfoldable pub write_function : List ℕ → Function → List Piece → List Piece
write_function ind (function l c o t n ps th a) r =
    write_comments ind c
    (gap ind ∷ write_oneway o (write_type t (space ∷ own n ∷ mark T.LeftParen 40
    ∷ write_each commas write_param ps (mark T.RightParen 41 ∷ write_throws th (write_annotations a (line ∷ r))))))

-- ` {`, the members each on its lines, `}`, annotations
unfoldable pub write_body : {A : Type 0} → (A → List Piece → List Piece) → List A → Annotations → List Piece → List Piece
write_body write xs a r =
    space ∷ mark T.LeftBrace 123 ∷ line ∷ write_each nothing write xs (mark T.RightBrace 125 ∷ write_annotations a (line ∷ r))

unfoldable pub structure_keyword : Structure → Piece
structure_keyword Struct = keyword T.Struct "struct"
structure_keyword Union = keyword T.Union "union"
structure_keyword Exception = keyword T.Exception "exception"

unfoldable pub write_extends : Option Lexeme → List Piece → List Piece
write_extends None r = r
write_extends (Some t) r = space ∷ keyword T.Extends "extends" ∷ space ∷ own t ∷ r

-- write_include, write_cpp_include, write_namespace, write_const, write_typedef, write_enum, write_struct, write_union, write_exception, write_service
unfoldable pub write_definition : List ℕ → Definition → List Piece → List Piece
write_definition ind (Include l c n) r = write_comments [] c (keyword T.Include "include" ∷ space ∷ own n ∷ line ∷ r)
write_definition ind (CppInclude l c n) r = write_comments [] c (keyword T.CppInclude "cpp_include" ∷ space ∷ own n ∷ line ∷ r)
write_definition ind (Namespace l c s n) r = write_comments [] c (keyword T.Namespace "namespace" ∷ space ∷ own s ∷ space ∷ own n ∷ line ∷ r)
write_definition ind (Const l c t n v) r =
    write_comments [] c (keyword T.Const "const" ∷ space ∷ write_type t (space ∷ own n ∷ space ∷ mark T.Equals 61 ∷ space ∷ write_value v (line ∷ r)))
write_definition ind (Typedef l c t n) r = write_comments [] c (keyword T.Typedef "typedef" ∷ space ∷ write_type t (space ∷ own n ∷ line ∷ r))
write_definition ind (Enum l c n ms a) r = write_comments [] c (keyword T.Enum "enum" ∷ space ∷ own n ∷ write_body (write_member ind) ms a r)
write_definition ind (structure s l c n fs a) r = write_comments [] c (structure_keyword s ∷ space ∷ own n ∷ write_body (write_field ind) fs a r)
write_definition ind (Service l c n x fs a) r =
    write_comments [] c (keyword T.Service "service" ∷ space ∷ own n ∷ write_extends x (write_body (write_function ind) fs a r))

-- the whole file: definitions one after another, nothing between; a member stands one level in, so many spaces
unfoldable pub pieces : ℕ → List Definition → List Piece
pieces indent ds = write_each nothing (write_definition (replicate indent 32)) ds []

unfoldable pub printed : ℕ → List Definition → List ℕ
printed indent ds = bytes_of (pieces indent ds)
