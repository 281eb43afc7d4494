-- The kinds of record and their flags, by document 01's numbers ("The records").
use Rattle.std.specs.Prelude.{ℕ}

abbrev pub Include : ℕ
Include = 1

abbrev pub CppInclude : ℕ
CppInclude = 2

abbrev pub Namespace : ℕ
Namespace = 3

abbrev pub Const : ℕ
Const = 4

abbrev pub Typedef : ℕ
Typedef = 5

abbrev pub Enum : ℕ
Enum = 6

abbrev pub Struct : ℕ
Struct = 7

abbrev pub Union : ℕ
Union = 8

abbrev pub Exception : ℕ
Exception = 9

abbrev pub Service : ℕ
Service = 10

abbrev pub Function : ℕ
Function = 11

abbrev pub Field : ℕ
Field = 12

abbrev pub EnumMember : ℕ
EnumMember = 13

abbrev pub Annotations : ℕ
Annotations = 14

abbrev pub Annotation : ℕ
Annotation = 15

abbrev pub Name : ℕ
Name = 16

abbrev pub FieldId : ℕ
FieldId = 17

-- void too
abbrev pub KeywordType : ℕ
KeywordType = 18

abbrev pub NamedType : ℕ
NamedType = 19

abbrev pub List : ℕ
List = 20

abbrev pub Set : ℕ
Set = 21

abbrev pub Map : ℕ
Map = 22

abbrev pub String : ℕ
String = 23

abbrev pub Integer : ℕ
Integer = 24

abbrev pub Double : ℕ
Double = 25

abbrev pub Boolean : ℕ
Boolean = 26

abbrev pub Hex : ℕ
Hex = 27

-- a name as value
abbrev pub NameValue : ℕ
NameValue = 28

abbrev pub ListValue : ℕ
ListValue = 29

abbrev pub MapValue : ℕ
MapValue = 30

abbrev pub Property : ℕ
Property = 31

abbrev pub LineComment : ℕ
LineComment = 32

abbrev pub BlockComment : ℕ
BlockComment = 33

-- ---- flags; they add up: two of fields, two of functions (the second where `throws` is written), and that of a thrown field

abbrev pub Required : ℕ
Required = 1

abbrev pub Optional : ℕ
Optional = 2

abbrev pub Oneway : ℕ
Oneway = 4

abbrev pub Throws : ℕ
Throws = 8

abbrev pub Thrown : ℕ
Thrown = 16
