-- The kinds of token by name: the numbers that Code gives rico's enum.
use Rattle.std.specs.Prelude.{ℕ}

abbrev pub Newline : ℕ
Newline = 0

abbrev pub Namespace : ℕ
Namespace = 1

abbrev pub CppInclude : ℕ
CppInclude = 2

abbrev pub Include : ℕ
Include = 3

abbrev pub Typedef : ℕ
Typedef = 4

abbrev pub Const : ℕ
Const = 5

abbrev pub Enum : ℕ
Enum = 6

abbrev pub Struct : ℕ
Struct = 7

abbrev pub Union : ℕ
Union = 8

abbrev pub Exception : ℕ
Exception = 9

abbrev pub Service : ℕ
Service = 10

abbrev pub Extends : ℕ
Extends = 11

abbrev pub Throws : ℕ
Throws = 12

abbrev pub Required : ℕ
Required = 13

abbrev pub Optional : ℕ
Optional = 14

abbrev pub Void : ℕ
Void = 15

abbrev pub Bool : ℕ
Bool = 16

abbrev pub Byte : ℕ
Byte = 17

abbrev pub I8 : ℕ
I8 = 18

abbrev pub I16 : ℕ
I16 = 19

abbrev pub I32 : ℕ
I32 = 20

abbrev pub I64 : ℕ
I64 = 21

abbrev pub Double : ℕ
Double = 22

abbrev pub String : ℕ
String = 23

abbrev pub Binary : ℕ
Binary = 24

abbrev pub Map : ℕ
Map = 25

abbrev pub List : ℕ
List = 26

abbrev pub Set : ℕ
Set = 27

abbrev pub Identifier : ℕ
Identifier = 28

abbrev pub StringLiteral : ℕ
StringLiteral = 29

abbrev pub DoubleLiteral : ℕ
DoubleLiteral = 30

abbrev pub HexLiteral : ℕ
HexLiteral = 31

abbrev pub IntegerLiteral : ℕ
IntegerLiteral = 32

abbrev pub BooleanLiteral : ℕ
BooleanLiteral = 33

abbrev pub LeftBrace : ℕ
LeftBrace = 34

abbrev pub RightBrace : ℕ
RightBrace = 35

abbrev pub LeftBracket : ℕ
LeftBracket = 36

abbrev pub RightBracket : ℕ
RightBracket = 37

abbrev pub LeftAngle : ℕ
LeftAngle = 38

abbrev pub RightAngle : ℕ
RightAngle = 39

abbrev pub LeftParen : ℕ
LeftParen = 40

abbrev pub RightParen : ℕ
RightParen = 41

abbrev pub Semicolon : ℕ
Semicolon = 42

abbrev pub Colon : ℕ
Colon = 43

abbrev pub Comma : ℕ
Comma = 44

abbrev pub Equals : ℕ
Equals = 45

abbrev pub Dot : ℕ
Dot = 46

abbrev pub Star : ℕ
Star = 47

abbrev pub LineComment : ℕ
LineComment = 48

abbrev pub BlockComment : ℕ
BlockComment = 49

abbrev pub Oneway : ℕ
Oneway = 50

abbrev pub Blank : ℕ
Blank = 51
