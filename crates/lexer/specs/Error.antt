-- The refusals, by the papers' numbers. Up to 19 they are rico's ParseErrorKind (parser/error.rs), in its order;
-- 5 and 7 are left out: rico raises them only with no token left, where the end rule gives 3 or 1.
use Rattle.std.specs.Prelude.{ℕ}

abbrev pub UnrecognizedToken : ℕ
UnrecognizedToken = 1

abbrev pub UnexpectedToken : ℕ
UnexpectedToken = 2

abbrev pub UnexpectedEOF : ℕ
UnexpectedEOF = 3

abbrev pub UnsupportedType : ℕ
UnsupportedType = 4

abbrev pub InvalidValueDeclaration : ℕ
InvalidValueDeclaration = 6

abbrev pub InvalidFieldName : ℕ
InvalidFieldName = 8

abbrev pub InvalidFieldId : ℕ
InvalidFieldId = 9

abbrev pub MissingNamespaceIdentifier : ℕ
MissingNamespaceIdentifier = 10

abbrev pub MissingNamespaceScope : ℕ
MissingNamespaceScope = 11

abbrev pub MissingIncludeIdentifier : ℕ
MissingIncludeIdentifier = 12

abbrev pub MissingConstIdentifier : ℕ
MissingConstIdentifier = 13

abbrev pub MissingTypedefIdentifier : ℕ
MissingTypedefIdentifier = 14

abbrev pub MissingEnumIdentifier : ℕ
MissingEnumIdentifier = 15

abbrev pub MissingStructIdentifier : ℕ
MissingStructIdentifier = 16

abbrev pub MissingServiceIdentifier : ℕ
MissingServiceIdentifier = 17

abbrev pub MissingServiceExtends : ℕ
MissingServiceExtends = 18

abbrev pub InvalidEnumMemberName : ℕ
InvalidEnumMemberName = 19

-- those that rico does not have
abbrev pub TextTooLong : ℕ
TextTooLong = 20

abbrev pub NotUtf8 : ℕ
NotUtf8 = 21

abbrev pub NoToken : ℕ
NoToken = 22

abbrev pub TooDeep : ℕ
TooDeep = 23

abbrev pub NodesFull : ℕ
NodesFull = 24

abbrev pub CommentsFull : ℕ
CommentsFull = 25

abbrev pub IndentTooWide : ℕ
IndentTooWide = 26

abbrev pub OutputFull : ℕ
OutputFull = 27

-- an enum member's number outside 32 bits (document 02, Change 2)
abbrev pub EnumNumberOutside : ℕ
EnumNumberOutside = 28

-- a stored table that can't be moved (document 02, Change 7)
abbrev pub NotMovable : ℕ
NotMovable = 33
