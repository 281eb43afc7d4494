-- What is written of a refusal: its numbers; what is wrong, and what to do where that is plain.
use Rattle.std.specs.Prelude.{ℕ, List, ◌++◌, codes}
use Rattle.std.specs.Fmt.{decimal}
use Rattle.lexer.specs.Refusal.{number_of}
use Rattle.lexer.specs.declared.error.Refusal.{Refusal}
use Rattle.lexer.specs.declared.error.ErrorKind.{ErrorKind}
use Rattle.lexer.specs.declared.error.ErrorKind.TheVariants.{UnrecognizedToken, UnexpectedToken, UnexpectedEOF, UnsupportedType, InvalidValueDeclaration, InvalidFieldName, InvalidFieldId, MissingNamespaceIdentifier, MissingNamespaceScope, MissingIncludeIdentifier, MissingConstIdentifier, MissingTypedefIdentifier, MissingEnumIdentifier, MissingStructIdentifier, MissingServiceIdentifier, MissingServiceExtends, InvalidEnumMemberName, TextTooLong, NotUtf8, NoToken, TooDeep, NodesFull, CommentsFull, IndentTooWide, OutputFull, EnumNumberOutside, NotMovable}

abbrev pub message : ErrorKind → List ℕ
message UnrecognizedToken = codes "only blanks are left behind this token, and more has to follow"
message UnexpectedToken = codes "this token can't stand here"
message UnexpectedEOF = codes "the text ends with this token, and more has to follow"
message UnsupportedType = codes "a type has to stand here"
message InvalidValueDeclaration = codes "a value has to stand here; an enum member's is an integer"
message InvalidFieldName = codes "a field's name has to stand here; a field starts with its number, as in `1: i32 a`"
message InvalidFieldId = codes "a field's number goes from 0 to 18446744073709551615"
message MissingNamespaceIdentifier = codes "the namespace's name has to stand here"
message MissingNamespaceScope = codes "the namespace's scope has to stand here, a name or `*`"
message MissingIncludeIdentifier = codes "a path in quotes has to stand here"
message MissingConstIdentifier = codes "the constant's name has to stand here"
message MissingTypedefIdentifier = codes "the typedef's name has to stand here"
message MissingEnumIdentifier = codes "the enum's name has to stand here"
message MissingStructIdentifier = codes "the name of the struct, union or exception has to stand here"
message MissingServiceIdentifier = codes "the service's name has to stand here"
message MissingServiceExtends = codes "the name of the extended service has to stand here"
message InvalidEnumMemberName = codes "an enum member's name has to stand here, and no keyword"
message TextTooLong = codes "the text has more than 65536 bytes; split it"
message NotUtf8 = codes "this isn't UTF-8; save the text as UTF-8"
message NoToken = codes "no token starts here; perhaps a string or a comment isn't closed"
message TooDeep = codes "32 containers stand around this one; no more can"
message NodesFull = codes "the text has more nodes than this program holds; split it"
message CommentsFull = codes "the text has more comments than this program holds; split it"
message IndentTooWide = codes "the indent is over 8; give 0 to 8"
message OutputFull = codes "the print is longer than this program holds; split the text"
message EnumNumberOutside = codes "the enum member's number doesn't fit 32 bits; give it a smaller one"
message NotMovable = codes "these tables can't be moved; read the text again"

-- number, place and length, with a blank between two
abbrev pub refusal_text : Refusal → List ℕ
refusal_text r = decimal (number_of r.kind) ++ (codes " " ++ (decimal r.place ++ (codes " " ++ decimal r.length)))
