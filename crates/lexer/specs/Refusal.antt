-- What the code's refusals say, by the papers' numbers.
use Rattle.std.specs.Prelude.{ℕ, List, Ok, Err}
use Rattle.std.specs.declared.result.Result.{Result}
use Rattle.lexer.specs.Error as E
use Rattle.lexer.specs.Outcome.{Outcome, accepted, refused}
use Rattle.lexer.specs.declared.error.ErrorKind.{ErrorKind}
use Rattle.lexer.specs.declared.error.ErrorKind.TheVariants as V
use Rattle.lexer.specs.declared.error.Refusal.{Refusal}

abbrev pub number_of : ErrorKind → ℕ
number_of V.UnrecognizedToken = E.UnrecognizedToken
number_of V.UnexpectedToken = E.UnexpectedToken
number_of V.UnexpectedEOF = E.UnexpectedEOF
number_of V.UnsupportedType = E.UnsupportedType
number_of V.InvalidValueDeclaration = E.InvalidValueDeclaration
number_of V.InvalidFieldName = E.InvalidFieldName
number_of V.InvalidFieldId = E.InvalidFieldId
number_of V.MissingNamespaceIdentifier = E.MissingNamespaceIdentifier
number_of V.MissingNamespaceScope = E.MissingNamespaceScope
number_of V.MissingIncludeIdentifier = E.MissingIncludeIdentifier
number_of V.MissingConstIdentifier = E.MissingConstIdentifier
number_of V.MissingTypedefIdentifier = E.MissingTypedefIdentifier
number_of V.MissingEnumIdentifier = E.MissingEnumIdentifier
number_of V.MissingStructIdentifier = E.MissingStructIdentifier
number_of V.MissingServiceIdentifier = E.MissingServiceIdentifier
number_of V.MissingServiceExtends = E.MissingServiceExtends
number_of V.InvalidEnumMemberName = E.InvalidEnumMemberName
number_of V.TextTooLong = E.TextTooLong
number_of V.NotUtf8 = E.NotUtf8
number_of V.NoToken = E.NoToken
number_of V.TooDeep = E.TooDeep
number_of V.NodesFull = E.NodesFull
number_of V.CommentsFull = E.CommentsFull
number_of V.IndentTooWide = E.IndentTooWide
number_of V.OutputFull = E.OutputFull
number_of V.EnumNumberOutside = E.EnumNumberOutside
number_of V.NotMovable = E.NotMovable

-- what the code answers says: what it gives, or a refusal's number, place and length
unfoldable pub said_by : {A : Type 0} → (A → List ℕ) → Result A Refusal → Outcome (List ℕ)
said_by f (Ok a) = accepted (f a)
said_by f (Err r) = refused (number_of r.kind) r.place r.length
