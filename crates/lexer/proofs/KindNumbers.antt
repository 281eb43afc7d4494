-- Two kinds of refusal have two numbers.
use mathlib.Core.Path.{◌≡◌, refl, sym, ap, ◌∙◌}
use mathlib.Core.List.{List, [], ◌∷◌}
use Prim.Native.Nat.{ℕ}
use lib.ListN.{get_or}
use Rattle.lexer.specs.Refusal.{number_of}
use Rattle.lexer.specs.declared.error.ErrorKind.{ErrorKind}
use Rattle.lexer.specs.declared.error.ErrorKind.TheVariants as V

-- the kinds, each at its number; where no kind has a number the first stands
kinds : List ErrorKind
kinds =
    V.UnrecognizedToken
    ∷ V.UnrecognizedToken
    ∷ V.UnexpectedToken
    ∷ V.UnexpectedEOF
    ∷ V.UnsupportedType
    ∷ V.UnrecognizedToken
    ∷ V.InvalidValueDeclaration
    ∷ V.UnrecognizedToken
    ∷ V.InvalidFieldName
    ∷ V.InvalidFieldId
    ∷ V.MissingNamespaceIdentifier
    ∷ V.MissingNamespaceScope
    ∷ V.MissingIncludeIdentifier
    ∷ V.MissingConstIdentifier
    ∷ V.MissingTypedefIdentifier
    ∷ V.MissingEnumIdentifier
    ∷ V.MissingStructIdentifier
    ∷ V.MissingServiceIdentifier
    ∷ V.MissingServiceExtends
    ∷ V.InvalidEnumMemberName
    ∷ V.TextTooLong
    ∷ V.NotUtf8
    ∷ V.NoToken
    ∷ V.TooDeep
    ∷ V.NodesFull
    ∷ V.CommentsFull
    ∷ V.IndentTooWide
    ∷ V.OutputFull
    ∷ V.EnumNumberOutside
    ∷ V.UnrecognizedToken
    ∷ V.UnrecognizedToken
    ∷ V.UnrecognizedToken
    ∷ V.UnrecognizedToken
    ∷ V.NotMovable
    ∷ []

kind_at : (k : ErrorKind) → get_or kinds (number_of k) V.UnrecognizedToken ≡ k
unfolding kinds
kind_at V.UnrecognizedToken = refl
kind_at V.UnexpectedToken = refl
kind_at V.UnexpectedEOF = refl
kind_at V.UnsupportedType = refl
kind_at V.InvalidValueDeclaration = refl
kind_at V.InvalidFieldName = refl
kind_at V.InvalidFieldId = refl
kind_at V.MissingNamespaceIdentifier = refl
kind_at V.MissingNamespaceScope = refl
kind_at V.MissingIncludeIdentifier = refl
kind_at V.MissingConstIdentifier = refl
kind_at V.MissingTypedefIdentifier = refl
kind_at V.MissingEnumIdentifier = refl
kind_at V.MissingStructIdentifier = refl
kind_at V.MissingServiceIdentifier = refl
kind_at V.MissingServiceExtends = refl
kind_at V.InvalidEnumMemberName = refl
kind_at V.TextTooLong = refl
kind_at V.NotUtf8 = refl
kind_at V.NoToken = refl
kind_at V.TooDeep = refl
kind_at V.NodesFull = refl
kind_at V.CommentsFull = refl
kind_at V.IndentTooWide = refl
kind_at V.OutputFull = refl
kind_at V.EnumNumberOutside = refl
kind_at V.NotMovable = refl

pub number_once : (k j : ErrorKind) → number_of k ≡ number_of j → k ≡ j
number_once k j e = sym (kind_at k) ∙ ap (λ (n : ℕ). get_or kinds n V.UnrecognizedToken) e ∙ kind_at j
