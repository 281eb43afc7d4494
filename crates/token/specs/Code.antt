-- The number of each kind of token, its place in token.rs from 0, and what is told by it.
use Rattle.std.specs.Prelude.{ℕ, Bool, false, ◌||◌, List, [], ◌∷◌, eqb}
use Rattle.token.specs.declared.Token.{Token}
use Rattle.token.specs.declared.Token.TheVariants as T

unfoldable pub code : Token → ℕ
code T.Newline = 0
code T.Namespace = 1
code T.CppInclude = 2
code T.Include = 3
code T.Typedef = 4
code T.Const = 5
code T.Enum = 6
code T.Struct = 7
code T.Union = 8
code T.Exception = 9
code T.Service = 10
code T.Extends = 11
code T.Throws = 12
code T.Required = 13
code T.Optional = 14
code T.Void = 15
code T.Bool = 16
code T.Byte = 17
code T.I8 = 18
code T.I16 = 19
code T.I32 = 20
code T.I64 = 21
code T.Double = 22
code T.String = 23
code T.Binary = 24
code T.Map = 25
code T.List = 26
code T.Set = 27
code T.Identifier = 28
code T.StringLiteral = 29
code T.DoubleLiteral = 30
code T.HexLiteral = 31
code T.IntegerLiteral = 32
code T.BooleanLiteral = 33
code T.LeftBrace = 34
code T.RightBrace = 35
code T.LeftBracket = 36
code T.RightBracket = 37
code T.LeftAngle = 38
code T.RightAngle = 39
code T.LeftParen = 40
code T.RightParen = 41
code T.Semicolon = 42
code T.Colon = 43
code T.Comma = 44
code T.Equals = 45
code T.Dot = 46
code T.Star = 47
code T.LineComment = 48
code T.BlockComment = 49
code T.Oneway = 50
code T.Blank = 51

-- the two kinds are one
unfoldable pub is : Token → Token → Bool
is a b = eqb (code a) (code b)

unfoldable pub among : Token → List Token → Bool
among a [] = false
among a (b ∷ bs) = is a b || among a bs
