-- The patterns of rico's lexer/token.rs, one by one, each with its kind.
use Rattle.std.specs.Prelude.{ℕ, cond, List, [], ◌∷◌, ◌++◌, map}
use Prim.Native.String.{String}
use Rattle.token.specs.declared.Token.{Token}
use Rattle.token.specs.declared.Token.TheVariants as T
use Rattle.token.specs.Code.{is}
use Rattle.token.specs.Regex.{Range, Regex, nothing, empty, set, unset, alt, star, then, bytes, ranges}

pub data Rule : Type 0 where
  rule : Token → Regex → Rule

-- [..], [^..], r+, r?
unfoldable pub one_of : String → Regex
one_of s = set (ranges (bytes s))

unfoldable pub none_of : String → Regex
none_of s = unset (ranges (bytes s))

unfoldable pub plus : Regex → Regex
plus r = then r (star r)

unfoldable pub opt : Regex → Regex
opt r = alt r empty

-- the bytes themselves
unfoldable pub exact : List ℕ → Regex
exact [] = empty
exact (c ∷ u) = then (set (Range.to c c ∷ [])) (exact u)

pub data Word : Type 0 where
  word : Token → List ℕ → Word

unfoldable pub word_rule : Word → Rule
word_rule (word k u) = rule k (exact u)

unfoldable pub token : Token → String → Word
token k s = word k (bytes s)

-- the #[token("..")] that look like identifiers
unfoldable pub words : List Word
words =
    token T.Namespace "namespace"
    ∷ token T.CppInclude "cpp_include"
    ∷ token T.Include "include"
    ∷ token T.Typedef "typedef"
    ∷ token T.Const "const"
    ∷ token T.Enum "enum"
    ∷ token T.Struct "struct"
    ∷ token T.Union "union"
    ∷ token T.Exception "exception"
    ∷ token T.Service "service"
    ∷ token T.Extends "extends"
    ∷ token T.Throws "throws"
    ∷ token T.Required "required"
    ∷ token T.Optional "optional"
    ∷ token T.Void "void"
    ∷ token T.Bool "bool"
    ∷ token T.Byte "byte"
    ∷ token T.I8 "i8"
    ∷ token T.I16 "i16"
    ∷ token T.I32 "i32"
    ∷ token T.I64 "i64"
    ∷ token T.Double "double"
    ∷ token T.String "string"
    ∷ token T.Binary "binary"
    ∷ token T.Map "map"
    ∷ token T.List "list"
    ∷ token T.Set "set"
    ∷ token T.BooleanLiteral "true"
    ∷ token T.BooleanLiteral "false"
    ∷ token T.Oneway "oneway"
    ∷ []

-- the #[token("..")] of one sign
unfoldable pub marks : List Word
marks =
    token T.LeftBrace "{"
    ∷ token T.RightBrace "}"
    ∷ token T.LeftBracket "["
    ∷ token T.RightBracket "]"
    ∷ token T.LeftAngle "<"
    ∷ token T.RightAngle ">"
    ∷ token T.LeftParen "("
    ∷ token T.RightParen ")"
    ∷ token T.Semicolon ";"
    ∷ token T.Colon ":"
    ∷ token T.Comma ","
    ∷ token T.Equals "="
    ∷ token T.Dot "."
    ∷ token T.Star "*"
    ∷ []

-- [a-zA-Z_][a-zA-Z0-9_]*
unfoldable pub name : Regex
name = then (one_of "azAZ__") (star (one_of "azAZ09__"))

-- q([^q\\]|\\.)*q, where the last . is any byte but a newline
unfoldable pub quoted : Regex → Regex → Regex
quoted q plain = then q (then (star (alt plain (then (one_of "\\\\") (none_of "\n\n")))) q)

-- [0-9]+
unfoldable pub digits : Regex
digits = plus (one_of "09")

-- [+-]?
unfoldable pub sign : Regex
sign = opt (one_of "++--")

-- [eE][-+]?[0-9]+
unfoldable pub exponent : Regex
exponent = then (one_of "eeEE") (then sign digits)

-- [0-9]+\.[0-9]*|\.[0-9]+
unfoldable pub point : Regex
point = alt (then digits (then (one_of "..") (star (one_of "09")))) (then (one_of "..") digits)

-- \*+
unfoldable pub stars : Regex
stars = plus (one_of "**")

-- the #[regex(..)], and the blanks of #[logos(skip ..)]
unfoldable pub shapes : List Rule
shapes =
    -- [ \t]+
    rule T.Blank (plus (one_of "  \t\t"))
    -- [\r\n\f]
    ∷ rule T.Newline (one_of "\r\r\n\n\u{c}\u{c}")
    -- [a-zA-Z_][a-zA-Z0-9_]*(\.[a-zA-Z_][a-zA-Z0-9_]*)*
    ∷ rule T.Identifier (then name (star (then (one_of "..") name)))
    -- (?:"([^"\\]|\\.)*"|'([^'\\]|\\.)*')
    ∷ rule T.StringLiteral (alt (quoted (one_of "\"\"") (none_of "\"\"\\\\")) (quoted (one_of "''") (none_of "''\\\\")))
    -- [+-]?(?:(?:[0-9]+\.[0-9]*|\.[0-9]+)(?:[eE][-+]?[0-9]+)?|[0-9]+[eE][-+]?[0-9]+)
    ∷ rule T.DoubleLiteral (then sign (alt (then point (opt exponent)) (then digits exponent)))
    -- 0[xX][0-9a-fA-F]+
    ∷ rule T.HexLiteral (then (one_of "00") (then (one_of "xxXX") (plus (one_of "09afAF"))))
    -- [+-]?[0-9]+
    ∷ rule T.IntegerLiteral (then sign digits)
    -- (//|#).*
    ∷ rule T.LineComment (then (alt (exact (bytes "//")) (exact (bytes "#"))) (star (none_of "\n\n")))
    -- /\*[^*]*\*+(?:[^*/][^*]*\*+)*/
    ∷ rule T.BlockComment
    (then (exact (bytes "/*"))
    (then (star (none_of "**")) (then stars (then (star (then (none_of "**//") (then (star (none_of "**")) stars))) (one_of "//")))))
    ∷ []

-- a #[token] beats a #[regex] of the same length, so the tokens come first
unfoldable pub rest : List Rule
rest = map word_rule marks ++ shapes

unfoldable pub rules : List Rule
rules = map word_rule words ++ rest

-- the pattern of a kind
unfoldable pub pattern_of : Token → List Rule → Regex
pattern_of k [] = nothing
pattern_of k (rule q r ∷ rs) = cond (is k q) r (pattern_of k rs)
