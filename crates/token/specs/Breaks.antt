-- Which byte behind a token ends it whatever follows.
use Rattle.std.specs.Prelude.{ℕ, ◌<◌, Bool, true, not, cond, List, [], ◌∷◌, T, eqb}
use Rattle.token.specs.Code.{is, among}
use Rattle.token.specs.Regex.{bytes, ranges, within}
use Rattle.token.specs.declared.Token.{Token}
use Rattle.token.specs.declared.Token.TheVariants as T

-- a name, a word, a number or the dot can go on with a letter, a digit, `_` or `.`
unfoldable pub goes_on : Token → Bool
goes_on k =
    among k
    (T.Identifier ∷ T.Namespace ∷ T.CppInclude ∷ T.Include ∷ T.Typedef ∷ T.Const ∷ T.Enum ∷ T.Struct ∷ T.Union ∷ T.Exception ∷ T.Service
    ∷ T.Extends ∷ T.Throws ∷ T.Required ∷ T.Optional ∷ T.Void ∷ T.Bool ∷ T.Byte ∷ T.I8 ∷ T.I16 ∷ T.I32 ∷ T.I64 ∷ T.Double ∷ T.String ∷ T.Binary
    ∷ T.Map ∷ T.List ∷ T.Set ∷ T.Oneway ∷ T.BooleanLiteral ∷ T.DoubleLiteral ∷ T.HexLiteral ∷ T.IntegerLiteral ∷ T.Dot ∷ [])

-- the byte c ends a token of the kind k: blanks go on with blanks, a line comment with all but a newline, any other token with nothing
unfoldable pub breaks : Token → ℕ → Bool
breaks k c =
    cond (goes_on k) (not (within c (ranges (bytes "azAZ09__.."))))
    (cond (is k T.Blank) (not (within c (ranges (bytes "  \t\t")))) (cond (is k T.LineComment) (eqb c 10) true))

-- r is empty, or begins with a byte that ends a token of the kind k
abbrev pub Stops : Token → List ℕ → Type 0
Stops k [] = Unit
Stops k (c ∷ r) = (c < 256) × T (breaks k c)

-- each number of the list is a byte
abbrev pub Bytes : List ℕ → Type 0
Bytes [] = Unit
Bytes (c ∷ w) = (c < 256) × Bytes w
