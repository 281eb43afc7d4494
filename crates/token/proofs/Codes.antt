-- Kinds of tokens by their numbers: kinds of one number are one (`same_kind`, `same_code`).
use mathlib.Core.Path.{◌≡◌, refl, sym, ap, ◌∙◌}
use mathlib.Core.Bool.{true}
use mathlib.Core.List.{List, [], ◌∷◌}
use Prim.Native.Nat.{ℕ}
use borrow.Author.Tests.{eqb-true}
use lib.ListN.{get_or}
use Rattle.token.specs.Code.{code, is}
use Rattle.token.specs.declared.Token.{Token}
use Rattle.token.specs.declared.Token.TheVariants as T

-- every kind, by its number
abbrev pub kinds : List Token
kinds =
    T.Newline ∷ T.Namespace ∷ T.CppInclude ∷ T.Include ∷ T.Typedef ∷ T.Const ∷ T.Enum ∷ T.Struct ∷ T.Union ∷ T.Exception ∷ T.Service
    ∷ T.Extends ∷ T.Throws ∷ T.Required ∷ T.Optional ∷ T.Void ∷ T.Bool ∷ T.Byte ∷ T.I8 ∷ T.I16 ∷ T.I32 ∷ T.I64
    ∷ T.Double ∷ T.String ∷ T.Binary ∷ T.Map ∷ T.List ∷ T.Set ∷ T.Identifier ∷ T.StringLiteral ∷ T.DoubleLiteral ∷ T.HexLiteral ∷ T.IntegerLiteral
    ∷ T.BooleanLiteral ∷ T.LeftBrace ∷ T.RightBrace ∷ T.LeftBracket ∷ T.RightBracket ∷ T.LeftAngle ∷ T.RightAngle ∷ T.LeftParen ∷ T.RightParen ∷ T.Semicolon ∷ T.Colon
    ∷ T.Comma ∷ T.Equals ∷ T.Dot ∷ T.Star ∷ T.LineComment ∷ T.BlockComment ∷ T.Oneway ∷ T.Blank ∷ []

pub kind_at : (k : Token) → get_or kinds (code k) T.Blank ≡ k
unfolding code
kind_at T.Newline = refl
kind_at T.Namespace = refl
kind_at T.CppInclude = refl
kind_at T.Include = refl
kind_at T.Typedef = refl
kind_at T.Const = refl
kind_at T.Enum = refl
kind_at T.Struct = refl
kind_at T.Union = refl
kind_at T.Exception = refl
kind_at T.Service = refl
kind_at T.Extends = refl
kind_at T.Throws = refl
kind_at T.Required = refl
kind_at T.Optional = refl
kind_at T.Void = refl
kind_at T.Bool = refl
kind_at T.Byte = refl
kind_at T.I8 = refl
kind_at T.I16 = refl
kind_at T.I32 = refl
kind_at T.I64 = refl
kind_at T.Double = refl
kind_at T.String = refl
kind_at T.Binary = refl
kind_at T.Map = refl
kind_at T.List = refl
kind_at T.Set = refl
kind_at T.Identifier = refl
kind_at T.StringLiteral = refl
kind_at T.DoubleLiteral = refl
kind_at T.HexLiteral = refl
kind_at T.IntegerLiteral = refl
kind_at T.BooleanLiteral = refl
kind_at T.LeftBrace = refl
kind_at T.RightBrace = refl
kind_at T.LeftBracket = refl
kind_at T.RightBracket = refl
kind_at T.LeftAngle = refl
kind_at T.RightAngle = refl
kind_at T.LeftParen = refl
kind_at T.RightParen = refl
kind_at T.Semicolon = refl
kind_at T.Colon = refl
kind_at T.Comma = refl
kind_at T.Equals = refl
kind_at T.Dot = refl
kind_at T.Star = refl
kind_at T.LineComment = refl
kind_at T.BlockComment = refl
kind_at T.Oneway = refl
kind_at T.Blank = refl

pub same_kind : (k j : Token) → is k j ≡ true → k ≡ j
unfolding is
same_kind k j h = sym (kind_at k) ∙ ap (λ (n : ℕ). get_or kinds n T.Blank) (eqb-true (code k) (code j) h) ∙ kind_at j

pub same_code : (k j : Token) → code k ≡ code j → k ≡ j
same_code k j h = sym (kind_at k) ∙ ap (λ (n : ℕ). get_or kinds n T.Blank) h ∙ kind_at j
