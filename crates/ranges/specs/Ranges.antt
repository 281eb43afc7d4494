-- The ranges of definitions and names in an accepted text (document 02, Change 8), as claims about the rows of its node table.
use Rattle.std.specs.Prelude.{◌≡◌, Bool, true, cond, ◌&&◌, ◌||◌, ℕ, suc, ◌<◌, ◌≤◌, eqb, ltb, length, get_or, take, drop}
use mathlib.Core.List.{List, [], ◌∷◌, Memᴰ}
use Rattle.token.specs.Code.{among}
use Rattle.token.specs.declared.Token.{Token}
use Rattle.token.specs.declared.Token.TheVariants as T
use Rattle.lexer.specs.declared.location.Span.{Span}
use Rattle.lexer.specs.Location.{opening}
use Rattle.lexer.specs.Tokens.{Lexeme, tokens}
use Rattle.ast.specs.Kind as K
use Rattle.ast.specs.Column.{Parent, Start, End}
use Rattle.ast.specs.Records.{no_parent}
use Rattle.parser.specs.Steps.{kind, place}
use Rattle.parser.specs.Order.{token_start, token_end, InOrder, gap_kinds}
use Rattle.parser.specs.Definitions.{field_names}

-- ---- the numbers of a row

unfoldable pub row_at : List (List ℕ) → ℕ → List ℕ
row_at rs i = get_or rs i []

unfoldable pub kind_of : List ℕ → ℕ
kind_of r = get_or r 0 0

unfoldable pub parent_of : List ℕ → ℕ
parent_of r = get_or r Parent 0

unfoldable pub start_of : List ℕ → ℕ
start_of r = get_or r Start 0

unfoldable pub end_of : List ℕ → ℕ
end_of r = get_or r End 0

-- index, line and column
unfoldable pub starts_at : List ℕ → List ℕ
starts_at r = take 3 (drop Start r)

unfoldable pub ends_at : List ℕ → List ℕ
ends_at r = take 3 (drop End r)

unfoldable pub numbers : Span → List ℕ
numbers s = s.index ∷ s.line ∷ s.column ∷ []

-- the row i is a definition's
unfoldable pub is_definition : List (List ℕ) → ℕ → Bool
is_definition rs i = ltb i (length rs) && eqb (parent_of (row_at rs i)) no_parent

-- ---- 'each starts at its keyword'

-- the keyword, by the kind of the record; no other kind is a definition's
unfoldable pub keywords : ℕ → List Token
keywords k =
    get_or ([] ∷ (T.Include ∷ []) ∷ (T.CppInclude ∷ []) ∷ (T.Namespace ∷ []) ∷ (T.Const ∷ []) ∷ (T.Typedef ∷ []) ∷ (T.Enum ∷ [])
    ∷ (T.Struct ∷ []) ∷ (T.Union ∷ []) ∷ (T.Exception ∷ []) ∷ (T.Service ∷ []) ∷ []) k []

-- the row r is of a definition: nonempty, inside the text, and it starts where a token of the text starts that is its keyword
pub record Definition (text r : List ℕ) : Type 0 where
  pub nonempty : start_of r < end_of r
  pub inside : end_of r ≤ length text
  pub keyword : Lexeme
  pub token : Memᴰ keyword (tokens text opening)
  pub kinds : among (kind keyword) (keywords (kind_of r)) ≡ true
  pub starts : starts_at r ≡ numbers (place keyword).start

-- ---- 'every name record's range holds exactly one token of that text'

-- of tokens those that have a byte in the range from a to b
unfoldable pub held : ℕ → ℕ → List Lexeme → List Lexeme
held a b [] = []
held a b (t ∷ ts) = cond (ltb (token_start t) b && ltb a (token_end t)) (t ∷ held a b ts) (held a b ts)

-- 'an include's or cpp_include's string, a scope's identifier or `*`, a field's identifier or allowed word, else an identifier':
-- by the parent's kind, and whether the name is its first child
unfoldable pub name_kinds : ℕ → Bool → List Token
name_kinds k first =
    cond (eqb k K.Include || eqb k K.CppInclude) (T.StringLiteral ∷ [])
    (cond (eqb k K.Namespace && first) (T.Identifier ∷ T.Star ∷ []) (cond (eqb k K.Field) field_names (T.Identifier ∷ [])))

-- the row i is of a name: a token of the text is the one that its range holds, it is of such a kind, and the range is that token's
pub record Name (text : List ℕ) (rs : List (List ℕ)) (i : ℕ) : Type 0 where
  pub below : parent_of (row_at rs i) < i
  pub name : Lexeme
  pub token : Memᴰ name (tokens text opening)
  pub only : held (start_of (row_at rs i)) (end_of (row_at rs i)) (tokens text opening) ≡ name ∷ []
  pub kinds : among (kind name) (name_kinds (kind_of (row_at rs (parent_of (row_at rs i)))) (eqb i (suc (parent_of (row_at rs i))))) ≡ true
  pub starts : starts_at (row_at rs i) ≡ numbers (place name).start
  pub ends : ends_at (row_at rs i) ≡ numbers (place name).end

-- ---- what stands outside definitions (that none is swallowed by the range before it is said by `reading` alone)

-- a token lies in the range of a definition, or is a separator or a comment
pub data Lies (rs : List (List ℕ)) (t : Lexeme) : Type 0 where
  in_definition : (i : ℕ) → is_definition rs i ≡ true → start_of (row_at rs i) ≤ token_start t → token_end t ≤ end_of (row_at rs i) → Lies rs t
  in_gap : among (kind t) gap_kinds ≡ true → Lies rs t

-- ---- the claims, for each accepted text

pub record Ranges (text : List ℕ) (rs : List (List ℕ)) : Type 0 where
  -- tokens are nonempty, inside the text, in text order and without overlap
  pub tokens_apart : InOrder (length text) 0 (tokens text opening)
  pub definitions : (i : ℕ) → is_definition rs i ≡ true → Definition text (row_at rs i)
  -- 'in text order and without overlap'
  pub order : (i j : ℕ) → i < j → is_definition rs i ≡ true → is_definition rs j ≡ true → end_of (row_at rs i) ≤ start_of (row_at rs j)
  pub names : (i : ℕ) → i < length rs → kind_of (row_at rs i) ≡ K.Name → Name text rs i
  pub all : (t : Lexeme) → Memᴰ t (tokens text opening) → Lies rs t
