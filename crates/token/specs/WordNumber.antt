-- Document 02, Change 3: after each byte of a word one number, made from the number before it and that byte, tells which keyword the bytes so far spell,
-- if any. The contracts of scan/src take a word's kind from it; proofs/WordNumber shows what it tells (`told`).
use Rattle.std.specs.Prelude.{ℕ, ◌+◌, ◌<◌, ◌≡◌, ◌⊎◌, cond, List, [], ◌∷◌, eqb, get_or}
use Rattle.std.specs.Prelude.{Option, Some, None}
use Rattle.std.proofs.Math.Seq.{slice}
use Rattle.token.specs.Patterns.{Word, word, words}
use Rattle.token.specs.Tables.{trie}
use Rattle.token.specs.Run.{class_of}
use Rattle.token.specs.declared.Token.{Token}
use Rattle.token.specs.declared.Token.TheVariants as T
use Rattle.token.specs.Scanned.{Scan}

-- the number at the start of a word, and the one where no keyword begins with the bytes so far
abbrev pub start : ℕ
start = 1

abbrev pub no_keyword : ℕ
no_keyword = 0

-- each number is below this
abbrev pub numbers : ℕ
numbers = 151

-- the number behind a byte of the class k, the one before it being n: where the table leads from n, if it leads anywhere
unfoldable pub step_by : ℕ → ℕ → ℕ
step_by n k = let m = get_or trie n 0 + k in cond (eqb (get_or trie (256 + m) 0) n) m no_keyword

unfoldable pub step : ℕ → ℕ → ℕ
step n c = step_by n (class_of c)

-- the number behind some bytes more; behind the bytes of a word
unfoldable pub number_from : ℕ → List ℕ → ℕ
number_from n [] = n
number_from n (c ∷ u) = number_from (step n c) u

unfoldable pub number : List ℕ → ℕ
number u = number_from start u

-- the keyword that a number stands for, if any: the one whose bytes lead to it
unfoldable pub keyword_in : List Word → ℕ → Option Word
keyword_in [] n = None
keyword_in (word k u ∷ ws) n = cond (eqb (number u) n) (Some (word k u)) (keyword_in ws n)

unfoldable pub keyword : ℕ → Option Word
keyword n = keyword_in words n

-- the kind of a word with this number
unfoldable pub kind_in : Option Word → Token
kind_in None = T.Identifier
kind_in (Some (word k u)) = k

unfoldable pub kind_of : ℕ → Token
kind_of n = kind_in (keyword n)

-- a word that ends where a match does, the number behind its first i bytes being n: of these bytes nothing but the number is looked at
unfoldable pub word_from : ℕ → ℕ → List ℕ → Scan → Scan
word_from n i t None = None
word_from n i t (Some (k, e)) = Some (kind_of (number_from n (slice i e t)), e)

-- ---- what the number of some bytes tells

-- w is one of ws
unfoldable pub Among : Word → List Word → Type 0
Among w [] = ⊥
Among w (v ∷ ws) = (w ≡ v) ⊎ Among w ws

pub record Tells (u : List ℕ) : Type 0 where
  pub below : number u < 1000
  -- a keyword that it stands for is one of rico's, and the bytes spell it
  pub stands : (k : Token) (v : List ℕ) → keyword (number u) ≡ Some (word k v) → Among (word k v) words × (u ≡ v)
  -- for a keyword of rico's that the bytes spell it stands
  pub spells : (k : Token) (v : List ℕ) → Among (word k v) words → u ≡ v → keyword (number u) ≡ Some (word k v)
