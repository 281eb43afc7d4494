-- The kind of a word: that of the keyword with the same bytes, if there is one.
use Rattle.std.specs.Prelude.{ℕ, ◌≡◌, Bool, true, false, cond, ◌&&◌, List, [], ◌∷◌, eqb, take}
use Rattle.token.specs.Code.{is}
use Rattle.token.specs.Patterns.{Word, word, words}
use Rattle.token.specs.declared.Token.{Token}
use Rattle.token.specs.declared.Token.TheVariants as T
use Rattle.token.specs.Scanned.{Scan}
use Rattle.std.specs.Prelude.{Some, None}

unfoldable pub same : List ℕ → List ℕ → Bool
same [] [] = true
same [] (b ∷ v) = false
same (a ∷ u) [] = false
same (a ∷ u) (b ∷ v) = eqb a b && same u v

-- the kind of the word u, k if it is none of ws
unfoldable pub lookup : List Word → List ℕ → Token → Token
lookup [] u k = k
lookup (word q v ∷ ws) u k = cond (same v u) q (lookup ws u k)

-- an identifier that is a word has the word's kind
unfoldable pub rename : List ℕ → Scan → Scan
rename t None = None
rename t (Some (k, n)) = Some (cond (is k T.Identifier) (lookup words (take n t) k) k, n)

-- no word stands at the start of t
pub record NoWord (t : List ℕ) : Type 0 where
  pub plain : (k : Token) (n : ℕ) → lookup words (take n t) k ≡ k
