-- A text cut into lexemes, one longest match after the other, each on the part of the text behind the last.
use Rattle.std.specs.Prelude.{ℕ, zero, suc, ◌+◌, ◌-◌, List, [], ◌∷◌, length, take, drop}
use Rattle.std.specs.Prelude.{Option, Some, None}
use Rattle.token.specs.Scan.{scan}
use Rattle.token.specs.declared.Token.{Token}
use Rattle.token.specs.Scanned.{Scan}

-- nothing is left; no token starts here; a lexeme, the text behind it, and the cuts of that
pub data Cuts : Type 0 where
  end : Cuts
  stuck : Cuts
  cut : Token → List ℕ → List ℕ → Cuts → Cuts

-- the cut at the start of t; the n bytes of the lexeme less its first are passed by `go`
unfoldable pub cut_at : Scan → List ℕ → (ℕ → Cuts) → Cuts
cut_at None t go = stuck
cut_at (Some (k, n)) t go = cut k (take n t) (drop n t) (go (n - 1))

-- the cuts of a text whose first n bytes belong to the lexeme before
unfoldable pub cuts_from : List ℕ → ℕ → Cuts
cuts_from [] n = end
cuts_from (c ∷ w) (suc n) = cuts_from w n
cuts_from (c ∷ w) zero = cut_at (scan (c ∷ w)) (c ∷ w) (cuts_from w)

unfoldable pub cuts : List ℕ → Cuts
cuts t = cuts_from t 0

-- the offset where no token starts, the cuts starting at the offset `at`: document 01's "some offset, blanks passed, starts no token"
unfoldable pub unrecognized : Cuts → ℕ → Option ℕ
unrecognized end at = None
unrecognized stuck at = Some at
unrecognized (cut k w r cs) at = unrecognized cs (at + length w)
