-- UTF-8 as RFC 3629, section 4, has it: a row for each alternative of UTF8-char, with the ranges of its bytes.
use Rattle.std.specs.Prelude.{ℕ, zero, suc, Bool, true, false, cond, ◌&&◌, List, [], ◌∷◌, ◌≡◌, leb, length}
use Rattle.std.specs.Prelude.{Option, Some, None}
use Rattle.token.specs.Regex.{Range, to}

-- UTF8-tail
unfoldable pub tail : Range
tail = to 0x80 0xbf

-- UTF8-1, UTF8-2, UTF8-3, UTF8-4
unfoldable pub sequences : List (List Range)
sequences =
    (to 0x00 0x7f ∷ [])
    ∷ (to 0xc2 0xdf ∷ tail ∷ [])
    ∷ (to 0xe0 0xe0 ∷ to 0xa0 0xbf ∷ tail ∷ [])
    ∷ (to 0xe1 0xec ∷ tail ∷ tail ∷ [])
    ∷ (to 0xed 0xed ∷ to 0x80 0x9f ∷ tail ∷ [])
    ∷ (to 0xee 0xef ∷ tail ∷ tail ∷ [])
    ∷ (to 0xf0 0xf0 ∷ to 0x90 0xbf ∷ tail ∷ tail ∷ [])
    ∷ (to 0xf1 0xf3 ∷ tail ∷ tail ∷ tail ∷ [])
    ∷ (to 0xf4 0xf4 ∷ to 0x80 0x8f ∷ tail ∷ tail ∷ [])
    ∷ []

-- the text begins with a byte of each range
unfoldable pub begins : List Range → List ℕ → Bool
begins [] w = true
begins (to a b ∷ rs) [] = false
begins (to a b ∷ rs) (c ∷ w) = leb a c && leb c b && begins rs w

-- how long the first row is that the text begins with, 0 if there is none
unfoldable pub width : List (List Range) → List ℕ → ℕ
width [] w = 0
width (s ∷ ss) w = cond (begins s w) (length s) (width ss w)

-- a sequence of n bytes starts at the offset `at`: go on behind it; where there is none, it is ill-formed
unfoldable pub sequence : ℕ → ℕ → (ℕ → Option ℕ) → Option ℕ
sequence zero at go = Some at
sequence (suc n) at go = go n

-- the offset of the first ill-formed sequence: the bytes left start at `at`, and n of them belong to the sequence before
unfoldable pub ill_from : List ℕ → ℕ → ℕ → Option ℕ
ill_from [] at n = None
ill_from (c ∷ w) at (suc n) = ill_from w (suc at) n
ill_from (c ∷ w) at zero = sequence (width sequences (c ∷ w)) at (ill_from w (suc at))

-- document 01: "not UTF-8 (RFC 3629)", at the first ill-formed sequence
unfoldable pub ill_formed : List ℕ → Option ℕ
ill_formed t = ill_from t 0 0

abbrev pub WellFormed : List ℕ → Type 0
WellFormed t = ill_formed t ≡ None
