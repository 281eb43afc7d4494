-- What the replay programs look at: the numbers of a list, and what has to be 0.
-- And what a call reads of the bytes that the list has left, where those are known; of standard input they are not.
use Rattle.std.specs.Prelude.{◌≡◌, List, [], ◌∷◌, ℕ, zero, suc, ◌+◌, ◌*◌, ◌<◌, ◌≤◌, length, get_or, take, drop, ⊤, Option, None, Some, Result, Ok, Err}

-- a little-endian number of 4 bytes
unfoldable pub number_at : List ℕ → ℕ → ℕ
number_at l i = get_or l i 0 + get_or l (i + 1) 0 * 256 + get_or l (i + 2) 0 * 65536 + get_or l (i + 3) 0 * 16777216

-- 0 from an index on
abbrev pub ZeroFrom : List ℕ → ℕ → Type 0
ZeroFrom t i = (k : ℕ) → i ≤ k → get_or t k 0 ≡ 0

-- the next number, unless the list ends before it does
abbrev pub ReadsNumber : ℕ → Option (List ℕ) → Option (List ℕ) → Type 0
ReadsNumber n None new = ⊤
ReadsNumber n (Some xs) None = ⊥
ReadsNumber n (Some xs) (Some ys) = (4 ≤ length xs → n ≡ number_at xs 0) × (ys ≡ drop 4 xs)

-- the next part, a number and so many bytes; if there is no room for them the number alone, and no bytes
abbrev pub ReadsPart : ℕ → List ℕ → Option (List ℕ) → Option (List ℕ) → Type 0
ReadsPart room part None new = ⊤
ReadsPart room part (Some xs) None = ⊥
ReadsPart room part (Some xs) (Some ys) =
    4 ≤ length xs →
    (number_at xs 0 ≤ room → (part ≡ take (number_at xs 0) (drop 4 xs)) × (ys ≡ drop (number_at xs 0) (drop 4 xs)))
    × (room < number_at xs 0 → (part ≡ []) × (ys ≡ drop 4 xs))

-- the next part is passed, a number and so many bytes
abbrev pub PassesPart : Option (List ℕ) → Option (List ℕ) → Type 0
PassesPart None new = ⊤
PassesPart (Some xs) None = ⊥
PassesPart (Some xs) (Some ys) = 4 ≤ length xs → ys ≡ drop (number_at xs 0) (drop 4 xs)

-- so many parts are passed, one after another
unfoldable pub PassesParts : ℕ → Option (List ℕ) → Option (List ℕ) → Type 0
PassesParts zero old new = old ≡ new
PassesParts (suc n) old new = (left : Option (List ℕ)) × PassesParts n old left × PassesPart left new

-- what the list has for a text: 0, two numbers more, and the counts; or the refusal's three numbers. Of a list that ends before them it says what the numbers that are there say
abbrev pub ReadsAnswer : Result (List ℕ) (List ℕ) → Option (List ℕ) → Option (List ℕ) → Type 0
ReadsAnswer answer None new = ⊤
ReadsAnswer answer (Some xs) None = ⊥
ReadsAnswer (Ok counts) (Some xs) (Some ys) =
    (4 ≤ length xs → number_at xs 0 ≡ 0) × (20 ≤ length xs → counts ≡ number_at xs 12 ∷ number_at xs 16 ∷ []) × (ys ≡ drop 20 xs)
ReadsAnswer (Err refusal) (Some xs) (Some ys) =
    (4 ≤ length xs → number_at xs 0 ≡ 0 → ⊥) × (12 ≤ length xs → refusal ≡ number_at xs 0 ∷ number_at xs 4 ∷ number_at xs 8 ∷ []) × (ys ≡ drop 12 xs)
