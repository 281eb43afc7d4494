-- What a call does to the bytes that an input has left, where those are known. Of standard input they are not.
use Rattle.std.specs.Prelude.{◌≡◌, ℕ, List, length, take, drop, ⊤, Option, None, Some}

-- the first n are passed, or all if there are fewer
abbrev pub Passes : ℕ → Option (List ℕ) → Option (List ℕ) → Type 0
Passes n None new = ⊤
Passes n (Some xs) None = ⊥
Passes n (Some xs) (Some ys) = ys ≡ drop n xs

-- as many as a space holds, or all if there are fewer, are passed, and are the first n of the space
abbrev pub Fills : List ℕ → ℕ → Option (List ℕ) → Option (List ℕ) → Type 0
Fills space n None new = ⊤
Fills space n (Some xs) None = ⊥
Fills space n (Some xs) (Some ys) = (take n space ≡ take (length space) xs) × (ys ≡ drop (length space) xs)
