-- What is read of the bytes that a list has left.
--     number_filled   four bytes that a read filled are the next number's
use Rattle.std.proofs.Common.{◌≡◌, ℕ, ◌≤◌, List, Option, None, Some, arith, length, take, drop, get_or, sym, ap, ◌∙◌}
use Rattle.std.proofs.lemmas.List.{get_or-take, length-take-le, length-take, take_all}
use Rattle.input.specs.Known.{Fills}
use Rattle.replay.specs.List.{number_at, ReadsNumber}

-- so many bytes are all there are in the space
whole : (bytes xs : List ℕ) (n : ℕ) → 4 ≤ length xs → length bytes ≡ 4 → take n bytes ≡ take (length bytes) xs → bytes ≡ take 4 xs
whole bytes xs n long e f =
    let four : take n bytes ≡ take 4 xs = f ∙ ap (λ (m : ℕ). take m xs) e in
    let count : length (take n bytes) ≡ 4 = ap length four ∙ length-take-le 4 xs long in
    let all : length bytes ≤ n = omega (arith, length-take n bytes) in
    sym (take_all n bytes all) ∙ four

first : (xs : List ℕ) → number_at (take 4 xs) 0 ≡ number_at xs 0
unfolding number_at
first xs =
    let a : get_or (take 4 xs) 0 0 ≡ get_or xs 0 0 = get_or-take 4 xs 0 0 (omega arith) in
    let b : get_or (take 4 xs) 1 0 ≡ get_or xs 1 0 = get_or-take 4 xs 1 0 (omega arith) in
    let c : get_or (take 4 xs) 2 0 ≡ get_or xs 2 0 = get_or-take 4 xs 2 0 (omega arith) in
    let d : get_or (take 4 xs) 3 0 ≡ get_or xs 3 0 = get_or-take 4 xs 3 0 (omega arith) in
    cc

pub number_filled : (bytes : List ℕ) (n : ℕ) (a b : Option (List ℕ)) → length bytes ≡ 4 → Fills bytes n a b → ReadsNumber (number_at bytes 0) a b
number_filled bytes n None b e f = tt
number_filled bytes n (Some xs) None e f = absurd f
number_filled bytes n (Some xs) (Some ys) e f = (
  λ long. ap (λ (l : List ℕ). number_at l 0) (whole bytes xs n long e f.0) ∙ first xs,
  f.1 ∙ ap (λ (m : ℕ). drop m xs) e,
)
