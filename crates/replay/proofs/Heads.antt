-- The head of a text's answer, read number by number.
--     refusal_read, counts_read    a refusal's three numbers; three numbers and the counts
use mathlib.Core.Path.{◌≡◌, sym, ap, ◌∙◌}
use mathlib.Core.List.{List, [], ◌∷◌}
use Prim.Native.Nat.{ℕ, ◌+◌, ◌-◌, ◌≤◌}
use native.Mathlib.Omega.{arith}
use lib.ListN.{length, drop, length-drop}
use lib.Seq.{drop-drop, get_or-drop}
use Rattle.std.specs.Prelude.{Option, Some, None, Ok, Err}
use Rattle.replay.specs.List.{number_at, ReadsNumber, ReadsAnswer}

number_behind : (i : ℕ) (xs : List ℕ) → number_at (drop i xs) 0 ≡ number_at xs i
unfolding number_at
number_behind i xs =
    let e : i + 0 ≡ i = omega arith in
    rw (get_or-drop i xs 0 0, get_or-drop i xs 1 0, get_or-drop i xs 2 0, get_or-drop i xs 3 0, e)

-- a number that stands behind i bytes, and what is left behind it
module _ (xs : List ℕ) {ys zs : List ℕ} (i n : ℕ) (e : ys ≡ drop i xs) (h : ReadsNumber n (Some ys) (Some zs)) where
  rest_behind : zs ≡ drop (i + 4) xs
  rest_behind = h.1 ∙ ap (drop 4) e ∙ drop-drop 4 i xs

  is_behind : i + 4 ≤ length xs → n ≡ number_at xs i
  is_behind l =
      let m : length ys ≡ length xs - i = ap length e ∙ length-drop i xs in
      h.0 (omega (arith, l, m)) ∙ ap (λ (z : List ℕ). number_at z 0) e ∙ number_behind i xs

module _ (x y z : ℕ) where
  pub refusal_read : (o a b d : Option (List ℕ)) → ReadsNumber x o a → ReadsNumber y a b → ReadsNumber z b d → (x ≡ 0 → ⊥) → ReadsAnswer (Err (x ∷ y ∷ z ∷ [])) o d
  refusal_read None a b d h i j n = tt
  refusal_read (Some xs) None b d h i j n = absurd h
  refusal_read (Some xs) (Some ys) None d h i j n = absurd i
  refusal_read (Some xs) (Some ys) (Some zs) None h i j n = absurd j
  refusal_read (Some xs) (Some ys) (Some zs) (Some us) h i j n =
      let r : zs ≡ drop 8 xs = rest_behind xs 4 y h.1 i in (
        λ l e. n (h.0 l ∙ e),
        λ l. let p : x ≡ number_at xs 0 = h.0 (omega (arith, l)) in rw (p, is_behind xs 4 y h.1 i (omega (arith, l)), is_behind xs 8 z r j l),
        rest_behind xs 8 z r j,
      )

  pub counts_read : (v w : ℕ) (o a b d f k : Option (List ℕ)) → ReadsNumber x o a → ReadsNumber y a b → ReadsNumber z b d → ReadsNumber v d f → ReadsNumber w f k → x ≡ 0
      → ReadsAnswer (Ok (v ∷ w ∷ [])) o k
  counts_read v w None a b d f k h i j m q n = tt
  counts_read v w (Some xs) None b d f k h i j m q n = absurd h
  counts_read v w (Some xs) (Some ys) None d f k h i j m q n = absurd i
  counts_read v w (Some xs) (Some ys) (Some zs) None f k h i j m q n = absurd j
  counts_read v w (Some xs) (Some ys) (Some zs) (Some us) None k h i j m q n = absurd m
  counts_read v w (Some xs) (Some ys) (Some zs) (Some us) (Some vs) None h i j m q n = absurd q
  counts_read v w (Some xs) (Some ys) (Some zs) (Some us) (Some vs) (Some ws) h i j m q n =
      let r : zs ≡ drop 8 xs = rest_behind xs 4 y h.1 i in
      let s : us ≡ drop 12 xs = rest_behind xs 8 z r j in
      let t : vs ≡ drop 16 xs = rest_behind xs 12 v s m in
      (λ l. sym (h.0 l) ∙ n, λ l. rw (is_behind xs 12 v s m (omega (arith, l)), is_behind xs 16 w t q l), rest_behind xs 16 w t q)
