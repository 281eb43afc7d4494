-- Values laid into a list.
--     lay_all, lay_step, lay_done   before the first value, a value more, and behind the last one
--     laid_is                       a copy at the front, and one value behind it
use mathlib.Core.Path.{◌≡◌, refl, ap, ◌∙◌}
use mathlib.Core.Bool.{Bool, true, false}
use mathlib.Core.List.{List, [], ◌∷◌, ◌++◌, append-nil}
use Prim.Native.Nat.{ℕ, suc, ◌+◌, ◌-◌, ◌≤◌, ◌<◌, min}
use native.Mathlib.Omega.{arith}
use borrow.Author.Tests.{ltb-true, ltb-false}
use lib.Dec.{ltb}
use lib.ListN.{length, take, drop, set, get_or, replicate, length-append, length-drop, drop_of_length-le}
use lib.Seq.{take_all, take-append-le, length-take-le, take-suc-set, drop-set-lt, drop-cons, get_or-drop, drop-drop, append_snoc, take-nil}
use Rattle.ast.specs.Laid.{laid_with}

module _ {A : Type 0} (z : A) where
  -- what is there when i values are laid, the others still to be
  unfoldable pub laid_from : ℕ → List A → List A → List A
  laid_from i ns a = take i a ++ laid_with z (drop i ns) (drop i a)

  laid_cons : (ns : List A) (x : A) (a : List A) → laid_with z ns (x ∷ a) ≡ get_or ns 0 z ∷ laid_with z (drop 1 ns) a
  unfolding laid_with
  laid_cons [] x a = let e : suc (length a) - 0 ≡ suc (length a - 0) = omega arith in rw (e, take-nil (length a))
  laid_cons (n ∷ ns) x a = let e : suc (length a) - suc (length ns) ≡ length a - length ns = omega arith in rw e

  pub lay_step : (i : ℕ) (ns a : List A) → i < length a → laid_from (i + 1) ns (set a i (get_or ns i z)) ≡ laid_from i ns a
  unfolding laid_from
  lay_step i ns a h =
      let e : i + 1 ≡ suc i = omega arith in
      let d : drop i a ≡ get_or a i z ∷ drop (suc i) a = drop-cons a i z h in
      let n : i + 0 ≡ i = omega arith in
      let g : get_or (drop i ns) 0 z ≡ get_or ns i z = rw n at (get_or-drop i ns 0 z) in
      let r : drop 1 (drop i ns) ≡ drop (i + 1) ns = drop-drop 1 i ns in
      rw (d, laid_cons (drop i ns) (get_or a i z) (drop (suc i) a), g, r, e, take-suc-set a i (get_or ns i z) h, drop-set-lt (suc i) a i (get_or ns i z) (omega arith))
      (append_snoc (take i a) (get_or ns i z) (laid_with z (drop (suc i) ns) (drop (suc i) a)))

  pub lay_done : (i : ℕ) (ns a : List A) → length a ≤ i → laid_from i ns a ≡ a
  unfolding laid_from laid_with
  lay_done i ns a h =
      let n : 0 - length (drop i ns) ≡ 0 = omega arith in
      rw (drop_of_length-le a h, take_all i a h, n) (append-nil a)

  pub lay_all : (ns a : List A) → laid_from 0 ns a ≡ laid_with z ns a
  unfolding laid_from
  lay_all ns a = refl

module _ {A : Type 0} (z : A) (vs l : List A) (e : ℕ) (h : e ≡ min (length vs) (length l)) where
  as_many : take e vs ≡ take (length l) vs
  as_many = by (ltb (length vs) (length l)) refl
    where
      by : (x : Bool) → ltb (length vs) (length l) ≡ x → take e vs ≡ take (length l) vs
      by true q = let k = ltb-true (length vs) (length l) q in rw (take_all e vs (omega (arith, h, k)), take_all (length l) vs (omega arith))
      by false q = let k = ltb-false (length vs) (length l) q in let d : e ≡ length l = omega (arith, h, k) in rw d

  pub laid_is : (ys : List A) → ys ≡ take e vs → take e (ys ++ drop e l) ++ replicate (length (ys ++ drop e l) - e) z ≡ laid_with z vs l
  unfolding laid_with
  laid_is ys k =
      let n : length ys ≡ e = ap length k ∙ length-take-le e vs (omega (arith, h)) in
      let m : length (ys ++ drop e l) - e ≡ length l - length vs = omega (arith, h, n, length-append ys (drop e l), length-drop e l) in
      let t : take e (ys ++ drop e l) ≡ take (length l) vs = take-append-le e ys (drop e l) (omega arith) ∙ take_all e ys (omega arith) ∙ k ∙ as_many in
      rw (m, t)
