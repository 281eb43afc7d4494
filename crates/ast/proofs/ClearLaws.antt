-- Laws of what clear leaves.
--     clear_none, clear_step, clear_done   before the first value, a value more, and behind the last one
--     cleared_part                         a part of a list that became one value
--     cleared_by, cleared_all              a list afterwards, and one that was cleared from its front, where one value alone is the default
use mathlib.Core.Path.{◌≡◌, sym, ap, ◌∙◌}
use mathlib.Core.List.{List, ◌++◌, append-nil}
use Prim.Native.Nat.{ℕ, suc, ◌+◌, ◌-◌, ◌≤◌, ◌<◌}
use native.Mathlib.Omega.{arith}
use lib.ListN.{length, take, drop, set, replicate, length-set, length-drop, drop_of_length-le}
use lib.Seq.{take_all, take-suc-set, append_snoc}
use borrow.Rule.Slice.PartMut.{put_mid}
use Rattle.ast.specs.Clear.{Cleared}

module _ {A : Type 0} (z : A) where
  -- the list, its values from an index on cleared
  abbrev pub rest : ℕ → List A → List A
  rest i t = take i t ++ replicate (length t - i) z

  pub clear_none : (t : List A) → rest 0 t ≡ replicate (length t) z
  clear_none t = let n : length t - 0 ≡ length t = omega arith in rw n

  pub clear_step : (i : ℕ) (t : List A) {u : List A} → i < length t → rest i t ≡ u → rest (i + 1) (set t i z) ≡ u
  clear_step i t {u} h k =
      let e : i + 1 ≡ suc i = omega arith in
      let n : length t - i ≡ suc (length t - suc i) = omega arith in
      rw (length-set, e, take-suc-set t i z h) (append_snoc (take i t) z (replicate (length t - suc i) z) ∙ (rw n at k))

  pub clear_done : (i : ℕ) (t : List A) {u : List A} → length t ≤ i → rest i t ≡ u → t ≡ u
  clear_done i t h k = let n : length t - i ≡ 0 = omega arith in sym (append-nil t) ∙ (rw (n, take_all i t h) at k)

  pub cleared_part : (n : ℕ) (l ys : List A) → n ≤ length l → ys ≡ replicate (length (take (length l - n) (drop n l))) z → put_mid n (length l - n) l ys ≡ rest n l
  cleared_part n l ys h e =
      let s : length (drop n l) ≤ length l - n = omega (arith, length-drop n l) in
      rw (e, take_all (length l - n) (drop n l) s, length-drop n l, drop_of_length-le (drop n l) {i = length l - n} s, append-nil)

  pub cleared_by : (n : ℕ) (l l' : List A) → Cleared (λ x. x ≡ z) n l l' → l' ≡ rest n l
  cleared_by n l l' c = c.2 ∙ ap (λ x. take n l ++ replicate (length l - n) x) c.1

  pub cleared_all : (l l' : List A) → Cleared (λ x. x ≡ z) 0 l l' → l' ≡ replicate (length l) z
  cleared_all l l' c = cleared_by 0 l l' c ∙ clear_none l
