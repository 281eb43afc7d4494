-- The first nine numbers of each record, copied, and 0 past the records.
--     carried                           the numbers of a record
--     copy_start, copy_on, copy_done    record after record
--     placed                            the output then
use mathlib.Core.Path.{◌≡◌, refl, sym, ap, ◌∙◌}
use mathlib.Core.Bool.{Bool, true, false}
use mathlib.Core.List.{List, ◌++◌}
use Prim.Native.Nat.{ℕ, suc, ◌+◌, ◌*◌, ◌-◌, ◌≤◌, ◌<◌}
use native.Mathlib.Omega.{arith}
use native.Mathlib.Nat.{mul-le-mul_right}
use borrow.Author.Tests.{ltb-true, ltb-false}
use lib.Dec.{ltb}
use lib.ListN.{length, take, drop, get_or, replicate, length-drop, length-append, length-replicate, get_or-replicate, get_or-append}
use lib.Seq.{length-take-le, get_or-take, get_or-drop, get_or-append-add}
use borrow.Rule.Slice.PartMut.{put_mid, post_of}
use Rattle.steps.specs.Into.{wiped}
use Rattle.move_tables.specs.Moves.{narrow_width}
use Rattle.move_tables.specs.Walk.{Carries, Carried, Copies, Copied, Placed}

-- ---- 0 from an index on

module _ (i : ℕ) (t : List ℕ) (h : i ≤ length t) where
  pub wiped_length : length (wiped i t) ≡ length t
  unfolding wiped
  wiped_length =
      omega (arith, length-append (take i t) (replicate (length t - i) 0), length-take-le i t h, length-replicate {A = ℕ} (length t - i) 0)

  wiped_before : (k : ℕ) → k < i → get_or (wiped i t) k 0 ≡ get_or t k 0
  unfolding wiped
  wiped_before k g =
      let l = length-take-le i t h in
      get_or-append (take i t) (replicate (length t - i) 0) 0 k (omega arith) ∙ get_or-take i t k 0 g

  wiped_past : (k : ℕ) → i ≤ k → k < length t → get_or (wiped i t) k 0 ≡ 0
  unfolding wiped
  wiped_past k g j =
      let l = length-take-le i t h in
      let z : k ≡ length (take i t) + (k - i) = omega arith in
      ap (λ (m : ℕ). get_or (take i t ++ replicate (length t - i) 0) m 0) z ∙ get_or-append-add (take i t) (replicate (length t - i) 0) (k - i) 0
      ∙ get_or-replicate (length t - i) (k - i) 0 0 (omega arith)

-- ---- the numbers of a record

-- a slice written over a part of the output: k and l are 9
pub carried : {t out : List ℕ} {from to : ℕ} (k l : ℕ) (ys : List ℕ) → Carries t from out to → k ≡ narrow_width → l ≡ narrow_width → ys ≡ take l (drop from t) →
    length (put_mid to k out ys) ≡ length out → Carried t from to out (put_mid to k out ys)
carried {t} {out} {from} {to} k l ys c d e f g =
    let there = c.there in
    let room = c.room in
    let wide : length (take to out) ≡ to = length-take-le to out (omega arith) in
    let rest = length-drop from t in
    let part : length ys ≡ narrow_width = ap length f ∙ length-take-le l (drop from t) (omega arith) ∙ e in
    record {
      long = g;
      before = λ i h. get_or-append (take to out) (ys ++ post_of to k out) 0 i (omega arith) ∙ get_or-take to out i 0 h;
      each = λ j h.
          ap (λ (m : ℕ). get_or (put_mid to k out ys) (m + j) 0) (sym wide) ∙ get_or-append-add (take to out) (ys ++ post_of to k out) j 0
          ∙ get_or-append ys (post_of to k out) 0 j (omega arith) ∙ ap (λ (zs : List ℕ). get_or zs j 0) f ∙ get_or-take l (drop from t) j 0 (omega arith) ∙ get_or-drop from t j 0;
    }

-- ---- record after record

-- record i of so many ends before the next one begins
before_next : (v i n j : ℕ) → narrow_width ≤ v → i < n → j < narrow_width → i * v + j < n * v
before_next v i n j h g k =
    let m : suc i * v ≤ n * v = mul-le-mul_right v g in
    let e : suc i * v ≡ i * v + v = omega arith in
    omega arith

module _ {t : List ℕ} {w v : ℕ} where
  pub copy_start : (out : List ℕ) → Copied t w v 0 out out
  copy_start out = record { long = refl; each = λ i j h. absurd (omega arith) }

  module _ {n count : ℕ} {out₀ out : List ℕ} (c : Copies t w out₀ v count) (h : n < count) (s : Copied t w v n out₀ out) where
    pub copy_carries : Carries t (n * w) out (n * v)
    copy_carries =
        let m : suc n * w ≤ count * w = mul-le-mul_right w h in
        let e : suc n * w ≡ n * w + w = omega arith in
        let m' : suc n * v ≤ count * v = mul-le-mul_right v h in
        let e' : suc n * v ≡ n * v + v = omega arith in
        record { there = omega (arith, m, e, c.there, c.wide); room = omega (arith, m', e', c.room, s.long, c.wide') }

    pub copy_on : {out' : List ℕ} → Carried t (n * w) (n * v) out out' → Copied t w v (n + 1) out₀ out'
    copy_on {out'} d = record { long = d.long ∙ s.long; each = λ i j g k. by i j (ltb i n) refl g k }
      where
        by : (i j : ℕ) (b : Bool) → ltb i n ≡ b → i < n + 1 → j < narrow_width → get_or out' (i * v + j) 0 ≡ get_or t (i * w + j) 0
        by i j true l g k =
            let m = ltb-true i n l in
            d.before (i * v + j) (before_next v i n j c.wide' m k) ∙ s.each i j m k
        by i j false l g k =
            let m = ltb-false i n l in
            let q : n ≡ i = omega arith in
            rw (sym q) (d.each j k)

  pub copy_done : {n count : ℕ} {out₀ out : List ℕ} → count ≤ n → Copied t w v n out₀ out → Copied t w v count out₀ out
  copy_done h s = record { long = s.long; each = λ i j g k. s.each i j (omega arith) k }

-- ---- the output

pub placed : {t : List ℕ} {w v count : ℕ} {out first : List ℕ} (mid : List ℕ) → narrow_width ≤ v → count * v ≤ length out → Copied t w v count out first
    → mid ≡ wiped (count * v) first → Placed t w v count out mid
placed {t} {w} {v} {count} {out} {first} mid h room c e =
    let l = c.long in
    let r : count * v ≤ length first = omega arith in
    rw e
    (record {
      long = wiped_length (count * v) first r ∙ l;
      each = λ i j g k. wiped_before (count * v) first r (i * v + j) (before_next v i count j h g k) ∙ c.each i j g k;
      past = λ k g i. wiped_past (count * v) first r k g (omega arith);
    })
