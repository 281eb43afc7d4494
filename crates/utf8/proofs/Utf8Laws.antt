-- Laws of UTF-8. The first byte decides which bytes can follow; well-formed texts can be joined, and cut before a byte below 128.
--     ill_join      behind a well-formed text the search goes on as if it started there
--     well_join     two well-formed texts, one behind the other, are one
--     well_left, well_right    a well-formed text cut before a byte below 128, or at its end
--     well_ascii    bytes below 128 are well-formed
use mathlib.Core.Path.{◌≡◌, refl, sym, ap, ◌∙◌}
use mathlib.Core.Bool.{Bool, true, false, cond, ◌&&◌, and-eq-true_iff, false≢true}
use mathlib.Core.List.{List, [], ◌∷◌, ◌++◌}
use Rattle.std.specs.Prelude.{Some, None}
use Prim.Native.Nat.{ℕ, zero, suc, ◌+◌, ◌-◌, ◌≤◌, ◌<◌, zero-le, suc-le-suc}
use native.Mathlib.Nat.{add-zero}
use native.Mathlib.Omega.{arith}
use native.Mathlib.Numerals.{add-one}
use borrow.Author.Tests.{le-leb, lt-leb, leb-true}
use lib.Dec.{leb}
use lib.ListN.{length, take, drop, get_or, replicate, drop_of_length-le, length-drop, length-take, take-append-drop}
use lib.Seq.{take_all, drop-cons, drop-drop, get_or-take, get_or-drop}
use Rattle.std.specs.Bool.{MatchBool}
use Rattle.std.specs.List.{AllWithin, HoldsAt}
use Rattle.token.specs.Regex.{Range, to}
use Rattle.utf8.specs.Utf8.{tail, sequences, begins, width, sequence, ill_from, ill_formed, WellFormed}

-- ---- the first byte

-- no byte is in its range
unfoldable pub never : List Range
never = to 0xff 0x00 ∷ []

never_begins : (w : List ℕ) → begins never w ≡ false
unfolding never begins
never_begins [] = refl
never_begins (c ∷ w) = go (leb 255 c) refl
  where
    go : (b : Bool) → leb 255 c ≡ b → (b && leb c 0 && true) ≡ false
    go true e = rw (lt-leb c 0 (omega (arith, leb-true 255 c e)))
    go false e = refl

-- the ranges of the bytes behind c, where the rows are apart
unfoldable pub rest_of : List (List Range) → ℕ → List Range
rest_of [] c = never
rest_of ([] ∷ ss) c = never
rest_of ((to a b ∷ rs) ∷ ss) c = cond (leb c b) (cond (leb a c) rs never) (rest_of ss c)

-- the first bytes of the rows are above b
above : ℕ → List (List Range) → Bool
above b [] = true
above b ([] ∷ ss) = false
above b ((to p q ∷ rs) ∷ ss) = leb (suc b) p && above b ss

-- the first bytes of each row are below those of the rows behind it
apart : List (List Range) → Bool
apart [] = true
apart ([] ∷ ss) = false
apart ((to a b ∷ rs) ∷ ss) = above b ss && apart ss

width_above : (ss : List (List Range)) (b c : ℕ) (w : List ℕ) → above b ss ≡ true → c ≤ b → width ss (c ∷ w) ≡ 0
unfolding above width begins
width_above [] b c w e h = refl
width_above ([] ∷ ss) b c w e h = cc
width_above ((to p q ∷ rs) ∷ ss) b c w e h =
    let f = (and-eq-true_iff (leb (suc b) p) (above b ss)).0 e in
    rw (lt-leb p c (omega (arith, leb-true (suc b) p f.0))) (width_above ss b c w f.1 h)

never_width : (w : List ℕ) → 0 ≡ cond (begins never w) (suc (length never)) 0
never_width w = rw (never_begins w)

rest_apart : (ss : List (List Range)) (c : ℕ) (w : List ℕ) → apart ss ≡ true
    → width ss (c ∷ w) ≡ cond (begins (rest_of ss c) w) (suc (length (rest_of ss c))) 0
unfolding apart width begins rest_of
rest_apart [] c w e = never_width w
rest_apart ([] ∷ ss) c w e = cc
rest_apart ((to a b ∷ rs) ∷ ss) c w e = go (leb c b) refl (rest_apart ss c w f.1)
  where
    f : (above b ss ≡ true) × (apart ss ≡ true)
    f = (and-eq-true_iff (above b ss) (apart ss)).0 e

    in_row : (l : Bool) → c ≤ b
        → cond (l && true && begins rs w) (suc (length rs)) (width ss (c ∷ w)) ≡ cond (begins (cond l rs never) w) (suc (length (cond l rs never))) 0
    in_row true h = rw (width_above ss b c w f.0 h)
    in_row false h = rw (width_above ss b c w f.0 h) (never_width w)

    off : (l : Bool) → cond (l && false && begins rs w) (suc (length rs)) (width ss (c ∷ w)) ≡ width ss (c ∷ w)
    off true = refl
    off false = refl

    go : (h : Bool) → leb c b ≡ h → width ss (c ∷ w) ≡ cond (begins (rest_of ss c) w) (suc (length (rest_of ss c))) 0
        → cond (leb a c && h && begins rs w) (suc (length rs)) (width ss (c ∷ w))
        ≡ cond (begins (cond h (cond (leb a c) rs never) (rest_of ss c)) w) (suc (length (cond h (cond (leb a c) rs never) (rest_of ss c)))) 0
    go true q ih = in_row (leb a c) (leb-true c b q)
    go false q ih = off (leb a c) ∙ ih

-- the sequence that starts with c goes on with the bytes of rs
pub width_rest : (c : ℕ) (w : List ℕ) (rs : List Range) → rest_of sequences c ≡ rs → width sequences (c ∷ w) ≡ cond (begins rs w) (suc (length rs)) 0
unfolding apart above sequences
width_rest c w rs e = rw e at (rest_apart sequences c w refl)

-- no sequence starts with c
pub none_starts : (c : ℕ) (w : List ℕ) → rest_of sequences c ≡ never → width sequences (c ∷ w) ≡ 0
none_starts c w e = width_rest c w never e ∙ sym (never_width w)

-- the first bytes of the rows are below a
unfoldable pub below : ℕ → List (List Range) → Bool
below a [] = true
below a ([] ∷ ss) = false
below a ((to p q ∷ rs) ∷ ss) = leb (suc q) a && below a ss

rest_past : (ss ts : List (List Range)) (a c : ℕ) → below a ss ≡ true → a ≤ c → rest_of (ss ++ ts) c ≡ rest_of ts c
unfolding below rest_of
rest_past [] ts a c e h = refl
rest_past ([] ∷ ss) ts a c e h = cc
rest_past ((to p q ∷ rs) ∷ ss) ts a c e h =
    let f = (and-eq-true_iff (leb (suc q) a) (below a ss)).0 e in
    rw (lt-leb c q (omega (arith, leb-true (suc q) a f.0))) (rest_past ss ts a c f.1 h)

-- a byte from a on is in none of the first k rows, where these are below a
pub rest_from : (k a c : ℕ) → below a (take k sequences) ≡ true → a ≤ c → rest_of sequences c ≡ rest_of (drop k sequences) c
rest_from k a c e h = ap (λ (ss : List (List Range)). rest_of ss c) (sym (take-append-drop k sequences)) ∙ rest_past (take k sequences) (drop k sequences) a c e h

-- ---- a byte below 128 belongs to no sequence that starts before it

-- each range is above 127
high : List Range → Bool
high [] = true
high (to a b ∷ rs) = leb 128 a && high rs

-- each range but the first of a row is above 127
high_rows : List (List Range) → Bool
high_rows [] = true
high_rows ([] ∷ ss) = false
high_rows ((r ∷ rs) ∷ ss) = high rs && high_rows ss

-- no bytes, or a first one below 128
abbrev pub Starts : List ℕ → Type 0
Starts [] = Unit {0}
Starts (c ∷ w) = c < 128

begins_cut : (rs : List Range) (u v : List ℕ) → high rs ≡ true → Starts v → begins rs (u ++ v) ≡ begins rs u
unfolding begins high
begins_cut [] u v e s = refl
begins_cut (to a b ∷ rs) [] [] e s = refl
begins_cut (to a b ∷ rs) [] (d ∷ v) e s =
    rw (lt-leb a d (omega (arith, leb-true 128 a ((and-eq-true_iff (leb 128 a) (high rs)).0 e).0)))
begins_cut (to a b ∷ rs) (x ∷ u) v e s = rw (begins_cut rs u v ((and-eq-true_iff (leb 128 a) (high rs)).0 e).1 s)

begins_join : (rs : List Range) (u v : List ℕ) → begins rs u ≡ true → (begins rs (u ++ v) ≡ true) × (length rs ≤ length u)
unfolding begins
begins_join [] u v e = (refl, omega arith)
begins_join (to a b ∷ rs) [] v e = absurd (false≢true e)
begins_join (to a b ∷ rs) (x ∷ u) v e =
    let f = (and-eq-true_iff (leb a x && leb x b) (begins rs u)).0 e in
    let g = begins_join rs u v f.1 in
    (rw f.0 g.0, omega arith)

high_rest : (ss : List (List Range)) (c : ℕ) → high_rows ss ≡ true → high (rest_of ss c) ≡ true
unfolding high high_rows rest_of never
high_rest [] c e = refl
high_rest ([] ∷ ss) c e = refl
high_rest ((to a b ∷ rs) ∷ ss) c e = go (leb c b) (leb a c) (high_rest ss c f.1)
  where
    f : (high rs ≡ true) × (high_rows ss ≡ true)
    f = (and-eq-true_iff (high rs) (high_rows ss)).0 e

    go : (h l : Bool) → high (rest_of ss c) ≡ true → high (cond h (cond l rs never) (rest_of ss c)) ≡ true
    go true true ih = f.0
    go true false ih = refl
    go false l ih = ih

-- ---- the width of a sequence

width_cut : (c : ℕ) (u v : List ℕ) → Starts v → width sequences (c ∷ u ++ v) ≡ width sequences (c ∷ u)
unfolding sequences high_rows high tail
width_cut c u v s =
    let e : begins (rest_of sequences c) (u ++ v) ≡ begins (rest_of sequences c) u = begins_cut (rest_of sequences c) u v (high_rest sequences c refl) s in
    width_rest c (u ++ v) _ refl ∙ rw e (sym (width_rest c u _ refl))

width_join : (c k : ℕ) (u v : List ℕ) → width sequences (c ∷ u) ≡ suc k → (width sequences (c ∷ u ++ v) ≡ suc k) × (k ≤ length u)
width_join c k u v e = go (begins rs u) refl (sym (width_rest c u rs refl) ∙ e)
  where
    rs : List Range
    rs = rest_of sequences c

    go : (b : Bool) → begins rs u ≡ b → cond b (suc (length rs)) 0 ≡ suc k → (width sequences (c ∷ u ++ v) ≡ suc k) × (k ≤ length u)
    go true q h =
        let g = begins_join rs u v q in
        (width_rest c (u ++ v) rs refl ∙ rw g.0 h, omega arith)
    go false q h = absurd (omega arith)

pub width_ascii : (c : ℕ) (w : List ℕ) → c < 128 → width sequences (c ∷ w) ≡ 1
unfolding rest_of sequences begins
width_ascii c w h = width_rest c w [] (rw (le-leb c 0x7f (omega arith), le-leb 0 c (omega arith)))

pub width_length : (w : List ℕ) → width sequences w ≤ length w
unfolding width sequences begins
width_length [] = zero-le
width_length (c ∷ w) = rw (width_rest c w rs refl) (go (begins rs w) refl)
  where
    rs : List Range
    rs = rest_of sequences c

    go : (b : Bool) → begins rs w ≡ b → cond b (suc (length rs)) 0 ≤ suc (length w)
    go true q = suc-le-suc (begins_join rs w [] q).1
    go false q = zero-le

-- ---- one byte after the other

-- no byte is left, and one is wanted
pub begins_end : (a b : ℕ) (rs : List Range) (t : List ℕ) (i : ℕ) → length t ≤ i → begins (to a b ∷ rs) (drop i t) ≡ false
unfolding begins
begins_end a b rs t i h = rw (drop_of_length-le t h)

-- the next byte, and those behind it
pub begins_step : (a b : ℕ) (rs : List Range) (t : List ℕ) (i : ℕ) → i < length t
    → begins (to a b ∷ rs) (drop i t) ≡ (leb a (get_or t i 0) && leb (get_or t i 0) b && begins rs (drop (i + 1) t))
unfolding begins
begins_step a b rs t i h = rw (drop-cons t i 0 h, add-one)

-- k tail bytes: all that come first are in range; one is out of it; the text is too short
abbrev pub IsTail : ℕ → Type 0
IsTail c = (0x80 ≤ c) × (c ≤ 0xbf)

abbrev pub NoTail : ℕ → Type 0
NoTail c = 0x80 ≤ c → 0xbf < c

pub tails_all : (k : ℕ) (w : List ℕ) → k ≤ length w → ((i : ℕ) → i < k → IsTail (get_or w i 0)) → begins (replicate k tail) w ≡ true
unfolding begins tail
tails_all zero w h f = refl
tails_all (suc k) [] h f = absurd (omega arith)
tails_all (suc k) (c ∷ w) h f =
    rw (le-leb 0x80 c (f 0 (omega arith)).0, le-leb c 0xbf (f 0 (omega arith)).1) (tails_all k w (omega arith) (λ i g. f (suc i) (omega arith)))

pub tails_some : (k : ℕ) (w : List ℕ) (i : ℕ) → i < k → NoTail (get_or w i 0) → begins (replicate k tail) w ≡ false
unfolding begins tail
tails_some zero w i h f = absurd (omega arith)
tails_some (suc k) [] i h f = refl
tails_some (suc k) (c ∷ w) zero h f = go (leb 0x80 c) refl
  where
    go : (b : Bool) → leb 0x80 c ≡ b → (b && leb c 0xbf && begins (replicate k tail) w) ≡ false
    go true e = rw (lt-leb c 0xbf (f (leb-true 0x80 c e)))
    go false e = refl
tails_some (suc k) (c ∷ w) (suc i) h f = rw (tails_some k w i (omega arith) f) (both_false (leb 0x80 c) (leb c 0xbf))
  where
    both_false : (a b : Bool) → (a && b && false) ≡ false
    both_false true true = refl
    both_false true false = refl
    both_false false b = refl

pub tails_short : (k : ℕ) (w : List ℕ) → length w < k → begins (replicate k tail) w ≡ false
unfolding begins tail
tails_short zero w h = absurd (omega arith)
tails_short (suc k) [] h = refl
tails_short (suc k) (c ∷ w) h = rw (tails_short k w (omega arith)) (both_false (leb 0x80 c) (leb c 0xbf))
  where
    both_false : (a b : Bool) → (a && b && false) ≡ false
    both_false true true = refl
    both_false true false = refl
    both_false false b = refl

-- the same as a search of the first k bytes tells it
pub tails_met : (k : ℕ) (w : List ℕ) (b : Bool) → k ≤ length w → MatchBool b (AllWithin IsTail (take k w) 0 (length (take k w))) ((i : ℕ) × (i < length (take k w)) × HoldsAt NoTail (take k w) i)
    → b ≡ begins (replicate k tail) w
tails_met k w true h m =
    let n : length (take k w) ≡ k = simp length-take (omega arith) in
    sym (tails_all k w h (λ i g. rw (get_or-take k w i 0 g) at (m i 0 (omega arith) (omega arith))))
tails_met k w false h m =
    let n : length (take k w) ≡ k = simp length-take (omega arith) in
    let g : m.0 < k = omega (arith, m.1) in
    sym (tails_some k w m.0 g (rw (get_or-take k w m.0 0 g) at (m.2 0)))

-- the rest of a text, as a slice up to its end
pub rest_part : (t : List ℕ) (at : ℕ) → take (length t - at) (drop at t) ≡ drop at t
rest_part t at = take_all (length t - at) (drop at t) (omega (arith, length-drop at t))

-- the k bytes that belong to the sequence before are passed over
ill_skip : (w : List ℕ) (a k : ℕ) → ill_from w a k ≡ ill_from (drop k w) (a + k) 0
unfolding ill_from
ill_skip w a zero = rw add-zero
ill_skip [] a (suc k) = refl
ill_skip (c ∷ w) a (suc k) = ill_skip w (suc a) k ∙ ap (λ (m : ℕ). ill_from (drop k w) m 0) (omega arith)

-- a sequence of n bytes starts at i: the search goes on behind it
pub ill_step : (t : List ℕ) (i n : ℕ) → i < length t → n ≡ width sequences (drop i t) → (n ≡ 0 → ⊥) → ill_from (drop i t) i 0 ≡ ill_from (drop (i + n) t) (i + n) 0
unfolding ill_from sequence
ill_step t i zero h e f = absurd (f refl)
ill_step t i (suc k) h e f =
    let g : suc k ≡ width sequences (get_or t i 0 ∷ drop (suc i) t) = rw (← drop-cons t i 0 h) e in
    let m : suc i + k ≡ i + suc k = omega arith in
    rw (drop-cons t i 0 h, ← g, ← m, ← drop-drop k (suc i) t) (ill_skip (drop (suc i) t) (suc i) k)

pub ascii_step : (t : List ℕ) (i : ℕ) → i < length t → get_or t i 0 < 128 → ill_from (drop i t) i 0 ≡ ill_from (drop (i + 1) t) (i + 1) 0
ascii_step t i h l = ill_step t i 1 h (sym (rw (drop-cons t i 0 h) (width_ascii (get_or t i 0) (drop (suc i) t) l))) (λ e. omega arith)

-- n bytes below 128 are passed
ascii_steps : (t : List ℕ) (i n : ℕ) → i + n ≤ length t → ((j : ℕ) → j < n → get_or t (i + j) 0 < 128) → ill_from (drop i t) i 0 ≡ ill_from (drop (i + n) t) (i + n) 0
ascii_steps t i zero h f = rw add-zero
ascii_steps t i (suc n) h f =
    let m : i + 1 + n ≡ i + suc n = omega arith in
    let z : get_or t i 0 < 128 = rw add-zero at (f 0 (omega arith)) in
    ascii_step t i (omega arith) z ∙ rw m at (ascii_steps t (i + 1) n (omega arith) (λ j g. let e : i + 1 + j ≡ i + suc j = omega arith in rw e (f (suc j) (omega arith))))

-- a part of the text whose bytes are below 128 is passed
pub ascii_part : (t : List ℕ) (i e : ℕ) → i ≤ e → e ≤ length t → ((j : ℕ) → get_or (take (e - i) (drop i t)) j 0 < 128) → ill_from (drop i t) i 0 ≡ ill_from (drop e t) e 0
ascii_part t i e h k f =
    let m : i + (e - i) ≡ e = omega arith in
    rw m at (ascii_steps t i (e - i) (omega arith) (λ j g. let y = rw (get_or-take (e - i) (drop i t) j 0 g, get_or-drop i t j 0) at (f j) in omega arith))

pub width_fits : (t : List ℕ) (i n : ℕ) → i < length t → n ≡ width sequences (drop i t) → i + n ≤ length t
width_fits t i n h e = omega (arith, width_length (drop i t), length-drop i t)

-- no sequence starts at i
pub ill_here : (t : List ℕ) (i : ℕ) → i < length t → 0 ≡ width sequences (drop i t) → ill_from (drop i t) i 0 ≡ Some i
unfolding ill_from sequence
ill_here t i h e =
    let g : 0 ≡ width sequences (get_or t i 0 ∷ drop (suc i) t) = rw (← drop-cons t i 0 h) e in
    rw (drop-cons t i 0 h, ← g)

-- ---- texts, cut and joined

-- a search that finds nothing finds nothing from any other offset
ill_shift : (v : List ℕ) (a b n : ℕ) → ill_from v a n ≡ None → ill_from v b n ≡ None
unfolding ill_from sequence
ill_shift [] a b n e = refl
ill_shift (c ∷ v) a b (suc n) e = ill_shift v (suc a) (suc b) n e
ill_shift (c ∷ v) a b zero e = go (width sequences (c ∷ v)) (ill_shift v (suc a) (suc b)) e
  where
    go : (k : ℕ) → ((n : ℕ) → ill_from v (suc a) n ≡ None → ill_from v (suc b) n ≡ None)
        → sequence k a (ill_from v (suc a)) ≡ None → sequence k b (ill_from v (suc b)) ≡ None
    go zero ih h = cc
    go (suc k) ih h = ih k h

pub well_shift : (v : List ℕ) (a : ℕ) → WellFormed v → ill_from v a 0 ≡ None
unfolding ill_formed
well_shift v a e = ill_shift v 0 a 0 e

pub shift_well : (v : List ℕ) (a : ℕ) → ill_from v a 0 ≡ None → WellFormed v
unfolding ill_formed
shift_well v a e = ill_shift v a 0 0 e

join_from : (u v : List ℕ) (a n : ℕ) → n ≤ length u → ill_from u a n ≡ None → ill_from (u ++ v) a n ≡ ill_from v (a + length u) 0
unfolding ill_from sequence
join_from [] v a zero h e = rw add-zero
join_from [] v a (suc n) h e = absurd (omega arith)
join_from (c ∷ u) v a (suc n) h e = join_from u v (suc a) n (omega arith) e ∙ ap (λ (m : ℕ). ill_from v m 0) (omega arith)
join_from (c ∷ u) v a zero h e = go (width sequences (c ∷ u)) refl (join_from u v (suc a)) e
  where
    go : (k : ℕ) → width sequences (c ∷ u) ≡ k
        → ((n : ℕ) → n ≤ length u → ill_from u (suc a) n ≡ None → ill_from (u ++ v) (suc a) n ≡ ill_from v (suc a + length u) 0)
        → sequence k a (ill_from u (suc a)) ≡ None
        → sequence (width sequences (c ∷ u ++ v)) a (ill_from (u ++ v) (suc a)) ≡ ill_from v (a + suc (length u)) 0
    go zero q ih h = cc
    go (suc k) q ih h =
        let j = width_join c k u v q in
        rw j.0 (ih k j.1 h ∙ ap (λ (m : ℕ). ill_from v m 0) (omega arith))

pub ill_join : (u v : List ℕ) → WellFormed u → ill_formed (u ++ v) ≡ ill_from v (length u) 0
unfolding ill_formed
ill_join u v e = join_from u v 0 0 (omega arith) e ∙ ap (λ (m : ℕ). ill_from v m 0) (omega arith)

pub well_join : (u v : List ℕ) → WellFormed u → WellFormed v → WellFormed (u ++ v)
well_join u v e f = ill_join u v e ∙ well_shift v (length u) f

left_from : (u v : List ℕ) (a n : ℕ) → Starts v → ill_from (u ++ v) a n ≡ None → ill_from u a n ≡ None
unfolding ill_from sequence
left_from [] v a n s e = refl
left_from (c ∷ u) v a (suc n) s e = left_from u v (suc a) n s e
left_from (c ∷ u) v a zero s e = go (width sequences (c ∷ u)) (λ n. left_from u v (suc a) n s) (rw (width_cut c u v s) at e)
  where
    go : (k : ℕ) → ((n : ℕ) → ill_from (u ++ v) (suc a) n ≡ None → ill_from u (suc a) n ≡ None)
        → sequence k a (ill_from (u ++ v) (suc a)) ≡ None → sequence k a (ill_from u (suc a)) ≡ None
    go zero ih h = h
    go (suc k) ih h = ih k h

pub well_left : (u v : List ℕ) → Starts v → WellFormed (u ++ v) → WellFormed u
unfolding ill_formed
well_left u v s e = left_from u v 0 0 s e

pub well_right : (u v : List ℕ) → Starts v → WellFormed (u ++ v) → WellFormed v
well_right u v s e = shift_well v (length u) (sym (ill_join u v (well_left u v s e)) ∙ e)

-- each byte is below 128
abbrev pub Ascii : List ℕ → Type 0
Ascii [] = Unit {0}
Ascii (c ∷ w) = (c < 128) × Ascii w

ascii_from : (w : List ℕ) (a : ℕ) → Ascii w → ill_from w a 0 ≡ None
unfolding ill_from sequence
ascii_from [] a h = refl
ascii_from (c ∷ w) a h = rw (width_ascii c w h.0) (ascii_from w (suc a) h.1)

pub well_ascii : (w : List ℕ) → Ascii w → WellFormed w
unfolding ill_formed
well_ascii w h = ascii_from w 0 h

ascii_each : (w : List ℕ) → ((j : ℕ) → get_or w j 0 < 128) → Ascii w
ascii_each [] f = tt
ascii_each (c ∷ w) f = (f 0, ascii_each w (λ j. f (suc j)))

pub well_plain : (w : List ℕ) → ((j : ℕ) → get_or w j 0 < 128) → WellFormed w
well_plain w f = well_ascii w (ascii_each w f)
