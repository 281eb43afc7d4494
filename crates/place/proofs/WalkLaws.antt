-- A walk goes lexeme by lexeme.
use mathlib.Core.Path.{◌≡◌, refl, sym, ap, ◌∙◌}
use mathlib.Core.Bool.{Bool, true, false}
use mathlib.Core.List.{List, [], ◌∷◌}
use Prim.Native.Nat.{ℕ, zero, suc, ◌+◌, ◌-◌, ◌<◌, ◌≤◌}
use native.Mathlib.Omega.{arith}
use borrow.Author.Tests.{ltb-true, ltb-false}
use lib.Dec.{ltb}
use lib.ListN.{length, get_or, take, drop, take-append-drop}
use lib.Seq.{length-take-le}
use Rattle.token.specs.Scan.{scan}
use Rattle.token.specs.declared.Token.{Token}
use Rattle.token.specs.declared.Token.TheVariants as T
use Rattle.token.specs.Scanned.{Scan}
use Rattle.std.specs.Prelude.{Some, None}
use Rattle.lexer.specs.declared.location.Lexer.{Lexer}
use Rattle.lexer.specs.Location.{behind, ends_line, pass}
use Rattle.lexer.proofs.CutLaws.{hit_fits, pass_at}
use Rattle.token.specs.Code.{code, is}
use Rattle.token.proofs.Pattern.{newline_one}
use Rattle.lexer.proofs.PlaceLaws.{is_code, pass_code, pass_one}
use Rattle.std.specs.Option.{unwrap_or}
use Rattle.std.specs.Prelude.{min}
use Rattle.place.specs.Place.{kind_of, length_of, walk, step}

pub least_lt : (a b : ℕ) → a < b → min a b ≡ a
least_lt a b h = omega arith

pub least_le : (a b : ℕ) → b ≤ a → min a b ≡ b
least_le a b h = omega arith

pub least_below : (a b : ℕ) → (min a b ≤ a) × (min a b ≤ b)
least_below a b = (omega arith, omega arith)

-- an offset that is held to the text and to the limit
pub clipped : (o n e r : ℕ) → e ≡ min n 65536 → r ≡ min o e → (r ≤ n) × (r ≤ 65536)
clipped o n e r f g =
    let a = least_below n 65536 in
    let b = (least_below o e).1 in
    (omega (arith, f, g, a.0, b), omega (arith, f, g, a.1, b))

-- a lexeme is not empty and lies inside the text; the byte that starts none is one
fits_by : (t : List ℕ) → 0 < length t → (r : Scan) → scan t ≡ r → (0 < length_of r) × (length_of r ≤ length t)
unfolding length_of
fits_by t h None e = (omega arith, omega arith)
fits_by t h (Some (k, n)) e = hit_fits t k n e

pub fits : (t : List ℕ) → 0 < length t → (0 < length_of (scan t)) × (length_of (scan t) ≤ length t)
fits t h = fits_by t h (scan t) refl

-- no way left
pub walk_none : (t : List ℕ) (k : Token) (n : ℕ) (s : Lexer) → walk t k n 0 s ≡ s
unfolding walk
walk_none [] k n s = refl
walk_none (c ∷ w) k n s = refl

-- between lexemes the last one's kind does not count
walk_kind : (t : List ℕ) (k j : Token) (m : ℕ) (s : Lexer) → walk t k 0 m s ≡ walk t j 0 m s
unfolding walk
walk_kind [] k j m s = refl
walk_kind (c ∷ w) k j zero s = refl
walk_kind (c ∷ w) k j (suc m) s = refl

-- into the lexeme that starts
walk_enter : (t : List ℕ) (k : Token) (m : ℕ) (s : Lexer) (l : ℕ) → 0 < length t → length_of (scan t) ≡ suc l
    → walk t k 0 m s ≡ walk t (kind_of (scan t)) (suc l) m s
unfolding walk
walk_enter [] k m s l h e = absurd (omega arith)
walk_enter (c ∷ w) k zero s l h e = refl
walk_enter (c ∷ w) k (suc m) s l h e =
    let f : length_of (scan (c ∷ w)) - 1 ≡ l = omega (arith, e) in
    ap (λ (x : ℕ). walk w (kind_of (scan (c ∷ w))) x m (behind (ends_line (kind_of (scan (c ∷ w))) c w) s)) f

-- the first of the bytes that are passed
pass_first : (c : ℕ) (w : List ℕ) (k : Token) (n : ℕ) (s : Lexer)
    → pass (take (suc n) (c ∷ w)) k (drop (suc n) (c ∷ w)) s ≡ pass (take n w) k (drop n w) (behind (ends_line k c w) s)
unfolding pass
pass_first c w k n s = ap (λ (x : List ℕ). pass (take n w) k (drop n w) (behind (ends_line k c x) s)) (take-append-drop n w)

-- to the lexeme's end
walk_whole : (t : List ℕ) (k : Token) (n m : ℕ) (s : Lexer) → n ≤ m → n ≤ length t → walk t k n m s ≡ walk (drop n t) k 0 (m - n) (pass (take n t) k (drop n t) s)
unfolding walk pass
walk_whole t k zero m s h l = let e : m - 0 ≡ m = omega arith in rw e
walk_whole [] k (suc n) m s h l = absurd (omega arith)
walk_whole (c ∷ w) k (suc n) zero s h l = absurd (omega arith)
walk_whole (c ∷ w) k (suc n) (suc m) s h l =
    let e : suc m - suc n ≡ m - n = omega arith in
    rw e (walk_whole w k n m (behind (ends_line k c w) s) (omega arith) (omega arith) ∙ ap (walk (drop n w) k 0 (m - n)) (sym (pass_first c w k n s)))

-- not so far
walk_within : (t : List ℕ) (k : Token) (n m : ℕ) (s : Lexer) → m ≤ n → m ≤ length t → walk t k n m s ≡ pass (take m t) k (drop m t) s
unfolding walk pass
walk_within [] k n zero s h l = refl
walk_within (c ∷ w) k n zero s h l = refl
walk_within [] k n (suc m) s h l = absurd (omega arith)
walk_within (c ∷ w) k zero (suc m) s h l = absurd (omega arith)
walk_within (c ∷ w) k (suc n) (suc m) s h l =
    walk_within w k n m (behind (ends_line k c w) s) (omega arith) (omega arith) ∙ sym (pass_first c w k m s)

-- one step, of n bytes
Steps : List ℕ → ℕ → Lexer → ℕ → Type 0
Steps t m s n = walk t T.Blank 0 m s ≡ walk (drop n t) T.Blank 0 (m - n) (pass (take n t) (kind_of (scan t)) (drop n t) s)

by_length : (t : List ℕ) (m : ℕ) (s : Lexer) (l : ℕ) → 0 < length t → length_of (scan t) ≡ suc l → m ≤ length t
    → (b : Bool) → ltb (suc l) m ≡ b → Steps t m s (min (suc l) m)
unfolding Steps
by_length t m s l h e g true b =
    let f = ltb-true (suc l) m b in
    let k = kind_of (scan t) in
    rw (least_lt (suc l) m f)
    (walk_enter t T.Blank m s l h e
    ∙ walk_whole t k (suc l) m s (omega (arith, f)) (omega (arith, f, g))
    ∙ walk_kind (drop (suc l) t) k T.Blank (m - suc l) (pass (take (suc l) t) k (drop (suc l) t) s))
by_length t m s l h e g false b =
    let f = ltb-false (suc l) m b in
    let k = kind_of (scan t) in
    let z : m - m ≡ 0 = omega arith in
    rw (least_le (suc l) m f, z)
    (walk_enter t T.Blank m s l h e
    ∙ walk_within t k (suc l) m s f g
    ∙ sym (walk_none (drop m t) T.Blank 0 (pass (take m t) k (drop m t) s)))

by_first : (t : List ℕ) (m : ℕ) (s : Lexer) → 0 < length t → m ≤ length t → (l : ℕ) → length_of (scan t) ≡ l → Steps t m s (min (length_of (scan t)) m)
by_first t m s h g zero e = absurd (omega (arith, e, (fits t h).0))
by_first t m s h g (suc l) e = rw e (by_length t m s l h e g (ltb (suc l) m) refl)

-- how far a step goes
pub step_length : (t : List ℕ) (m : ℕ) → 0 < m → m ≤ length t
    → (0 < min (length_of (scan t)) m) × (min (length_of (scan t)) m ≤ m)
step_length t m h g = go (ltb (length_of (scan t)) m) refl
  where
    go : (b : Bool) → ltb (length_of (scan t)) m ≡ b → (0 < min (length_of (scan t)) m) × (min (length_of (scan t)) m ≤ m)
    go true b = let f = ltb-true (length_of (scan t)) m b in rw (least_lt (length_of (scan t)) m f) ((fits t (omega arith)).0, omega (arith, f))
    go false b = let f = ltb-false (length_of (scan t)) m b in rw (least_le (length_of (scan t)) m f) (h, omega arith)

pub step_at : (t : List ℕ) (m : ℕ) (s : Lexer) → 0 < m → m ≤ length t → (step t m s).at ≡ s.at + min (length_of (scan t)) m
unfolding step
step_at t m s h g =
    let n = min (length_of (scan t)) m in
    pass_at (take n t) (kind_of (scan t)) (drop n t) s
    ∙ ap (λ (x : ℕ). s.at + x) (length-take-le n t (omega (arith, g, (step_length t m h g).1)))

pub walk_step : (t : List ℕ) (m : ℕ) (s : Lexer) → 0 < m → m ≤ length t
    → walk t T.Blank 0 m s ≡ walk (drop (min (length_of (scan t)) m) t) T.Blank 0 (m - min (length_of (scan t)) m) (step t m s)
unfolding step Steps
walk_step t m s h g = by_first t m s (omega arith) g (length_of (scan t)) refl

-- a line end is passed whole
one_by : (t : List ℕ) (m : ℕ) → 0 < m → (r : Scan) → scan t ≡ r → is (kind_of r) T.Newline ≡ true → min (length_of r) m ≡ 1
unfolding kind_of length_of is code
one_by t m h None e i = let z : ◌≡◌ {A = ℕ} 0 1 = cc in absurd (omega arith)
one_by t m h (Some (k, n)) e i = rw (newline_one t k n e i) (omega arith)

one_passed : (t : List ℕ) (m : ℕ) → 0 < m → is (kind_of (scan t)) T.Newline ≡ true → min (length_of (scan t)) m ≡ 1
one_passed t m h i = one_by t m h (scan t) refl i

pub step_line : (t : List ℕ) (m : ℕ) (s : Lexer) → 0 < m → 0 < length t → code (kind_of (scan t)) ≡ code T.Newline
    → step t m s ≡ behind (ends_line T.Newline (get_or t 0 0) (drop 1 t)) s
unfolding step
step_line t m s h g e =
    rw (one_passed t m h (is_code (kind_of (scan t)) T.Newline e))
    (pass_code (take 1 t) (kind_of (scan t)) T.Newline (drop 1 t) s e ∙ pass_one t T.Newline s g)

-- what a text starts with, or one byte that starts no token
pub first_or : (r : Scan) → ((unwrap_or r (T.Blank, 1)).0 ≡ kind_of r) × ((unwrap_or r (T.Blank, 1)).1 ≡ length_of r)
unfolding kind_of length_of
first_or None = (refl, refl)
first_or (Some (k, n)) = (refl, refl)
