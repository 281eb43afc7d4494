-- Every token and every blank starts with a byte below 128; so each lexeme of a text that passes 21 and 22 is well formed by itself.
--     hit_ascii     the first byte of a token
--     well_cuts     the lexemes of a text that is cut to its end
--     fine_tokens   the tokens of a text that the check finds fine
use mathlib.Core.Path.{◌≡◌, refl}
use mathlib.Core.Logic.{⊎_elim}
use mathlib.Core.Bool.{Bool, true, false, cond}
use mathlib.Core.List.{List, [], ◌∷◌, ◌++◌}
use Rattle.std.specs.Prelude.{Option, Some, None}
use Prim.Native.Nat.{ℕ, zero, suc, ◌+◌, ◌<◌, ◌≤◌}
use native.Mathlib.Omega.{arith}
use borrow.Author.Tests.{le-ltb}
use lib.Dec.{T, eqb, ltb, eqb→eq}
use lib.ListN.{length, get_or, take, drop, length-drop, take-append-drop}
use Rattle.token.specs.Scan.{scan}
use Rattle.token.specs.Tables.{classes}
use Rattle.token.specs.Run.{class_of}
use Rattle.token.specs.Breaks.{Bytes}
use Rattle.token.specs.Automaton.{step, openings}
use Rattle.token.specs.declared.Token.{Token}
use Rattle.token.specs.Scanned.{Scan}
use Rattle.token.proofs.Numbers.{lt_or_le}
use Rattle.token.proofs.Every.{every, at}
use Rattle.token.proofs.Classes.{classes_length}
use Rattle.token.proofs.Reach.{reach_start, reach_stop}
use Rattle.token.proofs.Words.{scan_plain}
use Rattle.token.proofs.WordNumber.{no_word_first}
use Rattle.lexer.specs.declared.location.Lexer.{Lexer}
use Rattle.lexer.specs.Outcome.{accepted}
use Rattle.utf8.specs.Utf8.{ill_formed, WellFormed}
use Rattle.lexer.specs.Cuts.{Cuts, end, stuck, cut, cuts, unrecognized}
use Rattle.lexer.specs.Location.{pass, between, opening}
use Rattle.lexer.specs.Tokens.{Lexeme, lexeme, skipped, lexemes, tokens}
use Rattle.lexer.specs.Check.{verdict, checked}
use Rattle.utf8.proofs.Utf8Laws.{Starts, well_left, well_right}
use Rattle.lexer.proofs.CutLaws.{hit_fits, cuts_nil, cuts_miss, cuts_hit}
use Rattle.lexer.proofs.CheckLaws.{fine_fits}

high : ℕ → ℕ → Bool
high c k = cond (ltb c 128) true (eqb k 58)

high_test : T (every high 0 classes)
unfolding high classes
high_test = tt

high_class : (c : ℕ) → c < 256 → 128 ≤ c → class_of c ≡ 58
unfolding high class_of
high_class c h l = eqb→eq _ _ (rw (le-ltb c 128 l) at (at high classes 0 high_test c (rw classes_length h)))

bytes_at : (t : List ℕ) → Bytes t → (j : ℕ) → get_or t j 0 < 256
bytes_at [] b j = omega arith
bytes_at (c ∷ t) b zero = b.0
bytes_at (c ∷ t) b (suc j) = bytes_at t b.1 j

bytes_drop : (t : List ℕ) (n : ℕ) → Bytes t → Bytes (drop n t)
bytes_drop t zero b = b
bytes_drop [] (suc n) b = tt
bytes_drop (c ∷ t) (suc n) b = bytes_drop t n b.1

high_miss : (t : List ℕ) → Bytes t → 0 < length t → 128 ≤ get_or t 0 0 → scan t ≡ None
unfolding step openings
high_miss t b h l =
    let k : class_of (get_or t 0 0) ≡ 58 = high_class (get_or t 0 0) (bytes_at t b 0) l in
    scan_plain t None ((no_word_first t).1 (omega arith)) (reach_stop (reach_start t (bytes_at t b)) 58 h k refl)

pub hit_ascii : (t : List ℕ) (k : Token) (n : ℕ) → Bytes t → scan t ≡ Some (k, n) → get_or t 0 0 < 128
hit_ascii t k n b e =
    ⊎_elim (λ h. h)
    (λ h. let z : ◌≡◌ {A = ℕ} 0 1 = cc (high_miss t b (omega (arith, (hit_fits t k n e).0, (hit_fits t k n e).1)) h) in absurd (omega arith))
    (lt_or_le (get_or t 0 0) 128)

-- ---- a text and its first cut

data View (t : List ℕ) : Type 0 where
  over : cuts t ≡ end → t ≡ [] → View t
  none_here : cuts t ≡ stuck → View t
  one : (k : Token) (n : ℕ) → scan t ≡ Some (k, n) → View t

view : (t : List ℕ) → View t
view [] = over cuts_nil refl
view (c ∷ w) = go (scan (c ∷ w)) refl
  where
    go : (s : Scan) → scan (c ∷ w) ≡ s → View (c ∷ w)
    go None e = none_here (cuts_miss (c ∷ w) (omega arith) e)
    go (Some (k, n)) e = one k n e

starts_first : (t : List ℕ) → get_or t 0 0 < 128 → Starts t
starts_first [] h = tt
starts_first (c ∷ w) h = h

starts_cut : (t : List ℕ) (a : ℕ) → Bytes t → unrecognized (cuts t) a ≡ None → Starts t
unfolding unrecognized
starts_cut t a b u = go (view t)
  where
    go : View t → Starts t
    go (over e f) = rw f tt
    go (none_here e) = let z : ◌≡◌ {A = ℕ} 0 1 = cc (rw e at u) in absurd (omega arith)
    go (one k n e) = starts_first t (hit_ascii t k n b e)

-- ---- each lexeme is well formed

abbrev pub Well : Cuts → Type 0
Well end = Unit
Well stuck = Unit
Well (cut k w r cs) = WellFormed w × Well cs

well_from : (m : ℕ) (t : List ℕ) (a : ℕ) → length t ≤ m → Bytes t → WellFormed t → unrecognized (cuts t) a ≡ None → Well (cuts t)
unfolding unrecognized
well_from zero t a h b w u = go (view t)
  where
    go : View t → Well (cuts t)
    go (over e f) = rw e tt
    go (none_here e) = rw e tt
    go (one k n e) = absurd (omega (arith, (hit_fits t k n e).0, (hit_fits t k n e).1))
well_from (suc m) t a h b w u = go (view t) (λ n. well_from m (drop n t))
  where
    go : View t → ((n a : ℕ) → length (drop n t) ≤ m → Bytes (drop n t) → WellFormed (drop n t) → unrecognized (cuts (drop n t)) a ≡ None → Well (cuts (drop n t))) → Well (cuts t)
    go (over e f) ih = rw e tt
    go (none_here e) ih = rw e tt
    go (one k n e) ih =
        let c : cuts t ≡ cut k (take n t) (drop n t) (cuts (drop n t)) = cuts_hit t k n e in
        let v : unrecognized (cuts (drop n t)) (a + length (take n t)) ≡ None = rw c at u in
        let s : Starts (drop n t) = starts_cut (drop n t) (a + length (take n t)) (bytes_drop t n b) v in
        let x : WellFormed (take n t ++ drop n t) = rw (take-append-drop n t) w in
        let l : length (drop n t) ≤ m = omega (arith, length-drop n t, (hit_fits t k n e).0, (hit_fits t k n e).1) in
        rw c (well_left (take n t) (drop n t) s x, ih n (a + length (take n t)) l (bytes_drop t n b) (well_right (take n t) (drop n t) s x) v)

pub well_cuts : (t : List ℕ) → Bytes t → WellFormed t → unrecognized (cuts t) 0 ≡ None → Well (cuts t)
well_cuts t b w u = well_from (length t) t 0 (omega arith) b w u

abbrev pub WellTokens : List Lexeme → Type 0
WellTokens [] = Unit
WellTokens (lexeme k w l ∷ ts) = WellFormed w × WellTokens ts

well_lexemes : (cs : Cuts) (s : Lexer) → Well cs → WellTokens (lexemes cs s)
unfolding lexemes
well_lexemes end s h = tt
well_lexemes stuck s h = tt
well_lexemes (cut k w r cs) s h = go (skipped k) (well_lexemes cs (pass w k r s) h.1)
  where
    go : (b : Bool) → WellTokens (lexemes cs (pass w k r s)) → WellTokens (cond b (lexemes cs (pass w k r s)) (lexeme k w (between s (pass w k r s)) ∷ lexemes cs (pass w k r s)))
    go true x = x
    go false x = (h.0, x)

fine_both : (o p : Option ℕ) {ns : List ℕ} → verdict o p ≡ accepted ns → (o ≡ None) × (p ≡ None)
unfolding verdict
fine_both (Some q) p e = let z : ◌≡◌ {A = ℕ} 0 1 = cc in absurd (omega arith)
fine_both None (Some q) e = let z : ◌≡◌ {A = ℕ} 0 1 = cc in absurd (omega arith)
fine_both None None e = (refl, refl)

-- what the check finds fine is well formed and cut to its end
pub fine_means : (t : List ℕ) {ns : List ℕ} → checked t ≡ accepted ns → (length t ≤ 65536) × WellFormed t × (unrecognized (cuts t) 0 ≡ None)
unfolding checked
fine_means t e =
    let h : length t ≤ 65536 = fine_fits t e in
    let f = fine_both (ill_formed t) (unrecognized (cuts t) 0) (rw (le-ltb 65536 (length t) h) at e) in
    (h, f.0, f.1)

pub fine_tokens : (t : List ℕ) {ns : List ℕ} → Bytes t → checked t ≡ accepted ns → WellTokens (tokens t opening)
unfolding tokens opening
fine_tokens t b e = let f = fine_means t e in well_lexemes (cuts t) _ (well_cuts t b f.1 f.2)
