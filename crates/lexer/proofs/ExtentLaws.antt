-- What is passed at once where the first offset that starts no token is looked for.
--     blanks_at       a run of blanks is one blank, or one and then a run of blanks
--     extent_hit, extent_miss    a token, or none
--     extent_mark     one byte of a mark or of blanks
use mathlib.Core.Path.{◌≡◌, refl, sym, ap, ◌∙◌}
use mathlib.Core.Bool.{Bool, true, false, cond}
use mathlib.Core.Logic.{⊎_elim}
use mathlib.Core.List.{List}
use Prim.Native.Nat.{ℕ, suc, ◌+◌, ◌<◌, ◌≤◌}
use native.Mathlib.Omega.{arith}
use native.Mathlib.Numerals.{add-one}
use borrow.Author.Tests.{le-ltb, lt-ltb, le-leb, lt-leb}
use lib.Dec.{T, eqb, ltb, leb, eqb→eq}
use lib.ListN.{length, drop, get_or, length-drop, drop_of_length-le}
use lib.Seq.{drop-cons}
use Rattle.token.specs.Scan.{scan}
use Rattle.token.specs.Tables.{classes}
use Rattle.token.specs.Run.{class_of, stops, before}
use Rattle.token.specs.Automaton.{openings, whole_byte, opened}
use Rattle.token.specs.declared.Token.{Token}
use Rattle.token.specs.declared.Token.TheVariants as T
use Rattle.token.specs.Scanned.{Scan}
use Rattle.std.specs.Prelude.{Some, None}
use Rattle.token.proofs.Every.{every, at}
use Rattle.token.proofs.Numbers.{lt_or_le, eq_or_ne}
use Rattle.token.proofs.Classes.{classes_length, class_below}
use Rattle.scan.proofs.FirstByte.{mark_at, blank_at}
use Rattle.lexer.specs.Extent.{Extent}
use Rattle.lexer.proofs.CutLaws.{hit_fits, unrecognized_hit}

-- ---- blanks

-- one, or one and then others
pub data Blanks (t : List ℕ) (i : ℕ) : Type 0 where
  one : scan (drop i t) ≡ Some (T.Blank, 1) → Blanks t i
  more : (n : ℕ) → scan (drop i t) ≡ Some (T.Blank, suc n) → scan (drop (i + 1) t) ≡ Some (T.Blank, n) → Blanks t i

before_none : (t : List ℕ) (i : ℕ) → length t ≤ i → before 0 59 (drop i t) ≡ 0
unfolding before
before_none t i h = rw (drop_of_length-le t h)

before_stop : (t : List ℕ) (i : ℕ) → i < length t → class_of (get_or t i 0) < 59 → before 0 59 (drop i t) ≡ 0
unfolding before stops
before_stop t i h l = rw (drop-cons t i 0 h, le-leb 0 (class_of (get_or t i 0)) (omega arith), lt-ltb _ _ l)

before_more : (t : List ℕ) (i : ℕ) → i < length t → 59 ≤ class_of (get_or t i 0) → before 0 59 (drop i t) ≡ suc (before 0 59 (drop (i + 1) t))
unfolding before stops
before_more t i h l = rw (add-one, drop-cons t i 0 h, le-leb 0 (class_of (get_or t i 0)) (omega arith), le-ltb _ _ l)

module _ (t : List ℕ) (i : ℕ) (bytes : (j : ℕ) → get_or t j 0 < 256) (h : i < length t) (b : class_of (get_or t i 0) ≡ 59) where
  pub blanks_at : Blanks t i
  blanks_at = ⊎_elim (λ l. ⊎_elim (λ k. alone (before_stop t (i + 1) l k)) (λ k. run l k) (lt_or_le (class_of (get_or t (i + 1) 0)) 59)) (λ l. alone (before_none t (i + 1) l)) (lt_or_le (i + 1) (length t))
    where
      alone : before 0 59 (drop (i + 1) t) ≡ 0 → Blanks t i
      alone e = one (blank_at t i bytes h b ∙ rw e)

      run : i + 1 < length t → 59 ≤ class_of (get_or t (i + 1) 0) → Blanks t i
      run l k =
          let n : ℕ = 1 + before 0 59 (drop (i + 1 + 1) t) in
          let c : class_of (get_or t (i + 1) 0) ≡ 59 = omega (arith, class_below (get_or t (i + 1) 0) (bytes (i + 1))) in
          let m : 1 + before 0 59 (drop (i + 1) t) ≡ suc n = omega (arith, before_more t (i + 1) l k) in
          more n (blank_at t i bytes h b ∙ rw m) (blank_at t (i + 1) bytes l c)

-- ---- what is passed

-- a token of one byte
single : Scan → Bool
single None = false
single (Some (k, n)) = eqb n 1

-- the classes of marks
marks : ℕ → ℕ → Bool
marks k x = cond (ltb k 46) true (cond (leb 58 k) true (single (opened k)))

marks_test : T (every marks 0 classes)
unfolding marks single opened openings whole_byte classes
marks_test = tt

no_token_law : opened 58 ≡ None
unfolding opened openings whole_byte
no_token_law = refl

module _ (t : List ℕ) (i : ℕ) (h : i < length t) where
  pub extent_hit : (k : Token) (n : ℕ) → scan (drop i t) ≡ Some (k, n) → Extent t i (Some n)
  extent_hit k n e =
      let f = hit_fits (drop i t) k n e in
      record { passes = f.0; within = omega (arith, f.1, length-drop i t); onward = unrecognized_hit t i k n e }

  extent_blank : Blanks t i → Extent t i (Some 1)
  extent_blank (one e) = extent_hit T.Blank 1 e
  extent_blank (more n e f) =
      let m : i + suc n ≡ i + 1 + n = omega arith in
      record { passes = omega arith; within = omega arith; onward = unrecognized_hit t i T.Blank (suc n) e ∙ rw m (sym (unrecognized_hit t (i + 1) T.Blank n f)) }

  extent_single : (r : Scan) → T (single r) → scan (drop i t) ≡ r → Extent t i (Some 1)
  unfolding single
  extent_single None z e = absurd z
  extent_single (Some (k, n)) z e = extent_hit k 1 (e ∙ ap (λ (n : ℕ). Some (k, n)) (eqb→eq n 1 z))

  pub extent_mark : ((j : ℕ) → get_or t j 0 < 256) → (k : ℕ) → k ≡ class_of (get_or t i 0) → 46 ≤ k → (k ≡ 58 → ⊥) → Extent t i (Some 1)
  unfolding marks
  extent_mark bytes k e l n =
      let c = class_below (get_or t i 0) (bytes i) in
      ⊎_elim (λ z. extent_blank (blanks_at t i bytes h (sym e ∙ z)))
      (λ z. extent_single (opened k) (rw (le-ltb k 46 l, lt-leb 58 k (omega arith)) at (at marks classes 0 marks_test k (omega (arith, classes_length)))) (mark_at t i bytes h k e l z))
      (eq_or_ne k 59)

  pub extent_none : ((j : ℕ) → get_or t j 0 < 256) → (k : ℕ) → k ≡ class_of (get_or t i 0) → k ≡ 58 → Extent t i None
  extent_none bytes k e z = mark_at t i bytes h 58 (sym z ∙ e) (omega arith) (λ y. omega arith) ∙ no_token_law
