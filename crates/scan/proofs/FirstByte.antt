-- What a token is by the class of the byte at an offset.
--     letter_at     a word, whose end is looked for from its second byte on
--     mark_at       a token of one byte, or none
--     blank_at      a run of blanks
--     line_at       a line end
use mathlib.Core.Path.{◌≡◌, refl, sym, ◌∙◌}
use mathlib.Core.List.{List}
use Prim.Native.Nat.{ℕ, ◌+◌, ◌<◌, ◌≤◌}
use native.Mathlib.Omega.{arith}
use native.Mathlib.Nat.{add-zero}
use mathlib.Core.Bool.{true, false, ◌||◌}
use mathlib.Core.Logic.{◌⊎◌, inl, inr, ⊎_elim}
use borrow.Author.Tests.{ne_eqb, eqb-true}
use lib.Dec.{eqb}
use Rattle.token.proofs.Numbers.{eq_or_ne}
use Rattle.token.proofs.Numbers.{elem}
use lib.ListN.{length, drop, get_or, length-drop}
use lib.Seq.{get_or-drop, drop-drop}
use Rattle.token.specs.Scan.{scan}
use Rattle.token.specs.Run.{class_of, before}
use Rattle.token.specs.Automaton.{named, opened, openings, whole_byte, longest, Reached}
use Rattle.token.specs.declared.Token.TheVariants as T
use Rattle.std.specs.Prelude.{Some}
use Rattle.token.proofs.Reach.{reach_start}
use Rattle.token.proofs.Classes.{class_below}
use Rattle.token.proofs.Words.{scan_plain}
use Rattle.token.proofs.WordNumber.{no_word_first}
use Rattle.scan.proofs.ScanLaws.{first_letter, first_blank}
use Rattle.scan.proofs.MarkLaws.{starters, mark_done}

module _ (t : List ℕ) (at : ℕ) (bytes : (j : ℕ) → get_or t j 0 < 256) (h : at < length t) where
  behind : (j : ℕ) → get_or (drop at t) j 0 < 256
  behind j = rw (get_or-drop at t j 0) (bytes (at + j))

  inside : 0 < length (drop at t)
  inside = omega (arith, length-drop at t)

  first : get_or (drop at t) 0 0 ≡ get_or t at 0
  first = get_or-drop at t 0 0 ∙ rw add-zero

  pub letter_at : 8 ≤ class_of (get_or t at 0) → class_of (get_or t at 0) < 36 → Reached (drop at t) named 1 (Some (T.Identifier, 1))
  letter_at l u = first_letter (reach_start (drop at t) behind) inside (rw first l) (rw first u)

  sign_at : 36 ≤ class_of (get_or t at 0) → longest (drop at t) ≡ scan (drop at t)
  sign_at l = sym (scan_plain (drop at t) _ ((no_word_first (drop at t)).1 (rw first l)) refl)

  pub mark_at : (k : ℕ) → k ≡ class_of (get_or t at 0) → 46 ≤ k → (k ≡ 59 → ⊥) → scan (drop at t) ≡ opened k
  mark_at k e l n =
      let below = class_below (get_or t at 0) (bytes at) in
      let q : k ≡ class_of (get_or (drop at t) 0 0) = rw first e in
      let n1 : (k ≡ 41) → ⊥ = λ x. omega arith in
      let n2 : (k ≡ 43) → ⊥ = λ x. omega arith in
      let n3 : (k ≡ 44) → ⊥ = λ x. omega arith in
      let n4 : (k ≡ 38) → ⊥ = λ x. omega arith in
      let n5 : (k ≡ 45) → ⊥ = λ x. omega arith in
      let n6 : (k ≡ 36) → ⊥ = λ x. omega arith in
      sym (sign_at (omega arith))
      ∙ mark_done (reach_start (drop at t) behind) inside k q (omega arith) (omega arith)
      (rw (ne_eqb k 59 n, ne_eqb k 41 n1, ne_eqb k 43 n2, ne_eqb k 44 n3, ne_eqb k 38 n4, ne_eqb k 45 n5, ne_eqb k 36 n6))

  pub blank_at : class_of (get_or t at 0) ≡ 59 → scan (drop at t) ≡ Some (T.Blank, 1 + before 0 59 (drop (at + 1) t))
  blank_at e =
      sym (sign_at (omega arith)) ∙ first_blank (reach_start (drop at t) behind) inside (rw first e) ∙ rw (drop-drop 1 at t)

  -- a line end between tokens
  pub line_at : (k : ℕ) → k ≡ class_of (get_or t at 0) → (eqb k 39 || eqb k 40) ≡ true → scan (drop at t) ≡ Some (T.Newline, 1)
  unfolding opened openings whole_byte
  line_at k e l = ⊎_elim (λ z. go 39 (sym z ∙ e) (omega arith) refl ∙ refl) (λ z. go 40 (sym z ∙ e) (omega arith) refl ∙ refl) (either k l)
    where
      either : (k : ℕ) → (eqb k 39 || eqb k 40) ≡ true → (k ≡ 39) ⊎ (k ≡ 40)
      either k l = ⊎_elim (λ z. inl z) (λ z. inr (eqb-true k 40 (rw (ne_eqb k 39 z) at l))) (eq_or_ne k 39)

      go : (k : ℕ) → k ≡ class_of (get_or t at 0) → 36 ≤ k → elem k starters ≡ false → scan (drop at t) ≡ opened k
      go k e l n =
          let below = class_below (get_or t at 0) (bytes at) in
          sym (sign_at (omega arith)) ∙ mark_done (reach_start (drop at t) behind) inside k (rw first e) l (omega arith) n
