-- What is next by the class of the byte at the lexer's offset.
--     next_blank    a blank is passed
--     next_line     a line end is passed
--     next_mark     a token of one byte, or none
--     token_no_line   no line end, by another class
use mathlib.Core.Path.{◌≡◌, refl, sym, ◌∙◌}
use mathlib.Core.Bool.{Bool, true, false, cond, not, ◌||◌, false≢true}
use mathlib.Core.List.{List, ◌∷◌}
use Prim.Native.Nat.{ℕ, suc, ◌+◌, ◌<◌, ◌≤◌}
use native.Mathlib.Omega.{arith}
use native.Mathlib.Numerals.{add-one}
use borrow.Author.Tests.{le-ltb}
use lib.Dec.{T, eqb, ltb, eqb→eq}
use lib.ListN.{length, take, drop, get_or}
use lib.Seq.{drop-cons, get_or-drop}
use native.Mathlib.Nat.{add-zero}
use Rattle.token.specs.Code.{code, is}
use Rattle.token.specs.Scan.{scan}
use Rattle.token.specs.Tables.{classes}
use Rattle.token.specs.Run.{class_of}
use Rattle.token.specs.Automaton.{openings, whole_byte, opened}
use Rattle.token.specs.declared.Token.{Token}
use Rattle.token.specs.declared.Token.TheVariants as T
use Rattle.token.specs.Scanned.{Scan}
use Rattle.std.specs.Prelude.{Some, None}
use Rattle.token.proofs.Every.{every, at, both, both_left, both_right}
use Rattle.token.proofs.Classes.{classes_length, class_below}
use Rattle.token.proofs.Pattern.{newline_class}
use Rattle.scan.proofs.FirstByte.{mark_at, line_at}
use Rattle.lexer.specs.declared.location.Lexer.{Lexer}
use Rattle.lexer.specs.Location.{behind, ends_line, pass}
use Rattle.lexer.specs.Tokens.{skipped, next}
use Rattle.lexer.specs.Marked.{marked}
use Rattle.lexer.proofs.CutLaws.{next_miss, next_hit}
use Rattle.lexer.proofs.ExtentLaws.{Blanks, one, more, blanks_at}

-- the first byte, and those behind it
first_of : (t : List ℕ) (i n : ℕ) → i < length t → take (suc n) (drop i t) ≡ get_or t i 0 ∷ take n (drop (i + 1) t)
first_of t i n h = rw (add-one, drop-cons t i 0 h)

rest_of : (t : List ℕ) (i n : ℕ) → i < length t → drop (suc n) (drop i t) ≡ drop n (drop (i + 1) t)
rest_of t i n h = rw (add-one, drop-cons t i 0 h)

module _ (t : List ℕ) (s : Lexer) (bytes : (j : ℕ) → get_or t j 0 < 256) (h : s.at < length t) where
  passed_one : (k : Token) → pass (take 1 (drop s.at t)) k (drop 1 (drop s.at t)) s ≡ behind (ends_line k (get_or t s.at 0) (drop (s.at + 1) t)) s
  unfolding pass
  passed_one k = rw (add-one, drop-cons t s.at 0 h)

  blank : Blanks t s.at → next t s ≡ next t (behind false s)
  unfolding skipped is code ends_line pass behind
  blank (one e) = next_hit t s T.Blank 1 e (behind false s) (sym (passed_one T.Blank))
  blank (more n e f) =
      let q : Lexer = pass (take n (drop (s.at + 1) t)) T.Blank (drop n (drop (s.at + 1) t)) (behind false s) in
      next_hit t s T.Blank (suc n) e q (rw (first_of t s.at n h, rest_of t s.at n h)) ∙ sym (next_hit t (behind false s) T.Blank n f q refl)

  pub next_blank : class_of (get_or t s.at 0) ≡ 59 → next t s ≡ next t (behind false s)
  next_blank e = blank (blanks_at t s.at bytes h e)

  pub next_line : (k : ℕ) → k ≡ class_of (get_or t s.at 0) → (eqb k 39 || eqb k 40) ≡ true
      → next t s ≡ next t (behind (ends_line T.Newline (get_or t s.at 0) (drop (s.at + 1) t)) s)
  unfolding skipped is code
  next_line k e l = next_hit t s T.Newline 1 (line_at t s.at bytes h k e l) _ (sym (passed_one T.Newline))

-- what starts with a byte of another class is no line end
refuted : (b : Bool) → (b ≡ true → ⊥) → b ≡ false
refuted true h = absurd (h refl)
refuted false h = refl

module _ (t : List ℕ) (i : ℕ) (bytes : (j : ℕ) → get_or t j 0 < 256) where
  pub token_no_line : (k : ℕ) → k ≡ class_of (get_or t i 0) → (eqb k 39 || eqb k 40) ≡ false → (q : Token) (n : ℕ) → scan (drop i t) ≡ Some (q, n) → is q T.Newline ≡ false
  token_no_line k e l q n h =
      refuted (is q T.Newline)
      (λ z.
      let f : get_or (drop i t) 0 0 ≡ get_or t i 0 = get_or-drop i t 0 0 ∙ rw add-zero in
      let y = newline_class (drop i t) q n (rw f (bytes i)) h z in
      false≢true (sym l ∙ rw (f, ← e) at y))

-- a token of one byte that is not passed over and ends no line, or none
plain : Scan → Bool
plain None = true
plain (Some (k, n)) = both (eqb n 1) (both (not (skipped k)) (both (not (is k T.Newline)) (not (is k T.BlockComment))))

marks : ℕ → ℕ → Bool
marks k x = cond (ltb k 46) true (plain (opened k))

marks_test : T (every marks 0 classes)
unfolding marks plain opened openings whole_byte classes skipped is code
marks_test = tt

not-false : (b : Bool) → T (not b) → b ≡ false
not-false true h = absurd h
not-false false h = refl

module _ (t : List ℕ) (s : Lexer) (h : s.at < length t) where
  plain_next : (r : Scan) → T (plain r) → scan (drop s.at t) ≡ r → next t s ≡ marked r s
  unfolding plain marked ends_line pass
  plain_next None p e = next_miss t s h e
  plain_next (Some (k, n)) p e =
      let newline = not (is k T.Newline) in
      let block = not (is k T.BlockComment) in
      let token = not (skipped k) in
      let a = both_right (eqb n 1) (both token (both newline block)) p in
      let b = both_right token (both newline block) a in
      let x : n ≡ 1 = eqb→eq n 1 (both_left (eqb n 1) (both token (both newline block)) p) in
      let y : skipped k ≡ false = not-false (skipped k) (both_left token (both newline block) a) in
      let z : is k T.Newline ≡ false = not-false (is k T.Newline) (both_left newline block b) in
      let w : is k T.BlockComment ≡ false = not-false (is k T.BlockComment) (both_right newline block b) in
      let g : behind false s ≡ pass (take n (drop s.at t)) k (drop n (drop s.at t)) s = rw (x, drop-cons t s.at 0 h, z, w) in
      rw y at (next_hit t s k n e (behind false s) g)

  pub next_mark : ((j : ℕ) → get_or t j 0 < 256) → (k : ℕ) → k ≡ class_of (get_or t s.at 0) → 46 ≤ k → (k ≡ 59 → ⊥) → next t s ≡ marked (opened k) s
  unfolding marks
  next_mark bytes k e l n =
      let c = class_below (get_or t s.at 0) (bytes s.at) in
      plain_next (opened k) (rw (le-ltb k 46 l) at (at marks classes 0 marks_test k (omega (arith, classes_length)))) (mark_at t s.at bytes h k e l n)
