-- Where the lexer stands behind a lexeme.
use mathlib.Core.Path.{◌≡◌, refl, ap, ◌∙◌}
use mathlib.Core.Bool.{Bool, true, false, not, ◌&&◌, ◌||◌, or-false}
use mathlib.Core.List.{List, [], ◌∷◌, ◌++◌}
use Prim.Native.Nat.{ℕ, ◌+◌, ◌<◌, ◌≤◌}
use native.Mathlib.Numerals.{add-one}
use native.Mathlib.Omega.{arith}
use borrow.Author.Tests.{eq-eqb, ne_eqb}
use lib.Dec.{eqb}
use lib.ListN.{length, get_or, take, drop, drop_of_length-le}
use lib.Seq.{take-suc, get_or-drop}
use native.Mathlib.Nat.{add-zero}
use Rattle.token.specs.Code.{code, is}
use Rattle.token.specs.declared.Token.{Token}
use Rattle.token.specs.declared.Token.TheVariants as T
use Rattle.lexer.specs.declared.location.Lexer.{Lexer}
use Rattle.lexer.specs.Location.{pair, ends_line, behind, pass, Placed, opening}

pub placed_behind : (p : Bool) (s : Lexer) → Placed s → s.at + 1 ≤ 65536 → Placed (behind p s)
unfolding behind
placed_behind true s h l = record { lines = omega (arith, h.lines); line_begun = omega arith; below = omega arith }
placed_behind false s h l = record { lines = omega (arith, h.lines); line_begun = omega (arith, h.line_begun); below = omega arith }

pub behind_at : (p : Bool) (s : Lexer) → (behind p s).at ≡ s.at + 1
unfolding behind
behind_at true s = refl
behind_at false s = refl

pub pass_placed : (w : List ℕ) (k : Token) (r : List ℕ) (s : Lexer) → Placed s → s.at + length w ≤ 65536 → Placed (pass w k r s)
unfolding pass
pass_placed [] k r s h l = h
pass_placed (b ∷ w) k r s h l =
    let e = ends_line k b (w ++ r) in
    pass_placed w k r (behind e s) (placed_behind e s h (omega arith)) (omega (arith, behind_at e s))

pub opening_placed : Placed opening
unfolding opening
opening_placed = record { lines = omega arith; line_begun = omega arith; below = omega arith }

-- ---- a lexeme of one byte

pub pass_one : (t : List ℕ) (k : Token) (s : Lexer) → 0 < length t → pass (take 1 t) k (drop 1 t) s ≡ behind (ends_line k (get_or t 0 0) (drop 1 t)) s
unfolding pass
pass_one [] k s h = absurd (omega arith)
pass_one (b ∷ t) k s h = refl

-- ---- whether the line end at an offset ends a line

module _ (t : List ℕ) (at : ℕ) where
  pub ends_other : (get_or t at 0 ≡ 13 → ⊥) → ends_line T.Newline (get_or t at 0) (drop (at + 1) t) ≡ true
  unfolding ends_line is code pair
  ends_other h = rw (ne_eqb _ _ h)

  pub ends_last : length t ≤ at + 1 → ends_line T.Newline (get_or t at 0) (drop (at + 1) t) ≡ true
  unfolding ends_line is code pair
  ends_last h = rw (drop_of_length-le t h) (go (eqb (get_or t at 0) 13))
    where
      go : (p : Bool) → (not (p && false) || false) ≡ true
      go true = refl
      go false = refl

  pub ends_return : get_or t at 0 ≡ 13 → ends_line T.Newline (get_or t at 0) (drop (at + 1) t) ≡ not (eqb (get_or t (at + 1) 0) 10)
  unfolding ends_line is code pair
  ends_return h = rw (h, get_or-drop (at + 1) t 0 0, add-zero) (or-false _)

-- ---- a lexeme in which no byte ends a line

pub pass_plain : (w : List ℕ) (k : Token) (r : List ℕ) (s : Lexer) → is k T.Newline ≡ false → is k T.BlockComment ≡ false
    → pass w k r s ≡ record { at = s.at + length w; line = s.line; origin = s.origin }
unfolding pass ends_line behind
pass_plain [] k r s e f = ap (λ (n : ℕ). record { at = n; line = s.line; origin = s.origin }) (omega arith)
pass_plain (b ∷ w) k r s e f =
    rw (e, f) (pass_plain w k r (record { at = s.at + 1; line = s.line; origin = s.origin }) e f
    ∙ ap (λ (n : ℕ). record { at = n; line = s.line; origin = s.origin }) (omega arith))

-- ---- a lexeme that is no line end: what is behind it does not count

pub pass_behind : (w : List ℕ) (k : Token) (r q : List ℕ) (s : Lexer) → is k T.Newline ≡ false → pass w k r s ≡ pass w k q s
unfolding pass ends_line
pass_behind [] k r q s e = refl
pass_behind (b ∷ w) k r q s e = rw e (pass_behind w k r q (behind (is k T.BlockComment && eqb b 10) s) e)

-- ---- a block comment

block_append : (u : List ℕ) (b : ℕ) (s : Lexer) → pass (u ++ b ∷ []) T.BlockComment [] s ≡ behind (eqb b 10) (pass u T.BlockComment [] s)
unfolding pass ends_line is code
block_append [] b s = refl
block_append (c ∷ u) b s = block_append u b (behind (eqb c 10) s)

-- one byte more of it
pub block_more : (w : List ℕ) (s : Lexer) (i : ℕ) → i < length w → pass (take (i + 1) w) T.BlockComment [] s ≡ behind (eqb (get_or w i 0) 10) (pass (take i w) T.BlockComment [] s)
block_more w s i h = rw (add-one, take-suc w i 0 h) (block_append (take i w) (get_or w i 0) s)

-- ---- kinds told by their numbers

pub is_code : (k q : Token) → code k ≡ code q → is k q ≡ true
unfolding is
is_code k q e = eq-eqb _ _ e

pub not_code : (k q : Token) → (code k ≡ code q → ⊥) → is k q ≡ false
unfolding is
not_code k q e = ne_eqb _ _ e

pub pass_code : (w : List ℕ) (k q : Token) (r : List ℕ) (s : Lexer) → code k ≡ code q → pass w k r s ≡ pass w q r s
unfolding pass ends_line is
pass_code [] k q r s e = refl
pass_code (b ∷ w) k q r s e = pass_code w k q r (behind (ends_line k b (w ++ r)) s) e ∙ rw e
