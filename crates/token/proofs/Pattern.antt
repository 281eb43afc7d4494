-- A token whose kind one rule alone has matches that rule's pattern.
--     first_in      of any list of rules
--     newline_one   a line end has one byte
--     newline_class   and the class of one
use mathlib.Core.Path.{◌≡◌, refl, sym, ap, ◌∙◌}
use mathlib.Core.Logic.{◌⊎◌, inl, inr}
use mathlib.Core.Bool.{Bool, true, false, cond, not, ◌&&◌, ◌||◌}
use mathlib.Core.List.{List, [], ◌∷◌}
use Prim.Native.Nat.{ℕ, ◌<◌}
use native.Mathlib.Omega.{arith}
use lib.Dec as Dec
use lib.Dec.{eqb}
use lib.ListN.{length, take, get_or}
use lib.Seq.{length-take-le, get_or-take}
use borrow.Author.Tests.{eq-eqb}
use Rattle.token.specs.Code.{code, is}
use Rattle.token.specs.Regex.{Range, within, ranges, bytes}
use Rattle.token.specs.Tables.{classes}
use Rattle.token.specs.Run.{class_of}
use Rattle.token.specs.Patterns.{Rule, rule, rules, words, rest, marks, shapes, word_rule, token, one_of, pattern_of}
use Rattle.token.specs.Match.{In, First, Longest}
use Rattle.token.specs.Scan.{scan}
use Rattle.token.specs.declared.Token.{Token}
use Rattle.token.specs.declared.Token.TheVariants as T
use Rattle.std.specs.Prelude.{Some}
use Rattle.token.proofs.Codes.{same_kind}
use Rattle.token.proofs.Truth.{T_true}
use Rattle.token.proofs.Every.{every, at}
use Rattle.token.proofs.Classes.{classes_length}
use Rattle.token.proofs.Meaning.{scan_longest}
use Rattle.token.proofs.Keyword.{hit_first}

-- no rule has the kind; one rule at most has it
unfoldable pub absent : Token → List Rule → Bool
absent k [] = true
absent k (rule q r ∷ rs) = not (is k q) && absent k rs

unfoldable pub once : Token → List Rule → Bool
once k [] = true
once k (rule q r ∷ rs) = cond (is k q) (absent k rs) (once k rs)

is_same : (k q : Token) → k ≡ q → is k q ≡ true
unfolding is
is_same k q e = eq-eqb (code k) (code q) (cc)

first_absent : (k : Token) (rs : List Rule) (w : List ℕ) → absent k rs ≡ true → First rs w k → ⊥
unfolding absent
first_absent k [] w e h = h
first_absent k (rule q r ∷ rs) w e h = go (is k q) refl e h (first_absent k rs w)
  where
    go : (b : Bool) → is k q ≡ b → (not b && absent k rs) ≡ true → (In r w × (k ≡ q)) ⊎ ((In r w → ⊥) × First rs w k) → (absent k rs ≡ true → First rs w k → ⊥) → ⊥
    go true f e h ih = let z : ◌≡◌ {A = ℕ} 0 1 = cc in omega arith
    go false f e (inl g) ih = let z : ◌≡◌ {A = ℕ} 0 1 = cc (is_same k q g.1) in omega arith
    go false f e (inr g) ih = ih e g.1

pub first_in : (k : Token) (rs : List Rule) (w : List ℕ) → once k rs ≡ true → First rs w k → In (pattern_of k rs) w
unfolding once pattern_of
first_in k [] w e h = absurd h
first_in k (rule q r ∷ rs) w e h = go (is k q) refl e h (first_in k rs w)
  where
    go : (b : Bool) → is k q ≡ b → cond b (absent k rs) (once k rs) ≡ true → (In r w × (k ≡ q)) ⊎ ((In r w → ⊥) × First rs w k) →
        (once k rs ≡ true → First rs w k → In (pattern_of k rs) w) → In (cond b r (pattern_of k rs)) w
    go true f e (inl g) ih = g.0
    go true f e (inr g) ih = absurd (first_absent k rs w e g.1)
    go false f e (inl g) ih = let z : ◌≡◌ {A = ℕ} 0 1 = cc (is_same k q g.1) in absurd (omega arith)
    go false f e (inr g) ih = ih e g.1

-- ---- a line end

once_newline : once T.Newline rules ≡ true
unfolding once absent rules words rest marks shapes word_rule token is code
once_newline = refl

abbrev line_ends : List Range
line_ends = ranges (bytes "\r\r\n\n\u{c}\u{c}")

one_byte : (w : List ℕ) → In (pattern_of T.Newline rules) w → (c : ℕ) × (w ≡ c ∷ []) × (within c line_ends ≡ true)
unfolding pattern_of rules words rest marks shapes word_rule token is code one_of
one_byte w h = h

newline_byte : (t : List ℕ) (k : Token) (n : ℕ) → scan t ≡ Some (k, n) → is k T.Newline ≡ true → (c : ℕ) × (take n t ≡ c ∷ []) × (within c line_ends ≡ true)
newline_byte t k n e i =
    one_byte (take n t) (first_in T.Newline rules (take n t) once_newline (hit_first t T.Newline n (e ∙ ap (λ (q : Token). Some (q, n)) (same_kind k T.Newline i))))

pub newline_one : (t : List ℕ) (k : Token) (n : ℕ) → scan t ≡ Some (k, n) → is k T.Newline ≡ true → n ≡ 1
newline_one t k n e i =
    let l : Longest t (Some (k, n)) = rw e at (scan_longest t) in
    sym (length-take-le n t l.1) ∙ ap length (newline_byte t k n e i).1

-- its class is that of `\n`, or that of `\r` and `\f`
line : ℕ → ℕ → Bool
line c k = cond (within c line_ends) (eqb k 39 || eqb k 40) true

line_test : Dec.T (every line 0 classes)
unfolding line classes within ranges bytes
line_test = tt

pub newline_class : (t : List ℕ) (k : Token) (n : ℕ) → get_or t 0 0 < 256 → scan t ≡ Some (k, n) → is k T.Newline ≡ true → (eqb (class_of (get_or t 0 0)) 39 || eqb (class_of (get_or t 0 0)) 40) ≡ true
unfolding line class_of
newline_class t k n b e i =
    let h = newline_byte t k n e i in
    let one : n ≡ 1 = newline_one t k n e i in
    let f : get_or t 0 0 ≡ h.0 = sym (get_or-take n t 0 0 (omega arith)) ∙ ap (λ (w : List ℕ). get_or w 0 0) h.1 in
    let x : within (get_or t 0 0) line_ends ≡ true = rw f h.2 in
    T_true _ (rw x at (at line classes 0 line_test (get_or t 0 0) (rw classes_length b)))
