-- A text that is an IntConstant, or that both take for a double, or with a bare dot, is scanned as one token of that kind.
use mathlib.Core.Path.{◌≡◌, refl, ◌∙◌}
use mathlib.Core.Logic.{◌⊎◌, inl, inr, ⊎_elim, ◌↔◌}
use mathlib.Core.Bool.{Bool, true, false, cond, ◌&&◌, ◌||◌}
use mathlib.Core.List.{List, [], ◌∷◌, ◌++◌, map}
use Prim.Native.Nat.{ℕ, ◌<◌, ◌≤◌}
use native.Mathlib.Omega.{arith}
use native.Mathlib.Nat.{eq-or-lt_of_le}
use lib.Dec.{leb, ltb}
use lib.ListN.{length}
use lib.Seq.{take-length}
use borrow.Author.Tests.{ltb-true, lt-leb, ne_eqb}
use Rattle.token.specs.Code.{code, is}
use Rattle.token.specs.Regex.{Range, to, Regex, set, seq, within, then, bytes, ranges}
use Rattle.token.specs.Patterns.{Rule, rule, Word, word, word_rule, token, one_of, none_of, plus, opt, exact, words, marks, name, quoted, digits as digitsOf, sign as sign_of, exponent as exponentOf, point as point_of, stars, shapes, rest, rules, pattern_of}
use Rattle.token.specs.Scan.{scan}
use Rattle.token.specs.Match.{In, MatchesNone, First, NoneBeyond, Longest}
use Rattle.token.specs.declared.Token.{Token}
use Rattle.token.specs.declared.Token.TheVariants as T
use Rattle.token.specs.Scanned.{Scan}
use Rattle.std.specs.Prelude.{Some, None}
use Rattle.token.proofs.Meaning.{scan_longest}
use Rattle.constants.specs.Constants.{IntConstant, Shared, BareDot, integer_pattern, double_pattern, hex_pattern}
use Rattle.constants.proofs.Shapes.{Shape, shared, bare_dot, lone_exponent, lone_sign, integer, other, is_digit, is_sign, is_letter, digit_next, sign_next, at, walk, unsign, shape, shape_int, shape_bare, shape_shared}
use Rattle.constants.proofs.Parts.{within_cases, nowhere, one}
use Rattle.constants.proofs.Tokens.{int_token, double_token}
use Rattle.constants.proofs.Smallest.{int_least, bare_least, shared_least}
use Rattle.constants.proofs.Exactly.{int_exactly, rico_double, rico_kinds, hex_shape}

-- of no number's shape
Odd : List ℕ → Type 0
Odd w = (shape w ≡ other) ⊎ (shape w ≡ lone_exponent)

-- ---- by the first byte

byte_odd : (c : ℕ) (v : List ℕ) → (c < 43) ⊎ (57 < c) → Odd (c ∷ v)
unfolding Odd shape sign_next is_sign unsign walk is_digit at
byte_odd c v h = rw (ne_eqb c 43 (λ e. away h e (omega arith)), ne_eqb c 45 (λ e. away h e (omega arith)), no_digit h, ne_eqb c 46 (λ e. away h e (omega arith))) (go (is_letter c))
  where
    away : {n : ℕ} → (c < 43) ⊎ (57 < c) → c ≡ n → (43 ≤ n) × (n ≤ 57) → ⊥
    away (inl g) e k = let a = k.0 in omega arith
    away (inr g) e k = let a = k.1 in omega arith

    no_digit : (c < 43) ⊎ (57 < c) → (leb 48 c && leb c 57) ≡ false
    no_digit (inl g) = rw (lt-leb 48 c (omega arith))
    no_digit (inr g) = rw (lt-leb c 57 g) (go2 (leb 48 c))
      where
        go2 : (b : Bool) → (b && false) ≡ false
        go2 true = refl
        go2 false = refl

    go : (b : Bool) → (cond b lone_exponent other ≡ other) ⊎ (cond b lone_exponent other ≡ lone_exponent)
    go true = inr refl
    go false = inl refl

-- every range is below the signs or above the digits
off : List Range → Bool
off [] = true
off (to a b ∷ rs) = (ltb b 43 || ltb 57 a) && off rs

off_byte : (c : ℕ) (rs : List Range) → off rs ≡ true → within c rs ≡ true → (c < 43) ⊎ (57 < c)
unfolding off
off_byte c [] f e = nowhere c e
off_byte c (to a b ∷ rs) f e = go (ltb b 43) refl (ltb 57 a) refl f (within_cases c a b rs e) (off_byte c rs)
  where
    go : (p : Bool) → ltb b 43 ≡ p → (q : Bool) → ltb 57 a ≡ q → ((p || q) && off rs) ≡ true → ((a ≤ c) × (c ≤ b)) ⊎ (within c rs ≡ true) →
        (off rs ≡ true → within c rs ≡ true → (c < 43) ⊎ (57 < c)) → (c < 43) ⊎ (57 < c)
    go true x q y f (inl g) ih = let l = g.1 in let k = ltb-true b 43 x in inl (omega arith)
    go true x q y f (inr g) ih = ih f g
    go false x true y f (inl g) ih = let l = g.0 in let k = ltb-true 57 a y in inr (omega arith)
    go false x true y f (inr g) ih = ih f g
    go false x false y f g ih = let z : ◌≡◌ {A = ℕ} 0 1 = cc in absurd (omega arith)

head_odd : (rs : List Range) (x : Regex) (w : List ℕ) → off rs ≡ true → In (seq (set rs) x) w → Odd w
head_odd rs x w f h = rw (h.2, h.3.1) (byte_odd h.3.0 h.1 (off_byte h.3.0 rs f h.3.2))

set_odd : (rs : List Range) (w : List ℕ) → off rs ≡ true → In (set rs) w → Odd w
set_odd rs w f h = rw h.1 (byte_odd h.0 [] (off_byte h.0 rs f h.2))

-- ---- the words and the marks

exact_in : (u w : List ℕ) → In (exact u) w → w ≡ u
unfolding exact then
exact_in [] w h = h
exact_in (c ∷ u) w h = h.2 ∙ rw (h.3.1, one h.3.0 c h.3.2, exact_in u h.1 h.4) refl

is_odd : Shape → Bool
is_odd shared = false
is_odd bare_dot = false
is_odd lone_exponent = true
is_odd lone_sign = false
is_odd integer = false
is_odd other = true

odd_of : (s : Shape) → is_odd s ≡ true → (s ≡ other) ⊎ (s ≡ lone_exponent)
unfolding is_odd
odd_of shared e = let z : ◌≡◌ {A = ℕ} 0 1 = cc in absurd (omega arith)
odd_of bare_dot e = let z : ◌≡◌ {A = ℕ} 0 1 = cc in absurd (omega arith)
odd_of lone_exponent e = inr refl
odd_of lone_sign e = let z : ◌≡◌ {A = ℕ} 0 1 = cc in absurd (omega arith)
odd_of integer e = let z : ◌≡◌ {A = ℕ} 0 1 = cc in absurd (omega arith)
odd_of other e = inl refl

all_odd : List Word → Bool
all_odd [] = true
all_odd (word k u ∷ ws) = is_odd (shape u) && all_odd ws

and_both : (a b : Bool) → (a && b) ≡ true → (a ≡ true) × (b ≡ true)
and_both true b e = (refl, e)
and_both false b e = let z : ◌≡◌ {A = ℕ} 0 1 = cc in absurd (omega arith)

past_words : (ws : List Word) (rs : List Rule) (w : List ℕ) (k : Token) → all_odd ws ≡ true → (Odd w → ⊥) → First (map word_rule ws ++ rs) w k → First rs w k
unfolding all_odd word_rule Odd
past_words [] rs w k e n h = h
past_words (word q u ∷ ws) rs w k e n (inl g) =
    let x = exact_in u w g.0 in absurd (n (rw x (odd_of (shape u) (and_both (is_odd (shape u)) (all_odd ws) e).0)))
past_words (word q u ∷ ws) rs w k e n (inr g) = past_words ws rs w k (and_both (is_odd (shape u)) (all_odd ws) e).1 n g.1

words_odd : all_odd words ≡ true
unfolding all_odd words token bytes is_odd shape sign_next is_sign unsign walk is_digit at is_letter digit_next
words_odd = refl

marks_odd : all_odd marks ≡ true
unfolding all_odd marks token bytes is_odd shape sign_next is_sign unsign walk is_digit at is_letter digit_next
marks_odd = refl

-- ---- the other patterns

begins : {x : List ℕ → Type 0} (rs : List Range) (w : List ℕ) → off rs ≡ true →
    (u : List ℕ) × (v : List ℕ) × (w ≡ u ++ v) × ((c : ℕ) × (u ≡ c ∷ []) × (within c rs ≡ true)) × x v → Odd w
begins rs w f h = rw (h.2, h.3.1) (byte_odd h.3.0 h.1 (off_byte h.3.0 rs f h.3.2))

past : {a b c d : Type 0} → (a → ⊥) → (a × b) ⊎ (c × d) → d
past n (inl g) = absurd (n g.0)
past n (inr g) = g.1

found : {a b d : Type 0} → a → (a × b) ⊎ ((a → ⊥) × d) → b
found m (inl g) = g.1
found m (inr g) = absurd (g.0 m)

module _ (w : List ℕ) (k : Token) (n : Odd w → ⊥) where
  int_shape : In integer_pattern w → First shapes w k → k ≡ T.IntegerLiteral
  unfolding Odd off shapes one_of none_of plus name quoted then ranges bytes exact opt sign_of digitsOf exponentOf point_of stars integer_pattern double_pattern hex_pattern pattern_of rules words rest marks word_rule token is code
  int_shape m h =
      found m
      (past (λ g. n (inl (hex_shape w g)))
      (past (λ g. rico_kinds w m g)
      (past (λ g. n (⊎_elim (λ q. begins (to 34 34 ∷ []) w refl q) (λ q. begins (to 39 39 ∷ []) w refl q) g))
      (past (λ g. n (begins (to 97 122 ∷ to 65 90 ∷ to 95 95 ∷ []) w refl g))
      (past (λ g. n (set_odd (to 13 13 ∷ to 10 10 ∷ to 12 12 ∷ []) w refl g))
      (past (λ g. n (begins (to 32 32 ∷ to 9 9 ∷ []) w refl g)) h))))))

  double_shape : In double_pattern w → First shapes w k → k ≡ T.DoubleLiteral
  unfolding Odd off shapes one_of none_of plus name quoted then ranges bytes exact opt sign_of digitsOf exponentOf point_of stars integer_pattern double_pattern hex_pattern pattern_of rules words rest marks word_rule token is code
  double_shape m h =
      found m
      (past (λ g. n (⊎_elim (λ q. begins (to 34 34 ∷ []) w refl q) (λ q. begins (to 39 39 ∷ []) w refl q) g))
      (past (λ g. n (begins (to 97 122 ∷ to 65 90 ∷ to 95 95 ∷ []) w refl g))
      (past (λ g. n (set_odd (to 13 13 ∷ to 10 10 ∷ to 12 12 ∷ []) w refl g))
      (past (λ g. n (begins (to 32 32 ∷ to 9 9 ∷ []) w refl g)) h))))

  first_shapes : First rules w k → First shapes w k
  unfolding rules rest
  first_shapes h = past_words marks shapes w k marks_odd n (past_words words (map word_rule marks ++ shapes) w k words_odd n h)

-- ---- the whole text is the longest match

none_pattern : (k : Token) (rs : List Rule) (w : List ℕ) → MatchesNone rs w → In (pattern_of k rs) w → ⊥
unfolding pattern_of
none_pattern k [] w h m = m
none_pattern k (rule q r ∷ rs) w h m = go (is k q) m (none_pattern k rs w h.1)
  where
    go : (b : Bool) → In (cond b r (pattern_of k rs)) w → (In (pattern_of k rs) w → ⊥) → ⊥
    go true m ih = h.0 m
    go false m ih = ih m

module _ (q : Token) (w : List ℕ) (some : 0 < length w) (m : In (pattern_of q rules) w) (kind : (k : Token) → First rules w k → k ≡ q) where
  none_whole : (n : ℕ) → n < length w → NoneBeyond w n → ⊥
  none_whole n h b = none_pattern q rules w (rw (take-length w) at (b (length w) h (omega arith))) m

  scanned : (s : Scan) → Longest w s → s ≡ Some (q, length w)
  scanned None l = absurd (none_whole 0 some l)
  scanned (Some (k, n)) l = go (eq-or-lt_of_le l.1)
    where
      go : (n ≡ length w) ⊎ (n < length w) → ◌≡◌ {A = Scan} (Some (k, n)) (Some (q, length w))
      go (inl e) = rw (e, kind k (rw (e, take-length w) at l.2))
      go (inr h) = absurd (none_whole n h l.3)

int_even : {w : List ℕ} → IntConstant w → Odd w → ⊥
unfolding Odd
int_even h (inl e) = let z : ◌≡◌ {A = ℕ} 0 1 = cc (shape_int h) in omega arith
int_even h (inr e) = let z : ◌≡◌ {A = ℕ} 0 1 = cc (shape_int h) in omega arith

double_even : {w : List ℕ} → Shared w ⊎ BareDot w → Odd w → ⊥
unfolding Odd
double_even (inl h) (inl e) = let z : ◌≡◌ {A = ℕ} 0 1 = cc (shape_shared h) in omega arith
double_even (inl h) (inr e) = let z : ◌≡◌ {A = ℕ} 0 1 = cc (shape_shared h) in omega arith
double_even (inr h) (inl e) = let z : ◌≡◌ {A = ℕ} 0 1 = cc (shape_bare h) in omega arith
double_even (inr h) (inr e) = let z : ◌≡◌ {A = ℕ} 0 1 = cc (shape_bare h) in omega arith

pub int_whole : (w : List ℕ) → IntConstant w → scan w ≡ Some (T.IntegerLiteral, length w)
unfolding integer_pattern
int_whole w h =
    let m = (int_exactly w).0 h in
    scanned T.IntegerLiteral w (omega (arith, int_least h)) m (λ k f. int_shape w k (int_even h) m (first_shapes w k (int_even h) f)) (scan w) (scan_longest w)

double_size : {w : List ℕ} → Shared w ⊎ BareDot w → 2 ≤ length w
double_size (inl h) = shared_least h
double_size (inr h) = bare_least h

pub double_whole : (w : List ℕ) → Shared w ⊎ BareDot w → scan w ≡ Some (T.DoubleLiteral, length w)
unfolding double_pattern
double_whole w h =
    let m = (rico_double w).1 h in
    scanned T.DoubleLiteral w (omega (arith, double_size h)) m (λ k f. double_shape w k (double_even h) m (first_shapes w k (double_even h) f)) (scan w)
    (scan_longest w)

-- a text is an IntConstant just where it is scanned as one IntegerLiteral; and so for a double
pub int_scanned : (w : List ℕ) → IntConstant w ↔ (scan w ≡ Some (T.IntegerLiteral, length w))
int_scanned w = (int_whole w, λ e. rw (take-length w) at (int_token w (length w) e))

pub double_scanned : (w : List ℕ) → (Shared w ⊎ BareDot w) ↔ (scan w ≡ Some (T.DoubleLiteral, length w))
double_scanned w = (double_whole w, λ e. rw (take-length w) at (double_token w (length w) e))
