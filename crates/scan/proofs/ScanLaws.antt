-- What each branch of src/lib.rt finds, from where its scan stands.
use mathlib.Core.Path.{◌≡◌, refl, ap, ◌∙◌, subst}
use mathlib.Core.Logic.{⊎_elim}
use mathlib.Core.Bool.{Bool, true, false, cond, ◌&&◌}
use mathlib.Core.List.{List, [], ◌∷◌}
use Prim.Native.Nat.{ℕ, ◌+◌, ◌-◌, ◌<◌, ◌≤◌}
use native.Mathlib.Omega.{arith}
use borrow.Author.Tests.{eq-eqb, eqb-true, ne_eqb, lt-ltb, le-ltb, le-leb, lt-leb, leb-true, leb-false, ltb-true, ltb-false}
use lib.Dec.{eqb, leb, ltb}
use lib.ListN.{length, get_or}
use Rattle.token.specs.Scan.{keep, scan_from, scan}
use Rattle.token.specs.Tables.{classes}
use Rattle.token.specs.Run.{class_of}
use Rattle.token.specs.Automaton.{
  State,
  start,
  dead,
  blanks,
  comment,
  signed,
  dot,
  signed_dot,
  slash,
  zero,
  whole,
  fraction,
  exponent_sign,
  exponent_digit,
  exponent_mark,
  hex_mark,
  hex_digits,
  named,
  name_dot,
  block,
  block_star,
  in_string,
  escaped,
  closed,
  step,
  kind_at,
  openings,
  quote,
  stop,
  longest,
  Reached,
}
use Rattle.token.specs.declared.Token.{Token}
use Rattle.token.specs.declared.Token.TheVariants as T
use Rattle.token.specs.Scanned.{Scan}
use Rattle.std.specs.Prelude.{Some, None}
use Rattle.std.specs.Bool.{MatchBool}
use Rattle.token.proofs.Numbers.{lt_or_le}
use Rattle.token.proofs.Reach.{Spins, ended, run_stops, reach_step, reach_end, reach_stop, reach_run, reach_like}
use Rattle.scan.proofs.OneByte.{class_star, class_slash}
use Rattle.scan.proofs.Spins.{
  spins_whole,
  spins_fraction,
  spins_exponent,
  spins_hex,
  spins_named,
  spins_blanks,
  spins_comment,
  spins_string,
}

-- one byte on, to a state that is known
pub reach_to : {t : List ℕ} {s : State} {i : ℕ} {b : Scan} → Reached t s i b → (k : ℕ) → i < length t → class_of (get_or t i 0) ≡ k → (q : State) → step s k ≡ q
    → Reached t q (i + 1) (keep (kind_at q) (i + 1) b)
reach_to {t} {i = i} {b = b} r k h e q f = subst (λ (x : State). Reached t x (i + 1) (keep (kind_at x) (i + 1) b)) f (reach_step r k h e)

-- a run that ends its token
pub run_done : {t : List ℕ} {s : State} {i : ℕ} {b : Scan} → Reached t s i b → (from to : ℕ) → Spins s from to
    → ((k : ℕ) → from ≤ k → k < to → step s k ≡ dead) → keep (kind_at s) i b ≡ b → longest t ≡ keep (kind_at s) (ended from to t i) b
run_done {t} {s} {i} {b} r from to l d e =
    let g : Reached t s (ended from to t i) (keep (kind_at s) (ended from to t i) b) = reach_run r from to l e in
    ⊎_elim
    (λ h. let f = run_stops from to t i r.inside h in reach_stop g (class_of (get_or t (ended from to t i) 0)) h refl (d _ f.0 f.1))
    (λ h. reach_end g h)
    (lt_or_le (ended from to t i) (length t))

-- ---- exponent_digits, exponent_of

module _ {t : List ℕ} {i e : ℕ} {k : Token} (r : Reached t exponent_sign i (Some (k, e))) (h : i < length t) where
  pub exponent_digit_law : class_of (get_or t i 0) < 8 → longest t ≡ Some (T.DoubleLiteral, ended 8 60 t (i + 1))
  unfolding keep kind_at step
  exponent_digit_law l =
      run_done (reach_to r (class_of (get_or t i 0)) h refl exponent_digit (rw (lt-ltb _ _ l))) 8 60 spins_exponent (λ q a b. rw (le-ltb q 8 a)) refl

  pub exponent_none : 8 ≤ class_of (get_or t i 0) → longest t ≡ Some (k, e)
  unfolding step
  exponent_none l = reach_stop r (class_of (get_or t i 0)) h refl (rw (le-ltb _ _ l))

module _ {t : List ℕ} {i e : ℕ} {k : Token} (r : Reached t exponent_mark i (Some (k, e))) (h : i < length t) where
  pub exponent_signed : class_of (get_or t i 0) ≡ 45 → Reached t exponent_sign (i + 1) (Some (k, e))
  unfolding keep kind_at step
  exponent_signed l = reach_to r 45 h l exponent_sign refl

  pub exponent_plain : (class_of (get_or t i 0) ≡ 45 → ⊥) → Reached t exponent_sign i (Some (k, e))
  unfolding step
  exponent_plain l = reach_like r exponent_sign (class_of (get_or t i 0)) h refl (rw (ne_eqb _ _ l))

-- ---- fraction_of, whole_of

module _ {t : List ℕ} {i : ℕ} (r : Reached t fraction i (Some (T.DoubleLiteral, i))) where
  pub fraction_run : Reached t fraction (ended 8 60 t i) (Some (T.DoubleLiteral, ended 8 60 t i))
  unfolding keep kind_at
  fraction_run = reach_run r 8 60 spins_fraction refl

  pub fraction_end : (j : ℕ) → j ≡ ended 8 60 t i → length t ≤ j → longest t ≡ Some (T.DoubleLiteral, j)
  fraction_end j e h = rw e (reach_end fraction_run (rw e at h))

  pub fraction_exponent : (j : ℕ) → j ≡ ended 8 60 t i → j < length t → class_of (get_or t j 0) < 10 → Reached t exponent_mark (j + 1) (Some (T.DoubleLiteral, j))
  unfolding keep kind_at step
  fraction_exponent j e h l =
      let g = run_stops 8 60 t i r.inside (rw e at h) in
      rw e (reach_to fraction_run (class_of (get_or t (ended 8 60 t i) 0)) (rw e at h) refl exponent_mark (rw (le-ltb _ _ g.0, lt-ltb _ _ (rw e at l))))

  pub fraction_stop : (j : ℕ) → j ≡ ended 8 60 t i → j < length t → 10 ≤ class_of (get_or t j 0) → longest t ≡ Some (T.DoubleLiteral, j)
  unfolding step
  fraction_stop j e h l =
      let g = run_stops 8 60 t i r.inside (rw e at h) in
      rw e (reach_stop fraction_run (class_of (get_or t (ended 8 60 t i) 0)) (rw e at h) refl (rw (le-ltb _ _ g.0, le-ltb _ _ (rw e at l))))

module _ {t : List ℕ} {i : ℕ} (r : Reached t whole i (Some (T.IntegerLiteral, i))) where
  whole_run : Reached t whole (ended 8 60 t i) (Some (T.IntegerLiteral, ended 8 60 t i))
  unfolding keep kind_at
  whole_run = reach_run r 8 60 spins_whole refl

  pub whole_end : (j : ℕ) → j ≡ ended 8 60 t i → length t ≤ j → longest t ≡ Some (T.IntegerLiteral, j)
  whole_end j e h = rw e (reach_end whole_run (rw e at h))

  pub whole_exponent : (j : ℕ) → j ≡ ended 8 60 t i → j < length t → class_of (get_or t j 0) < 10 → Reached t exponent_mark (j + 1) (Some (T.IntegerLiteral, j))
  unfolding keep kind_at step
  whole_exponent j e h l =
      let g = run_stops 8 60 t i r.inside (rw e at h) in
      rw e (reach_to whole_run (class_of (get_or t (ended 8 60 t i) 0)) (rw e at h) refl exponent_mark (rw (le-ltb _ _ g.0, lt-ltb _ _ (rw e at l))))

  pub whole_point : (j : ℕ) → j ≡ ended 8 60 t i → j < length t → class_of (get_or t j 0) ≡ 36 → Reached t fraction (j + 1) (Some (T.DoubleLiteral, j + 1))
  unfolding keep kind_at step
  whole_point j e h l = rw e (reach_to whole_run 36 (rw e at h) (rw e at l) fraction refl)

  pub whole_stop : (j : ℕ) → j ≡ ended 8 60 t i → j < length t → 10 ≤ class_of (get_or t j 0) → (class_of (get_or t j 0) ≡ 36 → ⊥) → longest t ≡ Some (T.IntegerLiteral, j)
  unfolding step
  whole_stop j e h l n =
      let g = run_stops 8 60 t i r.inside (rw e at h) in
      rw e (reach_stop whole_run (class_of (get_or t (ended 8 60 t i) 0)) (rw e at h) refl (rw (le-ltb _ _ g.0, le-ltb _ _ (rw e at l), ne_eqb _ _ (rw e at n))))

-- ---- zero_of

module _ {t : List ℕ} (r : Reached t zero 1 (Some (T.IntegerLiteral, 1))) (h : 1 < length t) where
  pub zero_below : class_of (get_or t 1 0) < 16 → Reached t whole 1 (Some (T.IntegerLiteral, 1))
  unfolding step
  zero_below l = reach_like r whole (class_of (get_or t 1 0)) h refl (rw (lt-leb _ _ l))

  pub zero_above : 18 ≤ class_of (get_or t 1 0) → Reached t whole 1 (Some (T.IntegerLiteral, 1))
  unfolding step
  zero_above l = let m : 16 ≤ class_of (get_or t 1 0) = omega arith in reach_like r whole (class_of (get_or t 1 0)) h refl (rw (le-leb _ _ m, le-ltb _ _ l))

  zero_x : 16 ≤ class_of (get_or t 1 0) → class_of (get_or t 1 0) < 18 → Reached t hex_mark 2 (Some (T.IntegerLiteral, 1))
  unfolding step keep kind_at
  zero_x l m = reach_to r (class_of (get_or t 1 0)) h refl hex_mark (rw (le-leb _ _ l, lt-ltb _ _ m))

  module _ (l : 16 ≤ class_of (get_or t 1 0)) (m : class_of (get_or t 1 0) < 18) where
    pub hex_end : length t ≤ 2 → longest t ≡ Some (T.IntegerLiteral, 1)
    hex_end g = reach_end (zero_x l m) g

    pub hex_digit_law : 2 < length t → class_of (get_or t 2 0) < 16 → longest t ≡ Some (T.HexLiteral, ended 16 60 t 3)
    unfolding step keep kind_at
    hex_digit_law g d =
        run_done (reach_to (zero_x l m) (class_of (get_or t 2 0)) g refl hex_digits (rw (lt-ltb _ _ d))) 16 60 spins_hex (λ q a b. rw (le-ltb q 16 a)) refl

    pub hex_none : 2 < length t → 16 ≤ class_of (get_or t 2 0) → longest t ≡ Some (T.IntegerLiteral, 1)
    unfolding step
    hex_none g d = reach_stop (zero_x l m) (class_of (get_or t 2 0)) g refl (rw (le-ltb _ _ d))

-- ---- dot_of, signed_of

module _ {t : List ℕ} {i : ℕ} {b : Scan} where
  pub point_digit : Reached t dot i b → i < length t → class_of (get_or t i 0) < 8 → Reached t fraction (i + 1) (Some (T.DoubleLiteral, i + 1))
  unfolding step keep kind_at
  point_digit r h l = reach_to r (class_of (get_or t i 0)) h refl fraction (rw (lt-ltb _ _ l))

  pub point_stop : Reached t dot i b → i < length t → 8 ≤ class_of (get_or t i 0) → longest t ≡ b
  unfolding step
  point_stop r h l = reach_stop r (class_of (get_or t i 0)) h refl (rw (le-ltb _ _ l))

  pub signed_digit : Reached t signed i b → i < length t → class_of (get_or t i 0) < 8 → Reached t whole (i + 1) (Some (T.IntegerLiteral, i + 1))
  unfolding step keep kind_at
  signed_digit r h l = reach_to r (class_of (get_or t i 0)) h refl whole (rw (lt-ltb _ _ l))

  pub signed_stop : Reached t signed i b → i < length t → 8 ≤ class_of (get_or t i 0) → (class_of (get_or t i 0) ≡ 36 → ⊥) → longest t ≡ b
  unfolding step
  signed_stop r h l n = reach_stop r (class_of (get_or t i 0)) h refl (rw (le-ltb _ _ l, ne_eqb _ _ n))

  pub signed_point : Reached t signed i b → i < length t → class_of (get_or t i 0) ≡ 36 → Reached t signed_dot (i + 1) b
  unfolding step keep kind_at
  signed_point r h l = reach_to r 36 h l signed_dot refl

  pub signed_fraction : Reached t signed_dot i b → i < length t → class_of (get_or t i 0) < 8 → Reached t fraction (i + 1) (Some (T.DoubleLiteral, i + 1))
  unfolding step keep kind_at
  signed_fraction r h l = reach_to r (class_of (get_or t i 0)) h refl fraction (rw (lt-ltb _ _ l))

  pub signed_none : Reached t signed_dot i b → i < length t → 8 ≤ class_of (get_or t i 0) → longest t ≡ b
  unfolding step
  signed_none r h l = reach_stop r (class_of (get_or t i 0)) h refl (rw (le-ltb _ _ l))

-- ---- string_of

-- a token that nothing can lengthen
pub closed_done : {t : List ℕ} {k : Token} {i : ℕ} {b : Scan} → Reached t (closed k) i b → longest t ≡ b
unfolding step
closed_done {t} {i = i} r =
    ⊎_elim (λ h. reach_stop r (class_of (get_or t i 0)) h refl refl) (λ h. reach_end r h) (lt_or_le i (length t))

-- the class at the end of a run within a string that is not the quote is the backslash
backslash : (q : Bool) (k : ℕ) → stop q ≤ k → k < stop q + 2 → (k ≡ quote q → ⊥) → k ≡ 42
backslash true k a b n = ⊎_elim (λ h. absurd (n (omega arith))) (λ h. omega arith) (lt_or_le k 42)
backslash false k a b n = ⊎_elim (λ h. omega arith) (λ h. absurd (n (omega arith))) (lt_or_le k 43)

module _ (q : Bool) {t : List ℕ} {i : ℕ} (r : Reached t (in_string q) i None) (j : ℕ) (e : j ≡ ended (stop q) (stop q + 2) t i) where
  string_run : Reached t (in_string q) j None
  unfolding keep kind_at
  string_run = rw e (reach_run r (stop q) (stop q + 2) (spins_string q) refl)

  pub string_end : length t ≤ j → longest t ≡ None
  string_end h = reach_end string_run h

  pub string_close : j < length t → class_of (get_or t j 0) ≡ quote q → longest t ≡ Some (T.StringLiteral, j + 1)
  unfolding step keep kind_at
  string_close h l = closed_done (reach_to string_run (quote q) h l (closed T.StringLiteral) (rw (eq-eqb (quote q) (quote q) refl)))

  string_escape : j < length t → (class_of (get_or t j 0) ≡ quote q → ⊥) → Reached t (escaped q) (j + 1) None
  unfolding step keep kind_at
  string_escape h n =
      let f = run_stops (stop q) (stop q + 2) t i r.inside (rw e at h) in
      let k : class_of (get_or t j 0) ≡ 42 = backslash q (class_of (get_or t j 0)) (rw (← e) at f.0) (rw (← e) at f.1) n in
      reach_to string_run 42 h k (escaped q) (rw (ne_eqb 42 (quote q) (λ m. n (k ∙ m))))

  module _ (h : j < length t) (n : class_of (get_or t j 0) ≡ quote q → ⊥) where
    pub escape_end : length t ≤ j + 1 → longest t ≡ None
    escape_end g = reach_end (string_escape h n) g

    pub escape_line : j + 1 < length t → class_of (get_or t (j + 1) 0) ≡ 39 → longest t ≡ None
    unfolding step
    escape_line g l = reach_stop (string_escape h n) 39 g l refl

    pub escape_on : j + 1 < length t → (class_of (get_or t (j + 1) 0) ≡ 39 → ⊥) → Reached t (in_string q) (j + 2) None
    unfolding step keep kind_at
    escape_on g l =
        let m : j + 1 + 1 ≡ j + 2 = omega arith in
        rw m at (reach_to (string_escape h n) (class_of (get_or t (j + 1) 0)) g refl (in_string q) (rw (ne_eqb _ _ l)))

-- ---- block_of, slash_of

-- the state within a block comment behind a byte, a star or not
abbrev pub behind : ℕ → State
behind c = cond (eqb c 42) block_star block

open_behind : (c n : ℕ) → keep (kind_at (behind c)) n None ≡ None
unfolding keep kind_at
open_behind c n = go (eqb c 42)
  where
    go : (b : Bool) → keep (kind_at (cond b block_star block)) n None ≡ None
    go true = refl
    go false = refl

-- behind a byte that does not close the comment
block_byte : {t : List ℕ} {s : State} {i : ℕ} → Reached t s i None → i < length t → step s (class_of (get_or t i 0)) ≡ behind (get_or t i 0)
    → Reached t (behind (get_or t i 0)) (i + 1) None
block_byte {t} {i = i} r h e = rw (open_behind (get_or t i 0) (i + 1)) at (reach_to r (class_of (get_or t i 0)) h refl (behind (get_or t i 0)) e)

pub block_first : {t : List ℕ} → Reached t block 2 None → 2 < length t → Reached t (behind (get_or t 2 0)) 3 None
unfolding step
block_first {t} r h = block_byte r h (rw (class_star (get_or t 2 0) (r.bytes 2)))

module _ {t : List ℕ} {i : ℕ} (p : ℕ) (r : Reached t (behind p) i None) (h : i < length t) where
  pub block_close : get_or t i 0 ≡ 47 → p ≡ 42 → longest t ≡ Some (T.BlockComment, i + 1)
  unfolding step keep kind_at class_of classes
  block_close c d =
      let g : Reached t block_star i None = rw d at r in
      closed_done (reach_to g 38 h (ap class_of c) (closed T.BlockComment) refl)

  pub block_on : (get_or t i 0 ≡ 47 → p ≡ 42 → ⊥) → Reached t (behind (get_or t i 0)) (i + 1) None
  unfolding step
  block_on n = block_byte r h (go (eqb p 42) refl (eqb (get_or t i 0) 47) refl)
    where
      go : (a : Bool) → eqb p 42 ≡ a → (b : Bool) → eqb (get_or t i 0) 47 ≡ b → step (cond a block_star block) (class_of (get_or t i 0)) ≡ behind (get_or t i 0)
      go false e b f = rw (class_star (get_or t i 0) (r.bytes i))
      go true e false f = rw (← class_star (get_or t i 0) (r.bytes i), ← class_slash (get_or t i 0) (r.bytes i), f)
      go true e true f = absurd (n (eqb-true _ _ f) (eqb-true _ _ e))

-- a line comment ends where its line does
pub comment_done : {t : List ℕ} {i : ℕ} → Reached t comment i (Some (T.LineComment, i)) → longest t ≡ Some (T.LineComment, ended 39 40 t i)
unfolding step keep kind_at
comment_done r = run_done r 39 40 spins_comment (λ k a b. let e : k ≡ 39 = omega arith in rw (eq-eqb k 39 e)) refl

module _ {t : List ℕ} (r : Reached t slash 1 None) (h : 1 < length t) where
  pub slash_slash : class_of (get_or t 1 0) ≡ 38 → Reached t comment 2 (Some (T.LineComment, 2))
  unfolding step keep kind_at
  slash_slash l = reach_to r 38 h l comment refl

  pub slash_star : class_of (get_or t 1 0) ≡ 37 → Reached t block 2 None
  unfolding step keep kind_at
  slash_star l = reach_to r 37 h l block refl

  pub slash_stop : (class_of (get_or t 1 0) ≡ 38 → ⊥) → (class_of (get_or t 1 0) ≡ 37 → ⊥) → longest t ≡ None
  unfolding step
  slash_stop l m = reach_stop r (class_of (get_or t 1 0)) h refl (rw (ne_eqb _ _ m, ne_eqb _ _ l))

-- ---- name_of, word_end, word_of

pub name_run : {t : List ℕ} {i : ℕ} → Reached t named i (Some (T.Identifier, i)) → (j : ℕ) → j ≡ ended 36 60 t i → Reached t named j (Some (T.Identifier, j))
unfolding keep kind_at
name_run r j e = rw e (reach_run r 36 60 spins_named refl)

pub name_sign : {t : List ℕ} {i : ℕ} → Reached t named i (Some (T.Identifier, i)) → (j : ℕ) → j ≡ ended 36 60 t i → j < length t → 36 ≤ class_of (get_or t j 0)
name_sign {t} {i} r j e h = rw e (run_stops 36 60 t i r.inside (rw e at h)).0

module _ {t : List ℕ} {i : ℕ} (r : Reached t named i (Some (T.Identifier, i))) (h : i < length t) (s : 36 ≤ class_of (get_or t i 0)) where
  pub name_stop : (class_of (get_or t i 0) ≡ 36 → ⊥) → longest t ≡ Some (T.Identifier, i)
  unfolding step
  name_stop n = reach_stop r (class_of (get_or t i 0)) h refl (rw (le-ltb _ _ s, ne_eqb _ _ n))

  module _ (d : class_of (get_or t i 0) ≡ 36) where
    name_dot_law : Reached t name_dot (i + 1) (Some (T.Identifier, i))
    unfolding step keep kind_at
    name_dot_law = reach_to r 36 h d name_dot refl

    pub dot_end : length t ≤ i + 1 → longest t ≡ Some (T.Identifier, i)
    dot_end g = reach_end name_dot_law g

    pub dot_digit : i + 1 < length t → class_of (get_or t (i + 1) 0) < 8 → longest t ≡ Some (T.Identifier, i)
    unfolding step
    dot_digit g l = reach_stop name_dot_law (class_of (get_or t (i + 1) 0)) g refl (rw (lt-leb _ _ l))

    pub dot_sign : i + 1 < length t → 36 ≤ class_of (get_or t (i + 1) 0) → longest t ≡ Some (T.Identifier, i)
    unfolding step
    dot_sign g l =
        let m : 8 ≤ class_of (get_or t (i + 1) 0) = omega arith in
        reach_stop name_dot_law (class_of (get_or t (i + 1) 0)) g refl (rw (le-leb _ _ m, le-ltb _ _ l))

    pub dot_on : i + 1 < length t → 8 ≤ class_of (get_or t (i + 1) 0) → class_of (get_or t (i + 1) 0) < 36 → Reached t named (i + 2) (Some (T.Identifier, i + 2))
    unfolding step keep kind_at
    dot_on g l u =
        let m : i + 1 + 1 ≡ i + 2 = omega arith in
        rw m at (reach_to name_dot_law (class_of (get_or t (i + 1) 0)) g refl named (rw (le-leb _ _ l, lt-ltb _ _ u)))

-- the test of the byte behind the dot decides
pub dot_next : {t : List ℕ} {i : ℕ} → Reached t named i (Some (T.Identifier, i)) → (h : i < length t) → 36 ≤ class_of (get_or t i 0) → class_of (get_or t i 0) ≡ 36 → i + 1 < length t
    → (b : Bool) → b ≡ (leb 8 (class_of (get_or t (i + 1) 0)) && ltb (class_of (get_or t (i + 1) 0)) 36)
    → MatchBool b ((i + 1 < length t) × Reached t named (i + 2) (Some (T.Identifier, i + 2))) (longest t ≡ Some (T.Identifier, i))
dot_next {t} {i} r h s d g b e = go b e (leb 8 (class_of (get_or t (i + 1) 0))) refl (ltb (class_of (get_or t (i + 1) 0)) 36) refl
  where
    k : ℕ
    k = class_of (get_or t (i + 1) 0)

    go : (b : Bool) → b ≡ (leb 8 k && ltb k 36) → (x : Bool) → leb 8 k ≡ x → (y : Bool) → ltb k 36 ≡ y
        → MatchBool b ((i + 1 < length t) × Reached t named (i + 2) (Some (T.Identifier, i + 2))) (longest t ≡ Some (T.Identifier, i))
    go b e true p true q = rw (e, p, q) (g, dot_on r h s d g (leb-true 8 k p) (ltb-true k 36 q))
    go b e true p false q = rw (e, p, q) (dot_sign r h s d g (ltb-false k 36 q))
    go b e false p y q = rw (e, p) (dot_digit r h s d g (leb-false 8 k p))

pub letter_on : {t : List ℕ} {i : ℕ} → Reached t named i (Some (T.Identifier, i)) → i < length t → class_of (get_or t i 0) < 36 → Reached t named (i + 1) (Some (T.Identifier, i + 1))
unfolding step keep kind_at
letter_on {t} {i} r h l = reach_to r (class_of (get_or t i 0)) h refl named (rw (lt-ltb _ _ l))

-- ---- the first byte

module _ {t : List ℕ} (r : Reached t start 0 None) (h : 0 < length t) where
  pub first_letter : 8 ≤ class_of (get_or t 0 0) → class_of (get_or t 0 0) < 36 → Reached t named 1 (Some (T.Identifier, 1))
  unfolding step keep kind_at
  first_letter l u =
      let n : (class_of (get_or t 0 0) ≡ 0) → ⊥ = λ e. omega arith in
      reach_to r (class_of (get_or t 0 0)) h refl named (rw (ne_eqb _ _ n, le-ltb _ _ l, lt-ltb _ _ u))

  pub first_zero : class_of (get_or t 0 0) ≡ 0 → Reached t zero 1 (Some (T.IntegerLiteral, 1))
  unfolding step keep kind_at
  first_zero l = reach_to r 0 h l zero refl

  pub first_digit : class_of (get_or t 0 0) < 8 → (class_of (get_or t 0 0) ≡ 0 → ⊥) → Reached t whole 1 (Some (T.IntegerLiteral, 1))
  unfolding step keep kind_at
  first_digit l n = reach_to r (class_of (get_or t 0 0)) h refl whole (rw (ne_eqb _ _ n, lt-ltb _ _ l))

  pub first_blank : class_of (get_or t 0 0) ≡ 59 → longest t ≡ Some (T.Blank, ended 0 59 t 1)
  unfolding step keep kind_at openings
  first_blank l =
      run_done (reach_to r 59 h l blanks refl) 0 59 spins_blanks (λ k a b. let e : (k ≡ 59) → ⊥ = λ f. omega arith in rw (ne_eqb k 59 e)) refl

  pub first_quote : (q : Bool) → class_of (get_or t 0 0) ≡ quote q → Reached t (in_string q) 1 None
  unfolding step keep kind_at openings
  first_quote true l = reach_to r 41 h l (in_string true) refl
  first_quote false l = reach_to r 43 h l (in_string false) refl

  pub first_hash : class_of (get_or t 0 0) ≡ 44 → Reached t comment 1 (Some (T.LineComment, 1))
  unfolding step keep kind_at openings
  first_hash l = reach_to r 44 h l comment refl

  pub first_slash : class_of (get_or t 0 0) ≡ 38 → Reached t slash 1 None
  unfolding step keep kind_at openings
  first_slash l = reach_to r 38 h l slash refl

  pub first_sign : class_of (get_or t 0 0) ≡ 45 → Reached t signed 1 None
  unfolding step keep kind_at openings
  first_sign l = reach_to r 45 h l signed refl

  pub first_dot : class_of (get_or t 0 0) ≡ 36 → Reached t dot 1 (Some (T.Dot, 1))
  unfolding step keep kind_at openings
  first_dot l = reach_to r 36 h l dot refl

  pub first_other : 36 ≤ class_of (get_or t 0 0) → Reached t (get_or openings (class_of (get_or t 0 0) - 36) dead) 1 (keep (kind_at (get_or openings (class_of (get_or t 0 0) - 36) dead)) 1 None)
  unfolding step
  first_other l =
      let n : (class_of (get_or t 0 0) ≡ 0) → ⊥ = λ e. omega arith in
      let m : 8 ≤ class_of (get_or t 0 0) = omega arith in
      reach_to r (class_of (get_or t 0 0)) h refl (get_or openings (class_of (get_or t 0 0) - 36) dead) (rw (ne_eqb _ _ n, le-ltb _ _ m, le-ltb _ _ l))

-- a run within a string goes on from where it starts
pub run_on : (q : Bool) {t : List ℕ} {i : ℕ} → Reached t (in_string q) i None → (j : ℕ) → j ≡ ended (stop q) (stop q + 2) t i → i ≤ j
run_on q r j e = omega arith

pub stop_below : (q : Bool) → stop q < 43
stop_below true = omega arith
stop_below false = omega arith

pub scan_nil : (t : List ℕ) → length t ≡ 0 → scan t ≡ None
unfolding scan scan_from
scan_nil [] e = refl
scan_nil (c ∷ t) e = absurd (omega arith)
