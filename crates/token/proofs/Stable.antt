-- A token is scanned alike whatever follows it, if what follows ends it.
--     stable        the token w of the kind k in front of r is scanned in front of r' too, if r' stops k
--     moved         a token of one text is the same token in front of another
--     alone         and with nothing behind it
--     fixed         a fixed text that is a token by itself is that token in front of what stops it
use mathlib.Core.Path.{◌≡◌, refl, sym, ap, ◌∙◌}
use mathlib.Core.Bool.{Bool, true, false, cond, not, ◌||◌}
use mathlib.Core.List.{List, [], ◌∷◌, ◌++◌, append-nil}
use Rattle.std.specs.Prelude.{Option, Some, None}
use Prim.Native.Nat.{ℕ, zero, suc, ◌+◌, ◌<◌, ◌≤◌}
use native.Mathlib.Omega.{arith}
use native.Mathlib.Nat.{add-zero, zero-add}
use lib.Dec.{T, ltb, ltb→lt}
use lib.ListN.{length, take, drop, take-append-drop}
use lib.Seq.{take-append_seam, length-take-le}
use Rattle.token.specs.Code.{code, is, among}
use Rattle.token.specs.Regex.{bytes, ranges, within}
use Rattle.token.specs.Patterns.{Rule, Word, word, token, words}
use Rattle.token.specs.Scan.{derivs, first, keep, scan_from, scan}
use Rattle.token.specs.Tables.{classes}
use Rattle.token.specs.Run.{class_of}
use Rattle.token.specs.Words.{same, lookup, rename}
use Rattle.token.specs.Automaton as A
use Rattle.token.specs.Automaton.{State, start, dead, rules_at, openings, step, kind_at, longest}
use Rattle.token.specs.Breaks.{goes_on, breaks, Stops, Bytes}
use Rattle.token.specs.declared.Token.{Token}
use Rattle.token.specs.declared.Token.TheVariants as T
use Rattle.token.specs.Scanned.{Scan}
use Rattle.token.proofs.Pairs.{some_kind, some_length}
use Rattle.token.proofs.Truth.{T_true}
use Rattle.token.proofs.Every.{both, both_left, both_right, every, at}
use Rattle.token.proofs.Classes.{classes_length, step_law}
use Rattle.token.proofs.Reach.{dead_scan, scan_cons, scan_step}
use Rattle.token.proofs.Words.{scan_words}

-- ---- from a state that has found k, a byte that breaks k leads nowhere

none_left : List Rule → Bool
none_left [] = true
none_left (r ∷ rs) = false

none_left_is : (rs : List Rule) → T (none_left rs) → rs ≡ []
unfolding none_left
none_left_is [] t = refl
none_left_is (r ∷ rs) t = absurd t

-- the byte c ends the token found
ended : Option Token → ℕ → Bool
ended None c = false
ended (Some k) c = breaks k c

-- THE TEST, in each state: a byte of the class j that ends the token found leads nowhere
right : State → ℕ → ℕ → Bool
right s c j = none_left (rules_at (step s j)) || not (ended (kind_at s) c)

break_test : (s : State) → T (every (right s) 0 classes)
unfolding right none_left rules_at ended step openings kind_at breaks goes_on among is code within ranges bytes classes
break_test start = tt
break_test dead = tt
break_test A.blanks = tt
break_test A.comment = tt
break_test A.signed = tt
break_test A.dot = tt
break_test A.signed_dot = tt
break_test A.slash = tt
break_test A.zero = tt
break_test A.whole = tt
break_test A.fraction = tt
break_test A.exponent_sign = tt
break_test A.exponent_digit = tt
break_test A.exponent_mark = tt
break_test A.hex_mark = tt
break_test A.hex_digits = tt
break_test A.named = tt
break_test A.name_dot = tt
break_test A.block = tt
break_test A.block_star = tt
break_test (A.in_string true) = tt
break_test (A.in_string false) = tt
break_test (A.escaped true) = tt
break_test (A.escaped false) = tt
break_test (A.closed k) = tt

breaks_dead : (s : State) (k : Token) (c : ℕ) → c < 256 → kind_at s ≡ Some k → T (breaks k c) → derivs c (rules_at s) ≡ []
unfolding right ended class_of
breaks_dead s k c h e t =
    step_law s c h
    ∙ none_left_is (rules_at (step s (class_of c)))
    (go (none_left (rules_at (step s (class_of c)))) (at (right s) classes 0 (break_test s) c (rw classes_length h)))
  where
    go : (b : Bool) → T (b || not (ended (kind_at s) c)) → T b
    go true x = tt
    go false x = rw (e, T_true (breaks k c) t) at x

-- ---- the longest match of the rules that are no words

-- a match that ends at i or before is the one so far
ends : (w : List ℕ) (rs : List Rule) (i : ℕ) (b : Scan) (k : Token) (n : ℕ) → n ≤ i → scan_from rs i b w ≡ Some (k, n) → b ≡ Some (k, n)
unfolding scan_from keep
ends [] rs i b k n l e = e
ends (c ∷ w) rs i b k n l e = go (first (derivs c rs)) (ends w (derivs c rs) (suc i) (keep (first (derivs c rs)) (suc i) b) k n (omega arith) e)
  where
    go : (o : Option Token) → keep o (suc i) b ≡ Some (k, n) → b ≡ Some (k, n)
    go None h = h
    go (Some q) h = let f : suc i ≡ n = some_length h in absurd (omega arith)

-- in the state s behind i bytes: a best match that ends here has the kind of the state
Best : State → ℕ → Scan → Type 0
Best s i None = Unit
Best s i (Some (q, n)) = (n ≤ i) × (n ≡ i → kind_at s ≡ Some q)

best_keep : (s s' : State) (i : ℕ) (b : Scan) → Best s i b → Best s' (suc i) (keep (kind_at s') (suc i) b)
unfolding Best keep
best_keep s s' i b h = go (kind_at s') refl b h
  where
    go : (o : Option Token) → kind_at s' ≡ o → (b : Scan) → Best s i b → Best s' (suc i) (keep o (suc i) b)
    go None e None h = tt
    go None e (Some (q, n)) h = (omega arith, λ f. absurd (omega arith))
    go (Some q) e b h = (omega arith, λ f. e)

-- from a state that has found q, what stops q adds nothing
stays : (s : State) (i : ℕ) (q : Token) (r : List ℕ) → kind_at s ≡ Some q → Stops q r → scan_from (rules_at s) i (Some (q, i)) r ≡ Some (q, i)
unfolding scan_from keep first
stays s i q [] e t = refl
stays s i q (c ∷ r) e t = scan_cons (rules_at s) i (Some (q, i)) c r ∙ rw (breaks_dead s q c t.0 e t.1) (dead_scan (suc i) (Some (q, i)) r)

-- if w is found in front of r, it is in front of r'
from : (w r r' : List ℕ) (s : State) (i : ℕ) (b : Scan) (q : Token) → Best s i b → Bytes w → Stops q r'
    → scan_from (rules_at s) i b (w ++ r) ≡ Some (q, i + length w) → scan_from (rules_at s) i b (w ++ r') ≡ Some (q, i + length w)
unfolding Best
from [] r r' s i b q h t st e =
    let f : b ≡ Some (q, i) = ends r (rules_at s) i b q i (omega arith) (rw add-zero at e) in
    rw (add-zero, f) (stays s i q r' ((rw f at h).1 refl) st)
from (c ∷ w) r r' s i b q h t st e =
    let n : suc i + length w ≡ i + length (c ∷ w) = omega arith in
    let s' : State = step s (class_of c) in
    let b' : Scan = keep (kind_at s') (suc i) b in
    scan_step s i b c (w ++ r') t.0
    ∙ rw n at
    (from w r r' s' (suc i) b' q (best_keep s s' i b h) t.1 st (sym (scan_step s i b c (w ++ r) t.0) ∙ e ∙ ap (λ n. Some (q, n)) (sym n)))

longest_stable : (w r r' : List ℕ) (q : Token) → Bytes w → Stops q r' → longest (w ++ r) ≡ Some (q, length w) → longest (w ++ r') ≡ Some (q, length w)
unfolding longest rules_at Best
longest_stable w r r' q t st e = rw zero-add at (from w r r' start 0 None q tt t st (rw zero-add e))

-- ---- with the words

-- each word can go on as a name does
all_on : List Word → Bool
all_on [] = true
all_on (word k v ∷ ws) = both (goes_on k) (all_on ws)

words_on : T (all_on words)
unfolding all_on goes_on among is code words token
words_on = tt

name_on : (q : Token) → is q T.Identifier ≡ true → T (goes_on q)
unfolding goes_on among
name_on q e = rw e tt

lookup_on : (ws : List Word) (u : List ℕ) (q : Token) → T (goes_on q) → T (all_on ws) → T (goes_on (lookup ws u q))
unfolding all_on lookup
lookup_on [] u q g t = g
lookup_on (word k v ∷ ws) u q g t = go (same v u) (lookup_on ws u q g (both_right (goes_on k) _ t))
  where
    go : (b : Bool) → T (goes_on (lookup ws u q)) → T (goes_on (cond b k (lookup ws u q)))
    go true h = both_left (goes_on k) (all_on ws) t
    go false h = h

breaks_on : (k q : Token) (c : ℕ) → T (goes_on k) → T (goes_on q) → T (breaks k c) → T (breaks q c)
unfolding breaks
breaks_on k q c f g t = rw (T_true (goes_on q) g) (rw (T_true (goes_on k) f) at t)

-- what a token found as q is called
called : Token → List ℕ → Token
called q w = cond (is q T.Identifier) (lookup words w q) q

-- what stops it then stops q
stops_called : (q : Token) (w r : List ℕ) → Stops (called q w) r → Stops q r
unfolding called
stops_called q w [] t = tt
stops_called q w (c ∷ r) t = (t.0, go (is q T.Identifier) refl t.1)
  where
    go : (b : Bool) → is q T.Identifier ≡ b → T (breaks (cond b (lookup words w q) q) c) → T (breaks q c)
    go false e h = h
    go true e h = breaks_on (lookup words w q) q c (lookup_on words w q (name_on q e) words_on) (name_on q e) h

renamed : (t : List ℕ) (q : Token) (n : ℕ) → longest t ≡ Some (q, n) → scan t ≡ Some (called q (take n t), n)
unfolding rename called
renamed t q n e = scan_words t ∙ rw e

pub stable : (w r r' : List ℕ) (k : Token) → Bytes w → scan (w ++ r) ≡ Some (k, length w) → Stops k r' → scan (w ++ r') ≡ Some (k, length w)
unfolding rename
stable w r r' k t e st = go (longest (w ++ r)) refl
  where
    go : (x : Scan) → longest (w ++ r) ≡ x → scan (w ++ r') ≡ Some (k, length w)
    go None f = cc (scan_words (w ++ r))
    go (Some (q, n)) f =
        let a : ◌≡◌ {A = Scan} (Some (called q (take n (w ++ r)), n)) (Some (k, length w)) = sym (renamed (w ++ r) q n f) ∙ e in
        let m : n ≡ length w = some_length a in
        let u : take n (w ++ r) ≡ w = rw m (take-append_seam w r) in
        let g : called q w ≡ k = ap (called q) (sym u) ∙ some_kind a in
        renamed (w ++ r') q (length w) (longest_stable w r r' q t (stops_called q w r' (rw g st)) (f ∙ ap (λ n. Some (q, n)) m))
        ∙ rw (take-append_seam w r', g)

-- ---- what a printer needs

pub bytes_take : (n : ℕ) (t : List ℕ) → Bytes t → Bytes (take n t)
bytes_take zero t h = tt
bytes_take (suc n) [] h = tt
bytes_take (suc n) (c ∷ t) h = (h.0, bytes_take n t h.1)

pub moved : (t r : List ℕ) (k : Token) (n : ℕ) → Bytes t → n ≤ length t → scan t ≡ Some (k, n) → Stops k r → scan (take n t ++ r) ≡ Some (k, n)
moved t r k n h l e st =
    let m : length (take n t) ≡ n = length-take-le n t l in
    rw m at (stable (take n t) (drop n t) r k (bytes_take n t h) (rw (m, take-append-drop n t) e) st)

pub alone : (t : List ℕ) (k : Token) (n : ℕ) → Bytes t → n ≤ length t → scan t ≡ Some (k, n) → scan (take n t) ≡ Some (k, n)
alone t k n h l e = rw append-nil at (moved t [] k n h l e tt)

-- each number of a fixed text is a byte, by computation
abbrev pub small : List ℕ → Bool
small [] = true
small (c ∷ u) = both (ltb c 256) (small u)

small_bytes : (u : List ℕ) → T (small u) → Bytes u
small_bytes [] t = tt
small_bytes (c ∷ u) t = (ltb→lt c 256 (both_left (ltb c 256) (small u) t), small_bytes u (both_right (ltb c 256) (small u) t))

pub fixed : (u r : List ℕ) (k : Token) → T (small u) → scan u ≡ Some (k, length u) → Stops k r → scan (u ++ r) ≡ Some (k, length u)
fixed u r k h e st = stable u [] r k (small_bytes u h) (rw append-nil e) st
