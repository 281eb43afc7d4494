-- The bytes of a token whose kind is that of one word alone.
--     keyword_bytes   they are the word's
--     hit_first       what is scanned has a rule
use mathlib.Core.Path.{◌≡◌, refl, ap, ◌∙◌, subst}
use mathlib.Core.Logic.{⊎_elim}
use mathlib.Core.Bool.{Bool, true, false, cond, not, ◌&&◌, ◌||◌}
use mathlib.Core.List.{List, [], ◌∷◌, ◌++◌, map}
use Prim.Native.Nat.{ℕ}
use native.Mathlib.Omega.{arith}
use borrow.Author.Tests.{eq-eqb, leb-true}
use lib.Dec.{T, leb, eqb}
use lib.ListN.{take}
use Rattle.token.specs.Regex.{Range, within, then}
use Rattle.token.specs.Patterns.{Rule, rule, Word, word, exact, word_rule, words, rest, rules}
use Rattle.token.specs.Code.{code}
use Rattle.token.specs.Match.{In, First, Longest}
use Rattle.token.specs.Scan.{scan}
use Rattle.token.specs.Words.{same}
use Rattle.token.specs.declared.Token.{Token}
use Rattle.std.specs.Prelude.{Some}
use Rattle.token.proofs.Truth.{T_true}
use Rattle.token.proofs.Every.{both, both_left, both_right}
use Rattle.token.proofs.Words.{same_eq}
use Rattle.token.proofs.Meaning.{scan_longest}

one_byte : (a c : ℕ) → within c (Range.to a a ∷ []) ≡ true → c ≡ a
unfolding within
one_byte a c = go (leb a c) refl (leb c a) refl
  where
    go : (p : Bool) → leb a c ≡ p → (q : Bool) → leb c a ≡ q → (p && q || false) ≡ true → c ≡ a
    go true e true f h = omega (arith, leb-true a c e, leb-true c a f)
    go true e false f h = cc
    go false e q f h = cc

exact_bytes : (v w : List ℕ) → In (exact v) w → w ≡ v
unfolding exact then
exact_bytes [] w h = h
exact_bytes (a ∷ v) w h =
    h.2 ∙ ap (λ (x : List ℕ). x ++ h.1) h.3.1 ∙ cc (one_byte a h.3.0 h.3.2, exact_bytes v h.1 h.4)

-- of the words, only v has the kind of this number; none of the rules has it
unfoldable pub only : ℕ → List ℕ → List Word → Bool
only n v [] = true
only n v (word q u ∷ ws) = both (cond (eqb n (code q)) (same u v) true) (only n v ws)

unfoldable pub none_has : ℕ → List Rule → Bool
none_has n [] = true
none_has n (rule q r ∷ rs) = both (not (eqb n (code q))) (none_has n rs)

none_first : (rs : List Rule) (w : List ℕ) (k : Token) → T (none_has (code k) rs) → First rs w k → ⊥
unfolding none_has
none_first [] w k t f = f
none_first (rule q r ∷ rs) w k t f = ⊎_elim here (λ g. none_first rs w k (both_right (not (eqb (code k) (code q))) _ t) g.1) f
  where
    here : In r w × (k ≡ q) → ⊥
    here g = rw (eq-eqb (code k) (code q) (ap code g.1)) at (both_left (not (eqb (code k) (code q))) _ t)

only_first : (ws : List Word) (rs : List Rule) (v w : List ℕ) (k : Token)
    → T (only (code k) v ws) → T (none_has (code k) rs) → First (map word_rule ws ++ rs) w k → w ≡ v
unfolding only word_rule
only_first [] rs v w k t n f = absurd (none_first rs w k n f)
only_first (word q u ∷ ws) rs v w k t n f =
    ⊎_elim here (λ g. only_first ws rs v w k (both_right (cond (eqb (code k) (code q)) (same u v) true) _ t) n g.1) f
  where
    here : In (exact u) w × (k ≡ q) → w ≡ v
    here g =
        exact_bytes u w g.0
        ∙ same_eq u v (T_true _ (rw (eq-eqb (code k) (code q) (ap code g.1)) at (both_left (cond (eqb (code k) (code q)) (same u v) true) _ t)))

pub keyword_bytes : (v w : List ℕ) (k : Token) → T (only (code k) v words) → T (none_has (code k) rest) → First rules w k → w ≡ v
unfolding rules
keyword_bytes v w k o n f = only_first words rest v w k o n f

-- what is scanned is the first rule's that has it
pub hit_first : (t : List ℕ) (k : Token) (n : ℕ) → scan t ≡ Some (k, n) → First rules (take n t) k
hit_first t k n e = let l : Longest t (Some (k, n)) = subst (Longest t) e (scan_longest t) in l.2
