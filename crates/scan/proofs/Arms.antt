-- What the last arm of a `match` on a number stands for: one computed test of all numbers that no arm names.
use mathlib.Core.Path.{◌≡◌, refl, sym, ap, ◌∙◌}
use mathlib.Core.Bool.{Bool, true, false, cond, ◌||◌}
use mathlib.Core.List.{List, [], ◌∷◌}
use Rattle.std.specs.Prelude.{Some, None}
use Prim.Native.Nat.{ℕ, ◌+◌, ◌<◌}
use borrow.Author.Tests.{eq-eqb, ne_eqb, eqb-false}
use lib.Dec.{T, eqb, ltb, ltb→lt}
use lib.ListN.{length, get_or, take}
use lib.Seq.{get_or-take}
use Rattle.token.specs.Regex.{bytes}
use Rattle.token.specs.Patterns.{Word, word, token, words}
use Rattle.token.specs.Tables.{classes, trie}
use Rattle.token.specs.Automaton.{openings, whole_byte, opened}
use Rattle.token.specs.Run.{class_of}
use Rattle.token.specs.WordNumber.{step, step_by, number_from, number, keyword_in, keyword, kind_in, kind_of}
use Rattle.token.specs.declared.Token.TheVariants as T
use Rattle.token.specs.Scanned.{Scan}
use Rattle.token.proofs.Numbers.{elem}
use Rattle.token.proofs.Every.{every, at}
use Rattle.token.proofs.Classes.{classes_length}

-- ---- words::kind_of

numbers : List Word → List ℕ
numbers [] = []
numbers (word k u ∷ ws) = number u ∷ numbers ws

abbrev pub ends : List ℕ
ends = 146 ∷ 150 ∷ 134 ∷ 135 ∷ 101 ∷ 82 ∷ 124 ∷ 110 ∷ 148 ∷ 138 ∷ 137 ∷ 121 ∷ 144 ∷ 145 ∷ 91 ∷ 92 ∷ 93 ∷ 37 ∷ 5 ∷ 2 ∷ 4 ∷ 131 ∷ 125 ∷ 130 ∷ 71 ∷ 97 ∷ 63 ∷ 81 ∷ 116 ∷ 129 ∷ []

ends_are : numbers words ≡ ends
unfolding numbers words token bytes number number_from step step_by class_of classes trie
ends_are = refl

-- a number that is no keyword's
other : (ws : List Word) (n : ℕ) → elem n (numbers ws) ≡ false → keyword_in ws n ≡ None
unfolding keyword_in numbers
other [] n e = refl
other (word k u ∷ ws) n e = go (eqb n (number u)) refl e (other ws n)
  where
    go : (b : Bool) → eqb n (number u) ≡ b → (b || elem n (numbers ws)) ≡ false → (elem n (numbers ws) ≡ false → keyword_in ws n ≡ None)
        → cond (eqb (number u) n) (Some (word k u)) (keyword_in ws n) ≡ None
    go true f x y = cc x
    go false f x y = rw (ne_eqb (number u) n (λ z. eqb-false n (number u) f (sym z))) (y x)

pub kind_other : (n : ℕ) → elem n ends ≡ false → kind_of n ≡ T.Identifier
unfolding kind_of keyword kind_in
kind_other n e = ap kind_in (other words n (ap (elem n) ends_are ∙ e))

-- ---- scan::mark_of

missed : Scan → Bool
missed None = true
missed (Some (k, n)) = false

missed_eq : (r : Scan) → T (missed r) → r ≡ None
unfolding missed
missed_eq None t = refl
missed_eq (Some (k, n)) t = absurd t

abbrev pub marked : List ℕ
marked = 37 ∷ 39 ∷ 40 ∷ 46 ∷ 47 ∷ 48 ∷ 49 ∷ 50 ∷ 51 ∷ 52 ∷ 53 ∷ 54 ∷ 55 ∷ 56 ∷ 57 ∷ []

unmarked : ℕ → ℕ → Bool
unmarked k x = cond (elem k marked) true (missed (opened k))

unmarked_test : T (every unmarked 0 classes)
unfolding unmarked missed opened whole_byte openings classes
unmarked_test = tt

pub mark_other : (k : ℕ) → k < 256 → elem k marked ≡ false → opened k ≡ None
unfolding unmarked
mark_other k h e = missed_eq (opened k) (rw e at (at unmarked classes 0 unmarked_test k (rw classes_length h)))

-- ---- words::step

small : ℕ → ℕ → Bool
small n x = ltb x 220

small_test : T (every small 0 (take 256 trie))
unfolding small trie
small_test = tt

trie_length : length (take 256 trie) ≡ 256
unfolding trie
trie_length = refl

pub base_small : (n : ℕ) → n < 256 → get_or trie n 0 < 220
unfolding small
base_small n h = rw (get_or-take 256 trie n 0 h) at (ltb→lt (get_or (take 256 trie) n 0) 220 (at small (take 256 trie) 0 small_test n (rw trie_length h)))

pub step_then : (n k : ℕ) → get_or trie (256 + (get_or trie n 0 + k)) 0 ≡ n → get_or trie n 0 + k ≡ step_by n k
unfolding step_by
step_then n k e = rw (eq-eqb _ _ e)

pub step_else : (n k : ℕ) → (get_or trie (256 + (get_or trie n 0 + k)) 0 ≡ n → ⊥) → 0 ≡ step_by n k
unfolding step_by
step_else n k e = rw (ne_eqb _ _ e)
