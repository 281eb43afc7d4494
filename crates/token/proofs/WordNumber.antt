-- The number behind the bytes of a word tells which keyword they spell, if any.
--     told             after each byte: exactly that keyword, both ways, and the number is below 1,000
--     made             each number is made from the one before it and the byte
--     kind_told        the kind that rico's patterns give the bytes is that of their number
--     step_below       a number leads to a number
--     step_none        where no keyword begins with the bytes so far, none begins with more
--     step_sign        no keyword has a byte that is no letter and no digit, the dot among them
--     from_append      bytes in two parts
--     no_word_first    a text that starts with no letter starts with no keyword
use mathlib.Core.Path.{◌≡◌, refl, sym, ap, ◌∙◌, subst}
use mathlib.Core.Logic.{◌⊎◌, inl, inr, ⊎_elim}
use mathlib.Core.Bool.{Bool, true, false, cond, not}
use mathlib.Core.List.{List, [], ◌∷◌, ◌++◌, append-nil, append_assoc}
use Rattle.std.specs.Prelude.{Option, Some, None}
use Prim.Native.Nat.{ℕ, zero, suc, ◌+◌, ◌<◌, ◌≤◌}
use Prim.Native.String.{String}
use native.Mathlib.Numerals.{add-one}
use native.Mathlib.Omega.{arith}
use borrow.Author.Tests.{eq-eqb, ne_eqb, eqb-true, lt-ltb}
use lib.Dec.{T, eqb, ltb, ltb→lt}
use lib.ListN.{length, get_or, take, get_or-eq_default}
use lib.Seq.{take-suc}
use Rattle.token.specs.Regex.{bytes}
use Rattle.token.specs.Patterns.{Word, word, token, words}
use Rattle.token.specs.Tables.{classes, reps, trie, spellings}
use Rattle.token.specs.Run.{class_of}
use Rattle.token.specs.Code.{code, is}
use Rattle.token.specs.Words.{same, lookup, NoWord}
use Rattle.token.specs.WordNumber.{start, no_keyword, numbers, step_by, step, number_from, number, keyword_in, keyword, kind_in, kind_of, Among, Tells}
use Rattle.token.specs.declared.Token.{Token}
use Rattle.token.specs.declared.Token.TheVariants as T
use Rattle.token.proofs.Truth.{T_true}
use Rattle.token.proofs.Numbers.{lt_or_le, elem}
use Rattle.token.proofs.Codes.{same_kind}
use Rattle.token.proofs.Every.{both, both_left, both_right, every, at}
use Rattle.token.proofs.Classes.{classes_length, reps_length, class_below}
use Rattle.token.proofs.Words.{same_eq}

-- ---- the table, by computed tests

-- what the bytes that lead to a number are; `-` where none do
spelling : ℕ → List ℕ
spelling n = bytes (get_or spellings n "-")

-- classes of no keyword's byte: of several bytes, or (0) of what is no byte
shared : ℕ → Bool
shared k = elem k (0 ∷ 7 ∷ 15 ∷ 35 ∷ 40 ∷ 45 ∷ 58 ∷ 59 ∷ [])

-- a byte of any other class is the representative of that class
alone : ℕ → ℕ → Bool
alone c k = cond (shared k) true (eqb c (get_or reps k 0))

alone_test : T (every alone 0 classes)
unfolding alone shared classes reps
alone_test = tt

-- a number and a class lead nowhere, or to the number of one byte more
cell : ℕ → ℕ → ℕ → Bool
cell n k c =
    let m = step_by n k in
    cond (eqb m 0) true (both (ltb 0 n) (both (ltb k 36) (both (ltb m numbers) (both (not (shared k)) (same (spelling m) (spelling n ++ (c ∷ [])))))))

row : ℕ → String → Bool
row n s = every (cell n) 0 reps

-- THE TEST of the table of numbers
table_test : T (every row 0 spellings)
unfolding row cell shared step_by trie reps spelling spellings bytes same
table_test = tt

spellings_length : length spellings ≡ numbers
unfolding spellings
spellings_length = refl

cell_at : (n k : ℕ) → n < numbers → k < 60 → T (cell n k (get_or reps k 0))
unfolding row
cell_at n k l h = at (cell n) reps 0 (at row spellings "-" table_test n (rw spellings_length l)) k (rw reps_length h)

outside : (c : ℕ) → 256 ≤ c → get_or classes c 0 ≡ 0
outside c h = get_or-eq_default classes 0 {n = c} (rw classes_length h)

class_small : (c : ℕ) → class_of c < 60
unfolding class_of
class_small c = ⊎_elim (λ h. class_below c h) (λ h. rw (outside c h) (omega arith)) (lt_or_le c 256)

not_shared : (c : ℕ) → shared (class_of c) ≡ false → get_or reps (class_of c) 0 ≡ c
unfolding alone class_of shared
not_shared c e = ⊎_elim small large (lt_or_le c 256)
  where
    small : c < 256 → get_or reps (class_of c) 0 ≡ c
    small h = sym (eqb-true c _ (T_true _ (rw e at (at alone classes 0 alone_test c (rw classes_length h)))))

    large : 256 ≤ c → get_or reps (class_of c) 0 ≡ c
    large h = absurd (subst T (sym (ap shared (outside c h)) ∙ e) tt)

-- where a number and a byte lead
data Leads (n c : ℕ) : Type 0 where
  off : step n c ≡ 0 → Leads n c
  on : 0 < n → class_of c < 36 → step n c < numbers → spelling (step n c) ≡ spelling n ++ (c ∷ []) → Leads n c

leads : (n c : ℕ) → n < numbers → Leads n c
unfolding cell step
leads n c l = go (eqb (step_by n (class_of c)) 0) refl (shared (class_of c)) refl (cell_at n (class_of c) l (class_small c))
  where
    k : ℕ
    k = class_of c

    go : (b : Bool) → eqb (step_by n k) 0 ≡ b → (s : Bool) → shared k ≡ s
        → T (cond b true (both (ltb 0 n) (both (ltb k 36) (both (ltb (step_by n k) numbers) (both (not s) (same (spelling (step_by n k)) (spelling n ++ (get_or reps k 0 ∷ []))))))))
        → Leads n c
    go true e s f t = off (eqb-true _ _ e)
    go false e true f t = absurd (both_right (ltb (step_by n k) numbers) false (both_right (ltb k 36) _ (both_right (ltb 0 n) _ t)))
    go false e false f t =
        let t₁ = both_right (ltb 0 n) _ t in
        let t₂ = both_right (ltb k 36) _ t₁ in
        let t₃ = both_right (ltb (step_by n k) numbers) _ t₂ in
        on (ltb→lt _ _ (both_left (ltb 0 n) _ t)) (ltb→lt _ _ (both_left (ltb k 36) _ t₁)) (ltb→lt _ _ (both_left (ltb (step_by n k) numbers) _ t₂))
        (rw (not_shared c f) at (same_eq _ _ (T_true _ t₃)))

-- ---- one byte

pub step_below : (n c : ℕ) → n < numbers → step n c < numbers
step_below n c l = go (leads n c l)
  where
    go : Leads n c → step n c < numbers
    go (off e) = rw e (omega arith)
    go (on p k h s) = h

pub step_none : (c : ℕ) → step no_keyword c ≡ no_keyword
step_none c = go (leads 0 c (omega arith))
  where
    go : Leads 0 c → step 0 c ≡ 0
    go (off e) = e
    go (on p k h s) = absurd (omega arith)

pub step_sign : (n c : ℕ) → n < numbers → 36 ≤ class_of c → step n c ≡ no_keyword
step_sign n c l g = go (leads n c l)
  where
    go : Leads n c → step n c ≡ 0
    go (off e) = e
    go (on p k h s) = absurd (omega arith)

step_spells : (n c : ℕ) → n < numbers → (step n c ≡ 0 → ⊥) → spelling (step n c) ≡ spelling n ++ (c ∷ [])
step_spells n c l z = go (leads n c l)
  where
    go : Leads n c → spelling (step n c) ≡ spelling n ++ (c ∷ [])
    go (off e) = absurd (z e)
    go (on p k h s) = s

-- ---- some bytes

pub from_append : (n : ℕ) (u v : List ℕ) → number_from n (u ++ v) ≡ number_from (number_from n u) v
unfolding number_from
from_append n [] v = refl
from_append n (c ∷ u) v = from_append (step n c) u v

pub from_below : (n : ℕ) (u : List ℕ) → n < numbers → number_from n u < numbers
unfolding number_from
from_below n [] l = l
from_below n (c ∷ u) l = from_below (step n c) u (step_below n c l)

pub from_none : (u : List ℕ) → number_from no_keyword u ≡ no_keyword
unfolding number_from
from_none [] = refl
from_none (c ∷ u) = ap (λ (n : ℕ). number_from n u) (step_none c) ∙ from_none u

from_spells : (n : ℕ) (u : List ℕ) → n < numbers → (number_from n u ≡ 0 → ⊥) → spelling (number_from n u) ≡ spelling n ++ u
unfolding number_from
from_spells n [] l z = sym (append-nil (spelling n))
from_spells n (c ∷ u) l z =
    from_spells (step n c) u (step_below n c l) z
    ∙ ap (λ (w : List ℕ). w ++ u) (step_spells n c l (λ e. z (ap (λ (m : ℕ). number_from m u) e ∙ from_none u)))
    ∙ append_assoc (spelling n) (c ∷ []) u

number_spells : (u : List ℕ) → (number u ≡ 0 → ⊥) → spelling (number u) ≡ u
unfolding number spelling spellings bytes
number_spells u z = from_spells 1 u (omega arith) z

-- ---- the keywords

same_refl : (u : List ℕ) → same u u ≡ true
unfolding same
same_refl [] = refl
same_refl (c ∷ u) = rw (eq-eqb c c refl, same_refl u)

-- bytes have the number of a keyword just where they are its bytes
number_same : (v u : List ℕ) → (number v ≡ 0 → ⊥) → eqb (number v) (number u) ≡ same v u
number_same v u z = go (same v u) refl
  where
    go : (b : Bool) → same v u ≡ b → eqb (number v) (number u) ≡ b
    go true e = eq-eqb _ _ (ap number (same_eq v u e))
    go false e = ne_eqb _ _ (λ f. subst T (sym (same_refl u) ∙ sym (ap (λ (w : List ℕ). same w u) (sym (number_spells v z) ∙ ap spelling f ∙ number_spells u (λ g. z (f ∙ g)))) ∙ e) tt)

-- each keyword has a number
numbered : List Word → Bool
numbered [] = true
numbered (word k v ∷ ws) = both (not (eqb (number v) 0)) (numbered ws)

numbered_test : T (numbered words)
unfolding numbered words token bytes number number_from step step_by class_of classes trie
numbered_test = tt

-- the keyword that some bytes are
spelled_in : List Word → List ℕ → Option Word
spelled_in [] u = None
spelled_in (word k v ∷ ws) u = cond (same v u) (Some (word k v)) (spelled_in ws u)

keyword_spelled : (ws : List Word) (u : List ℕ) → T (numbered ws) → keyword_in ws (number u) ≡ spelled_in ws u
unfolding keyword_in spelled_in numbered
keyword_spelled [] u t = refl
keyword_spelled (word k v ∷ ws) u t =
    rw (number_same v u (λ z. subst (λ (b : Bool). T (not b)) (eq-eqb _ _ z) (both_left (not (eqb (number v) 0)) _ t)), keyword_spelled ws u (both_right (not (eqb (number v) 0)) _ t))

-- no two keywords have the same bytes
found : Option Word → Token → List ℕ → Bool
found None k v = false
found (Some (word q u)) k v = both (is q k) (same u v)

first_found : List Word → Bool
first_found [] = true
first_found (word k v ∷ ws) = both (found (spelled_in words v) k v) (first_found ws)

first_test : T (first_found words)
unfolding first_found found spelled_in words token bytes same is code
first_test = tt

found_eq : (o : Option Word) (k : Token) (v : List ℕ) → T (found o k v) → o ≡ Some (word k v)
unfolding found
found_eq None k v t = absurd t
found_eq (Some (word q u)) k v t =
    cc (same_kind q k (T_true _ (both_left (is q k) _ t)), same_eq u v (T_true _ (both_right (is q k) _ t)))

among_found : (ws : List Word) (k : Token) (v : List ℕ) → T (first_found ws) → Among (word k v) ws → T (found (spelled_in words v) k v)
unfolding Among first_found
among_found [] k v t m = absurd m
among_found (word q u ∷ ws) k v t m =
    ⊎_elim here (λ n. among_found ws k v (both_right (found (spelled_in words u) q u) _ t) n) m
  where
    kind : Word → Token
    kind (word a b) = a

    letters : Word → List ℕ
    letters (word a b) = b

    here : word k v ≡ word q u → T (found (spelled_in words v) k v)
    here e = rw (ap kind e, ap letters e) (both_left (found (spelled_in words u) q u) _ t)

spelled_among : (ws : List Word) (u : List ℕ) (k : Token) (v : List ℕ) → spelled_in ws u ≡ Some (word k v) → Among (word k v) ws × (u ≡ v)
unfolding spelled_in Among
spelled_among [] u k v e = absurd (subst (λ (o : Option Word). T (nobody o)) e tt)
  where
    nobody : Option Word → Bool
    nobody None = true
    nobody (Some x) = false
spelled_among (word q w ∷ ws) u k v e = go (same w u) refl (spelled_among ws u k v) e
  where
    letters : Option Word → List ℕ
    letters None = []
    letters (Some (word a b)) = b

    back : Option Word → Word
    back None = word q w
    back (Some x) = x

    go : (b : Bool) → same w u ≡ b → (spelled_in ws u ≡ Some (word k v) → Among (word k v) ws × (u ≡ v)) → cond b (Some (word q w)) (spelled_in ws u) ≡ Some (word k v)
        → ((word k v ≡ word q w) ⊎ Among (word k v) ws) × (u ≡ v)
    go true e g f = (inl (sym (ap back f)), sym (same_eq w u e) ∙ ap letters f)
    go false e g f = let r = g f in (inr r.0, r.1)

tells : (u : List ℕ) → Tells u
unfolding number keyword
tells u =
    record {
      below = omega (arith, from_below 1 u (omega arith));
      stands = λ k v e. spelled_among words u k v (sym (keyword_spelled words u numbered_test) ∙ e);
      spells = λ k v m e. keyword_spelled words u numbered_test ∙ ap (spelled_in words) e ∙ found_eq _ k v (among_found words k v first_test m);
    }

-- THE THEOREM: after each byte of a word, of any bytes; and each number is made from the one before it and the byte
pub told : (w : List ℕ) (i : ℕ) → Tells (take i w)
told w i = tells (take i w)

pub made : (w : List ℕ) (i : ℕ) → i < length w → number (take (i + 1) w) ≡ step (number (take i w)) (get_or w i 0)
unfolding number number_from
made w i h = rw (add-one, take-suc w i 0 h) (from_append 1 (take i w) (get_or w i 0 ∷ []))

-- ---- the kind

spelled_lookup : (ws : List Word) (u : List ℕ) → kind_in (spelled_in ws u) ≡ lookup ws u T.Identifier
unfolding spelled_in lookup kind_in
spelled_lookup [] u = refl
spelled_lookup (word k v ∷ ws) u = go (same v u) (spelled_lookup ws u)
  where
    go : (b : Bool) → kind_in (spelled_in ws u) ≡ lookup ws u T.Identifier → kind_in (cond b (Some (word k v)) (spelled_in ws u)) ≡ cond b k (lookup ws u T.Identifier)
    go true e = refl
    go false e = e

pub kind_told : (u : List ℕ) → kind_of (number u) ≡ lookup words u T.Identifier
unfolding kind_of keyword
kind_told u = ap kind_in (keyword_spelled words u numbered_test) ∙ spelled_lookup words u

-- ---- texts that start with no keyword

none_lookup : (ws : List Word) (u : List ℕ) (k : Token) → spelled_in ws u ≡ None → lookup ws u k ≡ k
unfolding spelled_in lookup
none_lookup [] u k e = refl
none_lookup (word q v ∷ ws) u k e = go (same v u) (none_lookup ws u k) e
  where
    go : (b : Bool) → (spelled_in ws u ≡ None → lookup ws u k ≡ k) → cond b (Some (word q v)) (spelled_in ws u) ≡ None → cond b q (lookup ws u k) ≡ k
    go true g e = cc e
    go false g e = g e

plain : (u : List ℕ) (k : Token) → keyword (number u) ≡ None → lookup words u k ≡ k
unfolding keyword
plain u k e = none_lookup words u k (sym (keyword_spelled words u numbered_test) ∙ e)

no_keywords : (keyword start ≡ None) × (keyword no_keyword ≡ None)
unfolding keyword keyword_in words token bytes number number_from step step_by class_of classes trie
no_keywords = (refl, refl)

dead_first : (t : List ℕ) → step start (get_or t 0 0) ≡ no_keyword → NoWord t
unfolding number number_from
dead_first t e = record { plain = λ k n. plain (take n t) k (go t n e) }
  where
    go : (t : List ℕ) (n : ℕ) → step start (get_or t 0 0) ≡ no_keyword → keyword (number (take n t)) ≡ None
    go t zero e = no_keywords.0
    go [] (suc n) e = no_keywords.0
    go (c ∷ t) (suc n) e = ap keyword (ap (λ (m : ℕ). number_from m (take n t)) e ∙ from_none (take n t)) ∙ no_keywords.1

digit : ℕ → ℕ → Bool
digit k c = cond (ltb k 8) (eqb (step_by start k) 0) true

digit_test : T (every digit 0 reps)
unfolding digit step_by trie reps
digit_test = tt

pub no_word_first : (t : List ℕ) → (class_of (get_or t 0 0) < 8 → NoWord t) × (36 ≤ class_of (get_or t 0 0) → NoWord t)
unfolding digit step
no_word_first t = (
  λ l. dead_first t (eqb-true _ _ (T_true _ (rw (lt-ltb _ _ l) at (at digit reps 0 digit_test (class_of (get_or t 0 0)) (rw reps_length (class_small (get_or t 0 0))))))),
  λ l. dead_first t (step_sign start (get_or t 0 0) (omega arith) l),
)
