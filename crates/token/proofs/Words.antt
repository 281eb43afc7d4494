-- The words need no states of their own: `scan` is the longest match of the other rules, an identifier that is a word renamed.
use mathlib.Core.Path.{◌≡◌, refl, sym, ap, ◌∙◌}
use mathlib.Core.Logic.{◌⊎◌, inl, inr, ⊎_elim}
use mathlib.Core.Bool.{Bool, true, false, cond, ◌&&◌, ◌||◌}
use mathlib.Core.List.{List, [], ◌∷◌, map, ◌++◌, append_assoc}
use Rattle.std.specs.Prelude.{Option, Some, None}
use Prim.Native.Nat.{ℕ, suc}
use native.Mathlib.Omega.{arith}
use Rattle.token.proofs.Truth.{T_true}
use borrow.Author.Tests.{le-leb, lt-leb, eqb-true, eqb-false, leb-true}
use lib.Dec.{T, leb, eqb}
use lib.ListN.{length, take, length-append}
use lib.Seq.{take-append_seam}
use Rattle.token.specs.Regex.{Range, Regex, nothing, empty, bytes, ranges, within, nullable, is_nothing, then, or, deriv}
use Rattle.token.specs.Patterns.{
  Rule,
  rule,
  Word,
  word,
  one_of,
  none_of,
  plus,
  opt,
  exact,
  word_rule,
  token,
  words,
  marks,
  name,
  quoted,
  digits,
  sign,
  exponent,
  point,
  stars,
  shapes,
  rest,
  rules,
}
use Rattle.token.specs.Scan.{derivs, first, keep, scan_from, scan}
use Rattle.token.specs.Code.{code, is}
use Rattle.token.specs.Words.{same, lookup, rename, NoWord}
use Rattle.token.specs.declared.Token.{Token}
use Rattle.token.specs.declared.Token.TheVariants as T
use Rattle.token.specs.Scanned.{Scan}
use Rattle.token.proofs.Every.{both, both_left, both_right}
use Rattle.token.specs.Automaton.{after, longest}

derivs_append : (c : ℕ) (rs qs : List Rule) → derivs c (rs ++ qs) ≡ derivs c rs ++ derivs c qs
unfolding derivs
derivs_append c [] qs = refl
derivs_append c (rule k r ∷ rs) qs = rw (derivs_append c rs qs) (go (is_nothing (deriv c r)))
  where
    go : (b : Bool) → cond b (derivs c rs ++ derivs c qs) (rule k (deriv c r) ∷ (derivs c rs ++ derivs c qs)) ≡ cond b (derivs c rs) (rule k (deriv c r) ∷ derivs c rs) ++ derivs c qs
    go true = refl
    go false = refl

after_append : (u : List ℕ) (rs qs : List Rule) → after (rs ++ qs) u ≡ after rs u ++ after qs u
unfolding after
after_append [] rs qs = refl
after_append (c ∷ u) rs qs = rw (derivs_append c rs qs) (after_append u (derivs c rs) (derivs c qs))

after_nil : (u : List ℕ) → after [] u ≡ []
unfolding after derivs
after_nil [] = refl
after_nil (c ∷ u) = after_nil u

pub after_snoc : (u : List ℕ) (rs : List Rule) (c : ℕ) → after rs (u ++ (c ∷ [])) ≡ derivs c (after rs u)
unfolding after
after_snoc [] rs c = refl
after_snoc (a ∷ u) rs c = after_snoc u (derivs a rs) c

only : (a c : ℕ) → within c (Range.to a a ∷ []) ≡ eqb a c
unfolding within
only a c = pick (eqb a c) refl
  where
    least : (b : Bool) → leb a c ≡ b → eqb a c ≡ false → (leb a c && leb c a || false) ≡ false
    least true e f = rw (e, lt-leb c a (omega (arith, leb-true a c e, eqb-false a c f)))
    least false e f = rw e

    pick : (b : Bool) → eqb a c ≡ b → (leb a c && leb c a || false) ≡ b
    pick true e = rw (le-leb a c (omega (arith, eqb-true a c e)), le-leb c a (omega (arith, eqb-true a c e)))
    pick false e = least (leb a c) refl e

exact_some : (v : List ℕ) → is_nothing (exact v) ≡ false
unfolding exact is_nothing then
exact_some [] = refl
exact_some (a ∷ v) = refl

derivs_exact : (c : ℕ) (k : Token) (a : ℕ) (v : List ℕ) → derivs c (rule k (exact (a ∷ v)) ∷ []) ≡ cond (eqb a c) (rule k (exact v) ∷ []) []
unfolding derivs exact deriv nullable then or is_nothing
derivs_exact c k a v = rw (only a c) (go (eqb a c))
  where
    one : Token → Regex → List Rule
    one k d = cond (is_nothing d) [] (rule k d ∷ [])

    go : (b : Bool) → one k (or (then (cond b empty nothing) (exact v)) nothing) ≡ cond b (rule k (exact v) ∷ []) []
    go true = rw (exact_some v, exact_some v)
    go false = refl

first_exact : (k : Token) (u v : List ℕ) (qs : List Rule) → first (after (rule k (exact v) ∷ []) u ++ qs) ≡ cond (same v u) (Some k) (first qs)
unfolding after first same exact nullable derivs deriv is_nothing then
first_exact k [] [] qs = refl
first_exact k [] (a ∷ v) qs = refl
first_exact k (c ∷ u) [] qs = rw (after_nil u)
first_exact k (c ∷ u) (a ∷ v) qs = rw (derivs_exact c k a v) (go (eqb a c) (first_exact k u v qs))
  where
    go : (b : Bool) → first (after (rule k (exact v) ∷ []) u ++ qs) ≡ cond (same v u) (Some k) (first qs)
        → first (after (cond b (rule k (exact v) ∷ []) []) u ++ qs) ≡ cond (b && same v u) (Some k) (first qs)
    go true e = e
    go false e = rw (after_nil u)

-- the kind of the word u, o if it is none of ws
try : List Word → List ℕ → Option Token → Option Token
try [] u o = o
try (word q v ∷ ws) u o = cond (same v u) (Some q) (try ws u o)

first_words : (ws : List Word) (u : List ℕ) (qs : List Rule) → first (after (map word_rule ws) u ++ qs) ≡ try ws u (first qs)
unfolding try word_rule
first_words [] u qs = rw (after_nil u)
first_words (word k v ∷ ws) u qs =
    rw (after_append u (rule k (exact v) ∷ []) (map word_rule ws), append_assoc, first_exact k u v (after (map word_rule ws) u ++ qs), first_words ws u qs)

pub same_eq : (u v : List ℕ) → same u v ≡ true → u ≡ v
unfolding same
same_eq [] [] e = refl
same_eq [] (b ∷ v) e = cc
same_eq (a ∷ u) [] e = cc
same_eq (a ∷ u) (b ∷ v) e = go (eqb a b) refl (same_eq u v) e
  where
    go : (p : Bool) → eqb a b ≡ p → (same u v ≡ true → u ≡ v) → (p && same u v) ≡ true → (a ∷ u) ≡ (b ∷ v)
    go true f ih h = cc (eqb-true a b f, ih h)
    go false f ih h = cc

-- each word is an identifier by the other rules
identifier : Option Token → Bool
identifier None = false
identifier (Some k) = is k T.Identifier

all_named : List Word → Bool
all_named [] = true
all_named (word q v ∷ ws) = both (identifier (first (after rest v))) (all_named ws)

named_words : T (all_named words)
unfolding bytes ranges within nullable is_nothing then or deriv one_of none_of plus opt exact word_rule token marks name quoted digits sign exponent point stars shapes rest derivs after words all_named first identifier is code
named_words = tt

-- u is no word, or is one and matches the identifier's rule
Known : List Word → List ℕ → Type 0
Known ws u =
    (((o : Option Token) → try ws u o ≡ o) × ((k : Token) → lookup ws u k ≡ k))
    ⊎ (T (identifier (first (after rest u))) × ((o : Option Token) (k : Token) → try ws u o ≡ Some (lookup ws u k)))

known : (ws : List Word) (u : List ℕ) → T (all_named ws) → Known ws u
unfolding lookup try all_named Known
known [] u t = inl (λ o. refl, λ k. refl)
known (word q v ∷ ws) u t = go (same v u) refl (known ws u (both_right (identifier (first (after rest v))) _ t))
  where
    go : (b : Bool) → same v u ≡ b → Known ws u
        → (((o : Option Token) → cond b (Some q) (try ws u o) ≡ o) × ((k : Token) → cond b q (lookup ws u k) ≡ k))
        ⊎ (T (identifier (first (after rest u))) × ((o : Option Token) (k : Token) → cond b (Some q) (try ws u o) ≡ Some (cond b q (lookup ws u k))))
    go false e h = h
    go true e h = inr (rw (← same_eq v u e) (both_left (identifier (first (after rest v))) (all_named ws) t), λ o k. refl)

kept : (t u : List ℕ) (n : ℕ) (o : Option Token) (b : Scan) → take n t ≡ u → o ≡ first (after rest u)
    → keep (try words u o) n (rename t b) ≡ rename t (keep o n b)
unfolding keep rename Known identifier
kept t u n o b e f = ⊎_elim plain other (known words u named_words)
  where
    idem : (q : Bool) (k : Token) → ◌≡◌ {A = Scan} (Some (k, n)) (Some (cond q k k, n))
    idem true k = refl
    idem false k = refl

    pick : (o : Option Token) → ((k : Token) → lookup words u k ≡ k) → keep o n (rename t b) ≡ rename t (keep o n b)
    pick None h = refl
    pick (Some k) h = rw (e, h k) (idem (is k T.Identifier) k)

    plain : ((o : Option Token) → try words u o ≡ o) × ((k : Token) → lookup words u k ≡ k) → keep (try words u o) n (rename t b) ≡ rename t (keep o n b)
    plain h = rw (h.0 o) (pick o h.1)

    found : (o : Option Token) → T (identifier o) → ((p : Option Token) (k : Token) → try words u p ≡ Some (lookup words u k)) → keep (try words u o) n (rename t b) ≡ rename t (keep o n b)
    found None i h = absurd i
    found (Some k) i h = rw (h (Some k) k, T_true (is k T.Identifier) i, e)

    other : T (identifier (first (after rest u))) × ((p : Option Token) (k : Token) → try words u p ≡ Some (lookup words u k)) → keep (try words u o) n (rename t b) ≡ rename t (keep o n b)
    other h = found o (rw f h.0) h.1

first_rules : (u : List ℕ) → first (after rules u) ≡ try words u (first (after rest u))
unfolding rules
first_rules u = rw (after_append u (map word_rule words) rest) (first_words words u (after rest u))

pub length_snoc : (u : List ℕ) (c : ℕ) → length (u ++ (c ∷ [])) ≡ suc (length u)
length_snoc u c = length-append u (c ∷ []) ∙ omega arith

words_from : (w u t : List ℕ) (b : Scan) → t ≡ u ++ w
    → scan_from (after rules u) (length u) (rename t b) w ≡ rename t (scan_from (after rest u) (length u) b w)
unfolding scan_from
words_from [] u t b e = refl
words_from (c ∷ w) u t b e =
    let v : List ℕ = u ++ (c ∷ []) in
    let f : t ≡ v ++ w = e ∙ sym (append_assoc u (c ∷ []) w) in
    let g : take (suc (length u)) t ≡ v = rw (f, ← length_snoc u c) (take-append_seam v w) in
    let k : Option Token = first (after rest v) in
    let i : scan_from (after rules v) (length v) (rename t (keep k (suc (length u)) b)) w ≡ rename t (scan_from (after rest v) (length v) (keep k (suc (length u)) b) w)
    = words_from w v t (keep k (suc (length u)) b) f in
    rw (← after_snoc u rules c, ← after_snoc u rest c, first_rules v, kept t v (suc (length u)) k b g refl) (rw (length_snoc u c) at i)

pub scan_words : (t : List ℕ) → scan t ≡ rename t (longest t)
unfolding scan longest after rename
scan_words t = words_from t [] t None refl

-- a text that starts with no word is scanned as it is
pub scan_plain : (t : List ℕ) (b : Scan) → NoWord t → longest t ≡ b → scan t ≡ b
unfolding rename
scan_plain t b h e = scan_words t ∙ ap (rename t) e ∙ go b
  where
    idem : (q : Bool) (k : Token) → cond q k k ≡ k
    idem true k = refl
    idem false k = refl

    go : (b : Scan) → rename t b ≡ b
    go None = refl
    go (Some (k, n)) = rw (h.plain k n) (ap (λ (x : Token). Some (x, n)) (idem (is k T.Identifier) k))

-- an identifier is a keyword if its bytes are
pub scan_word : (t : List ℕ) (n : ℕ) → longest t ≡ Some (T.Identifier, n) → scan t ≡ Some (lookup words (take n t) T.Identifier, n)
unfolding rename is code
scan_word t n e = scan_words t ∙ rw e
