-- Kinds of tokens against their numbers, by tests over all 52; `agree`, `alike` and `Tests` are for the tests of the code (SkipLaws of steps, KindTests of parse_values and parse_fields).
--     either              of two tests one holds
--     agree, alike        two functions of a kind that give the same at each of them
--     any_of, none_of, none_left, unlike     a kind that is one of a list, or none, as a `match` says it
--     Tests               a test of a number that says whether a kind is among these, and fails where no token is ahead
use mathlib.Core.Path.{◌≡◌, refl, sym, ◌∙◌}
use mathlib.Core.Bool.{Bool, true, false, not, cond, ◌||◌, ◌&&◌, or-false, false≢true}
use mathlib.Core.List.{List, [], ◌∷◌}
use mathlib.Core.Logic.{◌⊎◌, inl, inr}
use Prim.Native.Nat.{ℕ, zero, suc}
use borrow.Author.Tests.{eqb-true, eq-eqb, ne_eqb}
use lib.Dec.{eqb}
use lib.ListN.{get_or}
use Rattle.token.specs.Code.{code, is, among}
use Rattle.token.specs.declared.Token.{Token}
use Rattle.token.specs.declared.Token.TheVariants as T
use Rattle.token.proofs.Codes.{kinds, kind_at, same_kind}
use Rattle.parser.specs.Steps.{separators}
use Rattle.parser.proofs.Wf.{comment_kinds}

pub either : {X : Type 0} (a b : Bool) → (a || b) ≡ true → (a ≡ true → X) → (b ≡ true → X) → X
either true b h f g = f refl
either false b h f g = g h

-- ---- tests over all kinds

unfoldable pub all : (Token → Bool) → List Token → Bool
all f [] = true
all f (k ∷ ks) = f k && all f ks

both_true : (a b : Bool) → (a && b) ≡ true → (a ≡ true) × (b ≡ true)
both_true true b h = (refl, h)
both_true false b h = absurd (false≢true h)

all_at : (f : Token → Bool) (d : Token) → f d ≡ true → (ks : List Token) (n : ℕ) → all f ks ≡ true → f (get_or ks n d) ≡ true
unfolding all
all_at f d e [] n h = e
all_at f d e (k ∷ ks) zero h = (both_true (f k) (all f ks) h).0
all_at f d e (k ∷ ks) (suc n) h = all_at f d e ks n (both_true (f k) (all f ks) h).1

-- what is true of each kind is true of any
pub holds : (f : Token → Bool) → all f kinds ≡ true → f T.Blank ≡ true → (k : Token) → f k ≡ true
holds f h e k = rw (kind_at k) at (all_at f T.Blank e kinds (code k) h)

unfoldable pub same : Bool → Bool → Bool
same a b = cond a b (not b)

same_true : (a b : Bool) → same a b ≡ true → a ≡ b
unfolding same
same_true true true h = refl
same_true true false h = absurd (false≢true h)
same_true false true h = absurd (false≢true h)
same_true false false h = refl

pub agree : (f g : Token → Bool) → all (λ k. same (f k) (g k)) kinds ≡ true → same (f T.Blank) (g T.Blank) ≡ true → (k : Token) → f k ≡ g k
agree f g h e k = same_true (f k) (g k) (holds (λ k. same (f k) (g k)) h e k)

-- of the kinds of which c is true, the same number
pub alike : (c : Token → Bool) (f g : Token → ℕ) → all (λ k. cond (c k) (eqb (f k) (g k)) true) kinds ≡ true
    → cond (c T.Blank) (eqb (f T.Blank) (g T.Blank)) true ≡ true
    → (k : Token) → c k ≡ true → f k ≡ g k
alike c f g h e k t = eqb-true (f k) (g k) (rw t at (holds (λ k. cond (c k) (eqb (f k) (g k)) true) h e k))

-- a kind that is one of a list, as a `match` says it
abbrev pub AnyOf : Token → List Token → Type 0
AnyOf k [] = ⊥
AnyOf k (j ∷ []) = k ≡ j
AnyOf k (j ∷ (i ∷ ks)) = (k ≡ j) ⊎ AnyOf k (i ∷ ks)

or_also : (a : Bool) {b : Bool} → b ≡ true → (a || b) ≡ true
or_also true h = refl
or_also false h = h

pub any_of : (k : Token) (ks : List Token) → AnyOf k ks → among k ks ≡ true
unfolding among is
any_of k [] h = absurd h
any_of k (j ∷ []) h = rw (h, eq-eqb (code j) (code j) refl)
any_of k (j ∷ (i ∷ ks)) (inl h) = rw (h, eq-eqb (code j) (code j) refl)
any_of k (j ∷ (i ∷ ks)) (inr h) = or_also (eqb (code k) (code j)) (any_of k (i ∷ ks) h)

-- and one that is none of it
pub unlike : {k j : Token} → (k ≡ j → ⊥) → eqb (code k) (code j) ≡ false
unfolding is
unlike {k} {j} h = ne_eqb (code k) (code j) (λ x. h (same_kind k j (eq-eqb (code k) (code j) x)))

pub none_left : (k : Token) → among k [] ≡ false
unfolding among
none_left k = refl

pub none_of : {k j : Token} (ks : List Token) → (k ≡ j → ⊥) → among k ks ≡ false → among k (j ∷ ks) ≡ false
unfolding among is
none_of ks h e = rw (unlike h, e)

pub record Tests (g : ℕ → Bool) (ks : List Token) : Type 0 where
  pub agrees : (k : Token) → g (code k) ≡ among k ks
  pub fails : g 255 ≡ false

pub code_below : (k : Token) → eqb 255 (code k) ≡ false
unfolding all same code
code_below = agree (λ k. eqb 255 (code k)) (λ k. false) refl refl

pub code_some : (k : Token) → eqb (code k) 255 ≡ false
unfolding all same code
code_some = agree (λ k. eqb (code k) 255) (λ k. false) refl refl

pub one_test : (j : Token) → Tests (λ n. eqb n (code j)) (j ∷ [])
unfolding among is
one_test j = record { agrees = λ k. sym (or-false (eqb (code k) (code j))); fails = code_below j }

pub one_kind : (k j : Token) → among k (j ∷ []) ≡ true → k ≡ j
unfolding among
one_kind k j h = same_kind k j (sym (or-false (is k j)) ∙ h)

-- no kind is both a separator's and a comment's
pub apart : (k : Token) → among k comment_kinds ≡ true → among k separators ≡ false
unfolding all same code is among
apart k h =
    let e : (among k separators && among k comment_kinds) ≡ false = agree (λ k. among k separators && among k comment_kinds) (λ k. false) refl refl k in
    go (among k separators) (rw h at e)
  where
    go : (a : Bool) → (a && true) ≡ false → a ≡ false
    go true e = absurd (false≢true (sym e))
    go false e = refl
