-- The code's tests of the token ahead, and those of the specs by its number.
--     some_ahead, none_ahead, not_ahead    whether one is left
--     by_some, by_none          a test of it
--     record_some, record_none  a record that is chosen by it
--     or_yes, or_no             a test that is either of two
--     ahead_same                whether it is a given one, or none
use mathlib.Core.Path.{◌≡◌, refl, sym, ap, ◌∙◌}
use mathlib.Core.Bool.{Bool, true, false, ◌||◌}
use Prim.Native.Nat.{ℕ}
use lib.Dec.{eqb}
use Rattle.std.specs.Prelude.{Option, Some, None}
use Rattle.token.specs.Code.{code}
use Rattle.token.specs.declared.Token.{Token}
use Rattle.token.proofs.Codes.{kinds}
use Rattle.std.specs.Option.{option_eq}
use Rattle.token.specs.contracts.TokenPartialEq.TheImpl as I
use Rattle.token.specs.declared.Token.TheVariants as T
use Rattle.ast.specs.KindNumber.{number_of, number_or_none}
use Rattle.ast.specs.declared.kind.Kind.{Kind}
use Rattle.parser.proofs.KindLaws.{all, same, holds, agree, code_some, code_below}
use Rattle.steps.specs.Into.{numbered}

pub some_ahead : (a : Option Token) {k : Token} → a ≡ Some k → eqb (numbered a) 255 ≡ false
unfolding numbered
some_ahead a {k} h = rw h (code_some k)

pub none_ahead : (a : Option Token) → a ≡ None → eqb (numbered a) 255 ≡ true
unfolding numbered
none_ahead a h = rw h refl

pub not_ahead : (a : Option Token) → ((k : Token) → a ≡ Some k → ⊥) → eqb (numbered a) 255 ≡ true
unfolding numbered
not_ahead None h = refl
not_ahead (Some k) h = absurd (h k refl)

-- the derived `==` by the numbers: a test over all pairs
tokens_same : (j k : Token) → I.eq-value.it j k ≡ eqb (code j) (code k)
unfolding all same code
tokens_same j =
    agree (λ k. I.eq-value.it j k) (λ k. eqb (code j) (code k))
    (holds (λ i. all (λ k. same (I.eq-value.it i k) (eqb (code i) (code k))) kinds) refl refl j)
    (holds (λ i. same (I.eq-value.it i T.Blank) (eqb (code i) (code T.Blank))) refl refl j)

pub ahead_same : (a b : Option Token) → option_eq I.eq-value.it a b ≡ eqb (numbered a) (numbered b)
unfolding numbered
ahead_same None None = refl
ahead_same None (Some k) = sym (code_below k)
ahead_same (Some k) None = sym (code_some k)
ahead_same (Some j) (Some k) = tokens_same j k

pub or_yes : {a r : Bool} (b : Bool) → r ≡ a → r ≡ true → r ≡ (a || b)
or_yes b e h = h ∙ ap (λ (x : Bool). x || b) (sym h ∙ e)

pub or_no : {a b r s : Bool} → r ≡ a → r ≡ false → s ≡ b → s ≡ (a || b)
or_no {b = b} e h g = g ∙ ap (λ (x : Bool). x || b) (sym h ∙ e)

-- a test of the token ahead is one of its number
pub by_some : (f : ℕ → Bool) {a : Option Token} {k : Token} {r b : Bool} → a ≡ Some k → r ≡ f (code k) → r ≡ b → f (numbered a) ≡ b
unfolding numbered
by_some f h g e = rw (h, ← g, e)

pub by_none : (f : ℕ → Bool) {a : Option Token} {b : Bool} → f 255 ≡ b → ((k : Token) → a ≡ Some k → ⊥) → f (numbered a) ≡ b
unfolding numbered
by_none f {a = None} g h = g
by_none f {a = Some k} g h = absurd (h k refl)

-- a record that is chosen by the token ahead is chosen by its number
module _ (f : ℕ → ℕ) {a : Option Token} {k : Token} {r : Option Kind} (h : a ≡ Some k) (g : number_or_none r ≡ f (code k)) where
  pub record_some : {n : Kind} → r ≡ Some n → number_of n ≡ f (numbered a)
  unfolding numbered number_or_none
  record_some e = rw (h, ← g, e)

  pub record_none : r ≡ None → 0 ≡ f (numbered a)
  unfolding numbered number_or_none
  record_none e = rw (h, ← g, e)
