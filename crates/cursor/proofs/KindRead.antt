-- The kind that a writer reads, beside the number in its table.
--     kind_is, kind_not      a kind that was read, and one that was not
--     kind_arm, kind_past    an arm of a match over it, and an arm that was passed
use mathlib.Core.Path.{◌≡◌, sym, ap, ◌∙◌}
use Prim.Native.Nat.{ℕ}
use Rattle.std.specs.Prelude.{Option, Some}
use Rattle.ast.specs.KindNumber.{number_of, kind_of}
use Rattle.ast.specs.declared.kind.Kind.{Kind}
use Rattle.ast.proofs.KindLaws.{kind_number, number_kind}

module _ (n : ℕ) (k : Kind) {r : Option Kind} (e : r ≡ kind_of n) where
  pub kind_is : r ≡ Some k → n ≡ number_of k
  kind_is h = number_kind n k (sym e ∙ h)

  pub kind_arm : {j : Kind} → r ≡ Some j → j ≡ k → n ≡ number_of k
  kind_arm h f = kind_is (h ∙ ap Some f)

  pub kind_not : (r ≡ Some k → ⊥) → n ≡ number_of k → ⊥
  kind_not f h = f (e ∙ ap kind_of h ∙ kind_number k)

-- the arm of a kind that none of the arms before it took
pub kind_past : (n : ℕ) (k : Kind) {j : Kind} {r : Option Kind} → r ≡ kind_of n → r ≡ Some j → (j ≡ k → ⊥) → n ≡ number_of k → ⊥
kind_past n k e h f = kind_not n k e (λ g. f (cc (g, h)))
