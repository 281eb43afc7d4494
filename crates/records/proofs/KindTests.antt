-- The code's tests of a record's kind, and those of the specs by its number.
--     kind_yes, kind_no
use mathlib.Core.Path.{◌≡◌, ap, ◌∙◌}
use mathlib.Core.Bool.{true, false}
use Prim.Native.Nat.{ℕ}
use borrow.Author.Tests.{eq-eqb, ne_eqb}
use lib.Dec.{eqb}
use Rattle.std.specs.Prelude.{Some}
use Rattle.ast.specs.KindNumber.{number_of, kind_of}
use Rattle.ast.specs.declared.kind.Kind.{Kind}
use Rattle.ast.proofs.KindLaws.{kind_number, number_kind}

module _ (n : ℕ) (k : Kind) where
  pub kind_yes : kind_of n ≡ Some k → eqb n (number_of k) ≡ true
  kind_yes h = eq-eqb n (number_of k) (number_kind n k h)

  pub kind_no : (kind_of n ≡ Some k → ⊥) → eqb n (number_of k) ≡ false
  kind_no h = ne_eqb n (number_of k) (λ e. h (ap kind_of e ∙ kind_number k))
