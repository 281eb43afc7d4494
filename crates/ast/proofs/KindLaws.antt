-- Kinds and their numbers.
--     kind_number   a kind is the one at its number
--     number_kind   and at no other
--     kind_none     past the last there is none
--     number_some, number_unlike   no kind has the number 0; different ones have different ones
use mathlib.Core.Path.{◌≡◌, refl, sym, ap, ◌∙◌}
use mathlib.Core.Bool.{Bool, true, false}
use Prim.Native.Nat.{ℕ, zero, suc, ◌<◌, ◌≤◌}
use native.Mathlib.Omega.{arith}
use lib.Dec.{T, eqb, ltb, eqb→eq}
use borrow.Author.Tests.{ltb-true, ltb-false, ne_eqb}
use Rattle.std.specs.Prelude.{Option, None, Some, length, get_or, List, [], ◌∷◌}
use Rattle.token.proofs.Every.{every, at}
use Rattle.ast.specs.KindNumber.{number_of, kinds, kind_of}
use Rattle.ast.specs.declared.kind.Kind.{Kind}
use Rattle.ast.specs.declared.kind.Kind.TheVariants as V

-- a kind of the list stands at its number
stands : ℕ → Option Kind → Bool
stands i None = true
stands i (Some k) = eqb (number_of k) i

all_stand : T (every stands 0 kinds)
unfolding stands kinds
all_stand = tt

past : {A : Type 0} (xs : List A) (d : A) (n : ℕ) → length xs ≤ n → get_or xs n d ≡ d
past [] d n h = refl
past (x ∷ xs) d zero h = absurd (omega arith)
past (x ∷ xs) d (suc n) h = past xs d n (omega arith)

pub kind_none : (n : ℕ) → (0 < n → 34 ≤ n) → kind_of n ≡ None
unfolding kinds kind_of
kind_none zero h = refl
kind_none (suc n) h = past kinds None (suc n) (h (omega arith))

pub kind_number : (k : Kind) → kind_of (number_of k) ≡ Some k
unfolding kinds kind_of
kind_number V.Include = refl
kind_number V.CppInclude = refl
kind_number V.Namespace = refl
kind_number V.Const = refl
kind_number V.Typedef = refl
kind_number V.Enum = refl
kind_number V.Struct = refl
kind_number V.Union = refl
kind_number V.Exception = refl
kind_number V.Service = refl
kind_number V.Function = refl
kind_number V.Field = refl
kind_number V.EnumMember = refl
kind_number V.Annotations = refl
kind_number V.Annotation = refl
kind_number V.Name = refl
kind_number V.FieldId = refl
kind_number V.KeywordType = refl
kind_number V.NamedType = refl
kind_number V.List = refl
kind_number V.Set = refl
kind_number V.Map = refl
kind_number V.String = refl
kind_number V.Integer = refl
kind_number V.Double = refl
kind_number V.Boolean = refl
kind_number V.Hex = refl
kind_number V.NameValue = refl
kind_number V.ListValue = refl
kind_number V.MapValue = refl
kind_number V.Property = refl
kind_number V.LineComment = refl
kind_number V.BlockComment = refl

kinds_end : (n : ℕ) → 34 ≤ n → kind_of n ≡ None
kinds_end n h = kind_none n (λ p. h)

here : (n : ℕ) (k : Kind) → n < 34 → kind_of n ≡ Some k → n ≡ number_of k
unfolding stands kind_of kinds
here n k h e = sym (eqb→eq _ _ (rw e at (at stands kinds None all_stand n h)))

pub number_kind : (n : ℕ) (k : Kind) → kind_of n ≡ Some k → n ≡ number_of k
number_kind n k e = go (ltb n 34) refl
  where
    go : (b : Bool) → ltb n 34 ≡ b → n ≡ number_of k
    go true f = here n k (ltb-true n 34 f) e
    go false f = let g : kind_of n ≡ None = kinds_end n (ltb-false n 34 f) in cc

-- no kind has the number 0
pub number_some : (k : Kind) → eqb (number_of k) 0 ≡ false
number_some k =
    ne_eqb (number_of k) 0 λ e.
    let z : kind_of (number_of k) ≡ Some k = kind_number k in
    let n : kind_of (number_of k) ≡ None = ap kind_of e ∙ kind_none 0 (λ h. absurd (omega (arith, h))) in
    cc

-- and different kinds have different ones
pub number_unlike : (k j : Kind) → (k ≡ j → ⊥) → eqb (number_of k) (number_of j) ≡ false
number_unlike k j h =
    ne_eqb (number_of k) (number_of j) λ e.
    h
    (let z : Some k ≡ Some j = sym (kind_number k) ∙ ap kind_of e ∙ kind_number j in
    cc)
