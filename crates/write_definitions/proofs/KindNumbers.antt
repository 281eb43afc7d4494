-- The number of a kind that was read, and what is written of a number that no kind has.
--     number_not, number_some                 two kinds have two numbers, and none has 0
--     keyword_else, line_else, block_else     what is written for any other number
--     keyword_read, line_read, block_read     a number, by the kind that was read for it
use mathlib.Core.Path.{◌≡◌, refl, sym, ap, ◌∙◌}
use mathlib.Core.Bool.{Bool, true, false}
use mathlib.Core.List.{List}
use Prim.Native.Nat.{ℕ, ◌<◌, ◌≤◌}
use native.Mathlib.Omega.{arith}
use lib.Dec.{T, eqb, ltb, eqb→eq}
use borrow.Author.Tests.{ltb-true, ltb-false, le-ltb, ne_eqb}
use Rattle.std.specs.Prelude.{Option, None}
use Rattle.token.proofs.Every.{every, at}
use Rattle.ast.specs.KindNumber.{number_of, kinds, kind_of}
use Rattle.ast.specs.declared.kind.Kind.{Kind}
use Rattle.ast.proofs.KindLaws.{kind_none, kind_number}
use Rattle.cursor.specs.declared.Cursor.{Cursor}
use Rattle.cursor.specs.Onto.{Reached, then, say_out, token_out}
use Rattle.write_fields.specs.Onto.{typed_name_out}
use Rattle.write_definitions.specs.Onto.{number, keyword_out, line_out, body_out, block_out}

pub number_not : (k j : Kind) → (k ≡ j → ⊥) → number_of k ≡ number_of j → ⊥
number_not k j f e = f (cc (kind_number k, kind_number j, ap kind_of e))

pub number_some : (k : Kind) → number_of k ≡ 0 → ⊥
number_some k e = cc (kind_number k, ap kind_of e, kind_none 0 (λ h. absurd (omega arith)))

-- a kind of the list has the number of its place
placed : ℕ → Option Kind → Bool
unfolding number
placed i k = eqb (number k) i

all_placed : T (every placed 0 kinds)
unfolding placed kinds number
all_placed = tt

number_read : (k : ℕ) → k < 34 → number (kind_of k) ≡ k
unfolding placed kinds kind_of
number_read k h = eqb→eq _ _ (at placed kinds None all_placed k h)

number_none : (k : ℕ) → 34 ≤ k → number (kind_of k) ≡ 0
unfolding number
number_none k h = ap number (kind_none k (λ p. h))

-- by whether a kind has the number
by_read : (F : ℕ → Reached) (k : ℕ) → (34 ≤ k → F k ≡ F 0) → F (number (kind_of k)) ≡ F k
by_read F k else = go (ltb k 34) refl
  where
    go : (b : Bool) → ltb k 34 ≡ b → F (number (kind_of k)) ≡ F k
    go true h = ap F (number_read k (ltb-true k 34 h))
    go false h = let l : 34 ≤ k = ltb-false k 34 h in ap F (number_none k l) ∙ sym (else l)

pub keyword_else : (k : ℕ) → (0 < k → 9 < k) → (p : Cursor) (o : List ℕ) → keyword_out k p o ≡ say_out "service " p o
unfolding keyword_out
keyword_else k h p o =
    rw (
      ne_eqb k 1 (λ e. omega (arith, e, h)),
      ne_eqb k 2 (λ e. omega (arith, e, h)),
      ne_eqb k 3 (λ e. omega (arith, e, h)),
      ne_eqb k 4 (λ e. omega (arith, e, h)),
      ne_eqb k 5 (λ e. omega (arith, e, h)),
      ne_eqb k 6 (λ e. omega (arith, e, h)),
      ne_eqb k 7 (λ e. omega (arith, e, h)),
      ne_eqb k 8 (λ e. omega (arith, e, h)),
      ne_eqb k 9 (λ e. omega (arith, e, h)),
    )

pub keyword_read : (k : ℕ) (p : Cursor) (o : List ℕ) → keyword_out (number (kind_of k)) p o ≡ keyword_out k p o
unfolding keyword_out
keyword_read k p o = by_read (λ n. keyword_out n p o) k (λ h. keyword_else k (λ l. omega (arith, h)) p o)

module _ (text nodes : List ℕ) (count k : ℕ) (p : Cursor) (o : List ℕ) where
  pub line_else : 4 < k → line_out text nodes count k p o ≡ then (typed_name_out text nodes count p o) (say_out "\n")
  unfolding line_out
  line_else h = rw (le-ltb k 3 (omega (arith, h)), ne_eqb k 3 (λ e. omega (arith, e, h)), ne_eqb k 4 (λ e. omega (arith, e, h)))

  pub line_read : k < 6 → line_out text nodes count (number (kind_of k)) p o ≡ line_out text nodes count k p o
  line_read h = ap (λ (n : ℕ). line_out text nodes count n p o) (number_read k (omega (arith, h)))

module _ (text nodes : List ℕ) (count : ℕ) (comments : List ℕ) (total indent k : ℕ) (p : Cursor) (o : List ℕ) where
  pub block_else : (k ≡ 6 → ⊥) → (k ≡ 10 → ⊥) → block_out text nodes count comments total indent k p o ≡
      then (token_out text nodes p o) (body_out text nodes count comments total indent 12)
  unfolding block_out
  block_else f g = rw (ne_eqb k 6 f, ne_eqb k 10 g)

  pub block_read : block_out text nodes count comments total indent (number (kind_of k)) p o ≡ block_out text nodes count comments total indent k p o
  unfolding block_out
  block_read =
      by_read (λ n. block_out text nodes count comments total indent n p o) k (λ h. block_else (λ e. omega (arith, e, h)) (λ e. omega (arith, e, h)))
