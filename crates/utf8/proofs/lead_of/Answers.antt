-- `utf8::lead_of` meets its contract: each arm is a row of `sequences`, the last one the bytes that are in none.
use mathlib.Core.Path.{◌≡◌, refl, ◌∙◌}
use mathlib.Core.List.{[], ◌∷◌}
use Prim.Native.Nat.{ℕ, ◌≤◌}
use native.Mathlib.Omega.{arith}
use borrow.Author.Tests.{le-leb, lt-leb}
use Rattle.utf8.specs.Utf8.{tail, sequences}
use Rattle.utf8.proofs.Utf8Laws.{never, rest_of, below, rest_from, width_rest, none_starts}
use Rattle.utf8.proofs.lead_of.Goals as goal

-- the arms that are ranges
module _ (c : ℕ) where
  row-c2 : 0xc2 ≤ c → c ≤ 0xdf → rest_of sequences c ≡ tail ∷ []
  unfolding rest_of below sequences
  row-c2 l h = rest_from 1 0xc2 c refl l ∙ rw (le-leb c 0xdf h, le-leb 0xc2 c l)

  row-e1 : 0xe1 ≤ c → c ≤ 0xec → rest_of sequences c ≡ tail ∷ tail ∷ []
  unfolding rest_of below sequences
  row-e1 l h = rest_from 3 0xe1 c refl l ∙ rw (le-leb c 0xec h, le-leb 0xe1 c l)

  row-ee : 0xee ≤ c → c ≤ 0xef → rest_of sequences c ≡ tail ∷ tail ∷ []
  unfolding rest_of below sequences
  row-ee l h = rest_from 5 0xee c refl l ∙ rw (le-leb c 0xef h, le-leb 0xee c l)

  row-f1 : 0xf1 ≤ c → c ≤ 0xf3 → rest_of sequences c ≡ tail ∷ tail ∷ tail ∷ []
  unfolding rest_of below sequences
  row-f1 l h = rest_from 7 0xf1 c refl l ∙ rw (le-leb c 0xf3 h, le-leb 0xf1 c l)

  -- no first byte
  row-80 : 0x80 ≤ c → c ≤ 0xc1 → rest_of sequences c ≡ never
  unfolding rest_of below sequences
  row-80 l h = rest_from 1 0x80 c refl l ∙ rw (le-leb c 0xdf (omega arith), lt-leb 0xc2 c (omega arith))

  row-f5 : 0xf5 ≤ c → rest_of sequences c ≡ never
  unfolding rest_of below sequences
  row-f5 l = rest_from 9 0xf5 c refl l

pub returns-in-224 : goal.returns-in-224
unfolding rest_of sequences
returns-in-224 c = (omega arith, λ w. width_rest _ w _ (rw c.in-224.is))

pub returns-in-237 : goal.returns-in-237
unfolding rest_of sequences
returns-in-237 c = (omega arith, λ w. width_rest _ w _ (rw c.in-237.is))

pub returns-in-240 : goal.returns-in-240
unfolding rest_of sequences
returns-in-240 c = (omega arith, λ w. width_rest _ w _ (rw c.in-240.is))

pub returns-in-244 : goal.returns-in-244
unfolding rest_of sequences
returns-in-244 c = (omega arith, λ w. width_rest _ w _ (rw c.in-244.is))

pub returns-in-194-to-223 : goal.returns-in-194-to-223
unfolding tail
returns-in-194-to-223 c = (omega arith, λ w. width_rest _ w _ (row-c2 _ (omega arith) (omega arith)))

pub returns-in-225-to-236 : goal.returns-in-225-to-236
unfolding tail
returns-in-225-to-236 c = (omega arith, λ w. width_rest _ w _ (row-e1 _ (omega arith) (omega arith)))

pub returns-in-238-to-239 : goal.returns-in-238-to-239
unfolding tail
returns-in-238-to-239 c = (omega arith, λ w. width_rest _ w _ (row-ee _ (omega arith) (omega arith)))

pub returns-in-241-to-243 : goal.returns-in-241-to-243
unfolding tail
returns-in-241-to-243 c = (omega arith, λ w. width_rest _ w _ (row-f1 _ (omega arith) (omega arith)))

pub returns-in_default : goal.returns-in_default
returns-in_default c w = none_starts _ w (row-80 _ (omega arith) (omega arith))

pub returns-in_default-2 : goal.returns-in_default-2
returns-in_default-2 c w = none_starts _ w (row-f5 _ (omega arith))
