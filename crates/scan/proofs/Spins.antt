-- The states that a run of bytes leaves as they are.
use mathlib.Core.Path.{◌≡◌}
use mathlib.Core.Logic.{inl, inr}
use mathlib.Core.Bool.{Bool, true, false}
use Prim.Native.Nat.{◌+◌}
use native.Mathlib.Omega.{arith}
use borrow.Author.Tests.{eq-eqb, ne_eqb, lt-ltb}
use Rattle.token.specs.Automaton.{blanks, comment, whole, fraction, exponent_digit, hex_digits, named, in_string, step, stop}
use Rattle.token.proofs.Reach.{Spins}

pub spins_whole : Spins whole 8 60
unfolding step
spins_whole k h (inl l) = rw (lt-ltb k 8 l)
spins_whole k h (inr l) = absurd (omega arith)

pub spins_fraction : Spins fraction 8 60
unfolding step
spins_fraction k h (inl l) = rw (lt-ltb k 8 l)
spins_fraction k h (inr l) = absurd (omega arith)

pub spins_exponent : Spins exponent_digit 8 60
unfolding step
spins_exponent k h (inl l) = rw (lt-ltb k 8 l)
spins_exponent k h (inr l) = absurd (omega arith)

pub spins_hex : Spins hex_digits 16 60
unfolding step
spins_hex k h (inl l) = rw (lt-ltb k 16 l)
spins_hex k h (inr l) = absurd (omega arith)

pub spins_named : Spins named 36 60
unfolding step
spins_named k h (inl l) = rw (lt-ltb k 36 l)
spins_named k h (inr l) = absurd (omega arith)

pub spins_blanks : Spins blanks 0 59
unfolding step
spins_blanks k h (inl l) = absurd (omega arith)
spins_blanks k h (inr l) = let e : k ≡ 59 = omega arith in rw (eq-eqb k 59 e)

pub spins_comment : Spins comment 39 40
unfolding step
spins_comment k h (inl l) = let e : (k ≡ 39) → ⊥ = λ f. omega arith in rw (ne_eqb k 39 e)
spins_comment k h (inr l) = let e : (k ≡ 39) → ⊥ = λ f. omega arith in rw (ne_eqb k 39 e)

pub spins_string : (q : Bool) → Spins (in_string q) (stop q) (stop q + 2)
unfolding step
spins_string true k h (inl l) =
    let e : (k ≡ 41) → ⊥ = λ f. omega arith in
    let g : (k ≡ 42) → ⊥ = λ f. omega arith in
    rw (ne_eqb k 41 e, ne_eqb k 42 g)
spins_string true k h (inr l) =
    let e : (k ≡ 41) → ⊥ = λ f. omega arith in
    let g : (k ≡ 42) → ⊥ = λ f. omega arith in
    rw (ne_eqb k 41 e, ne_eqb k 42 g)
spins_string false k h (inl l) =
    let e : (k ≡ 43) → ⊥ = λ f. omega arith in
    let g : (k ≡ 42) → ⊥ = λ f. omega arith in
    rw (ne_eqb k 43 e, ne_eqb k 42 g)
spins_string false k h (inr l) =
    let e : (k ≡ 43) → ⊥ = λ f. omega arith in
    let g : (k ≡ 42) → ⊥ = λ f. omega arith in
    rw (ne_eqb k 43 e, ne_eqb k 42 g)
