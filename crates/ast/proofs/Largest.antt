-- One more of a count, as the library adds.
use mathlib.Core.Path.{◌≡◌, refl}
use mathlib.Core.Bool.{Bool, true, false, cond}
use Prim.Native.Nat.{ℕ, ◌+◌, ◌≤◌, min}
use native.Mathlib.Omega.{arith}
use borrow.Author.Tests.{ltb-true, ltb-false}
use lib.Dec.{ltb}
use Rattle.ast.specs.Largest.{bump}

pub bump_least : (n : ℕ) → n ≤ 4294967295 → bump n ≡ min (n + 1) 4294967295
unfolding bump
bump_least n h = go (ltb n 4294967295) refl
  where
    go : (b : Bool) → ltb n 4294967295 ≡ b → cond b (n + 1) n ≡ min (n + 1) 4294967295
    go true e = omega (arith, ltb-true n 4294967295 e)
    go false e = omega (arith, ltb-false n 4294967295 e)
