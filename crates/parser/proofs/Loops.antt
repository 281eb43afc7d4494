-- One turn of the loop that every list is read by.
use mathlib.Core.Path.{◌≡◌}
use mathlib.Core.Bool.{Bool, true, false}
use Prim.Native.Nat.{ℕ, suc}
use Rattle.parser.specs.Steps.{St, ok, P, bind, test, loop}

module _ {A B : Type 0} (none : B) (some : A → B → B) (end : P Bool) (p : P A) (n : ℕ) (s : St) where
  pub loop_end : (u : St) → end s ≡ ok true u → loop none some end p (suc n) s ≡ ok none u
  unfolding loop bind test
  loop_end u h = rw h

  pub loop_more : (t u v : St) (a : A) (x : B) → end s ≡ ok false t → p t ≡ ok a u → loop none some end p n u ≡ ok x v → loop none some end p (suc n) s ≡ ok (some a x) v
  unfolding loop bind test
  loop_more t u v a x h g k = rw (h, g, k)
