-- A part of a list that goes on to its end is what is left behind an offset.
use mathlib.Core.Path.{◌≡◌}
use mathlib.Core.List.{List}
use Prim.Native.Nat.{ℕ, ◌-◌}
use native.Mathlib.Omega.{arith}
use lib.ListN.{length, take, drop, length-drop}
use lib.Seq.{take_all}

pub part : (t : List ℕ) (at : ℕ) → take (length t - at) (drop at t) ≡ drop at t
part t at = take_all (length t - at) (drop at t) (omega (arith, length-drop at t))
