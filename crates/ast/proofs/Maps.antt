-- A function on each of a list.
--     length_maps    the list stays as long
--     maps_append    of two lists one after another, on each of them
use mathlib.Core.Path.{◌≡◌, refl, ap}
use mathlib.Core.List.{List, [], ◌∷◌, ◌++◌}
use Prim.Native.Nat.{suc}
use lib.ListN.{length}
use Rattle.ast.specs.Lists.{maps}

module _ {A B : Type 0} (f : A → B) where
  pub length_maps : (xs : List A) → length (maps f xs) ≡ length xs
  unfolding maps
  length_maps [] = refl
  length_maps (x ∷ xs) = ap suc (length_maps xs)

  pub maps_append : (xs ys : List A) → maps f (xs ++ ys) ≡ maps f xs ++ maps f ys
  unfolding maps
  maps_append [] ys = refl
  maps_append (x ∷ xs) ys = ap (f x ∷◌) (maps_append xs ys)
