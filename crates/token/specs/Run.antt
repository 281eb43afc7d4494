-- How many bytes stand before the first of some classes, for the contracts of scan/src.
use Rattle.std.specs.Prelude.{ℕ, suc, Bool, cond, ◌&&◌, List, [], ◌∷◌, leb, ltb, get_or}
use Rattle.token.specs.Tables.{classes}

-- the class of a byte
unfoldable pub class_of : ℕ → ℕ
class_of c = get_or classes c 0

unfoldable pub stops : ℕ → ℕ → ℕ → Bool
stops from to c = leb from (class_of c) && ltb (class_of c) to

-- the bytes before the first whose class is from `from` on and below `to`
unfoldable pub before : ℕ → ℕ → List ℕ → ℕ
before from to [] = 0
before from to (c ∷ w) = cond (stops from to c) 0 (suc (before from to w))
