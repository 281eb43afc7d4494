-- Regular expressions over bytes, and what is left of one behind a byte (its derivative).
-- `Match` has what matching means in the textbook's words, and `proofs/Matching` that the two agree.
use Rattle.std.specs.Prelude.{ℕ, Bool, true, false, cond, ◌&&◌, ◌||◌, List, [], ◌∷◌, leb}
use Prim.Native.Char.{code}
use Prim.Native.String.{String}

-- the bytes of an ASCII string
unfoldable pub bytes : String → List ℕ
bytes String.[] = []
bytes (String.◌∷◌ c s) = code c ∷ bytes s

pub data Range : Type 0 where
  to : ℕ → ℕ → Range

-- "azAZ__" is a-zA-Z_: two characters for each range
unfoldable pub ranges : List ℕ → List Range
ranges [] = []
ranges (a ∷ []) = []
ranges (a ∷ b ∷ s) = to a b ∷ ranges s

unfoldable pub within : ℕ → List Range → Bool
within c [] = false
within c (to a b ∷ rs) = leb a c && leb c b || within c rs

pub data Regex : Type 0 where
  nothing : Regex
  empty : Regex
  set : List Range → Regex
  unset : List Range → Regex
  seq : Regex → Regex → Regex
  alt : Regex → Regex → Regex
  star : Regex → Regex

-- the empty text matches
unfoldable pub nullable : Regex → Bool
nullable nothing = false
nullable empty = true
nullable (set s) = false
nullable (unset s) = false
nullable (seq r s) = nullable r && nullable s
nullable (alt r s) = nullable r || nullable s
nullable (star r) = true

unfoldable pub is_nothing : Regex → Bool
is_nothing nothing = true
is_nothing empty = false
is_nothing (set s) = false
is_nothing (unset s) = false
is_nothing (seq r s) = false
is_nothing (alt r s) = false
is_nothing (star r) = false

-- r then s, and r or s, with `nothing` and `empty` taken out and each sequence nested to the right
unfoldable pub then : Regex → Regex → Regex
then nothing s = nothing
then empty s = s
then (set a) s = seq (set a) s
then (unset a) s = seq (unset a) s
then (seq a b) s = seq a (then b s)
then (alt a b) s = seq (alt a b) s
then (star a) s = seq (star a) s

unfoldable pub or : Regex → Regex → Regex
or r s = cond (is_nothing r) s (cond (is_nothing s) r (alt r s))

-- what has to follow the byte c
unfoldable pub deriv : ℕ → Regex → Regex
deriv c nothing = nothing
deriv c empty = nothing
deriv c (set s) = cond (within c s) empty nothing
deriv c (unset s) = cond (within c s) nothing empty
deriv c (seq r s) = or (then (deriv c r) s) (cond (nullable r) (deriv c s) nothing)
deriv c (alt r s) = or (deriv c r) (deriv c s)
deriv c (star r) = then (deriv c r) (star r)
