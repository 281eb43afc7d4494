-- Texts, and where they stop being UTF-8: each is computed.
use mathlib.Core.Path.{◌≡◌, refl}
use mathlib.Core.List.{List, [], ◌∷◌}
use Rattle.std.specs.Prelude.{Option, Some}
use Prim.Native.Nat.{ℕ}
use Rattle.utf8.specs.Utf8.{tail, sequences, begins, width, sequence, ill_from, ill_formed, WellFormed}

-- `unfolding on` lets `ill_formed` compute
on : List ℕ → Option ℕ
unfolding tail sequences begins width sequence ill_from ill_formed
on w = ill_formed w

-- the empty text
empty : WellFormed []
unfolding on
empty = refl

-- U+FEFF, the byte order mark
byte_order_mark : WellFormed (0xef ∷ 0xbb ∷ 0xbf ∷ [])
unfolding on
byte_order_mark = refl

-- U+1F600
four_bytes : WellFormed (0xf0 ∷ 0x9f ∷ 0x98 ∷ 0x80 ∷ [])
unfolding on
four_bytes = refl

-- the second byte is no tail
no_tail : ill_formed (0xe2 ∷ 0x28 ∷ []) ≡ Some 0
unfolding on
no_tail = refl

-- U+0000 in two bytes, behind `a`
overlong_2 : ill_formed (0x61 ∷ 0xc0 ∷ 0x80 ∷ []) ≡ Some 1
unfolding on
overlong_2 = refl

-- U+07FF in three bytes
overlong_3 : ill_formed (0xe0 ∷ 0x9f ∷ 0xbf ∷ []) ≡ Some 0
unfolding on
overlong_3 = refl

-- U+D800, a surrogate
surrogate : ill_formed (0xed ∷ 0xa0 ∷ 0x80 ∷ []) ≡ Some 0
unfolding on
surrogate = refl

-- U+110000, above the last
too_high : ill_formed (0xf4 ∷ 0x90 ∷ 0x80 ∷ 0x80 ∷ []) ≡ Some 0
unfolding on
too_high = refl

-- cut off
cut : ill_formed (0xc3 ∷ []) ≡ Some 0
unfolding on
cut = refl

-- cut off behind `a`
cut_behind : ill_formed (0x61 ∷ 0xc3 ∷ []) ≡ Some 1
unfolding on
cut_behind = refl

-- a byte that no sequence has
no_byte : ill_formed (0xff ∷ []) ≡ Some 0
unfolding on
no_byte = refl

-- a tail byte with none before it
lone_tail : ill_formed (0x80 ∷ []) ≡ Some 0
unfolding on
lone_tail = refl
