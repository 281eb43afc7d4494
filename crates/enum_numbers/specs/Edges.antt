-- Change 2's edges as one table.
use Rattle.std.specs.Prelude.{◌≡◌, List, [], ◌∷◌, ℕ, replicate, ℤ, pos, negsuc}
use Prim.Native.String.{String}
use Rattle.token.specs.Regex.{bytes}
use Rattle.lexer.specs.Outcome.{Outcome, accepted, refused}
use Rattle.enum_numbers.specs.Numbering.{numbering}

-- a text, how many numbers the list holds, what is answered, and the list afterwards, which was lent full of sevens
pub data Edge : Type 0 where
  edge : String → ℕ → Outcome (List ℕ) → List ℤ → Edge

-- with room for thirty nodes and no comment
abbrev pub Holds : Edge → Type 0
Holds (edge s n o list) =
    let r = numbering (bytes s) (replicate 300 7) [] (replicate n (pos 7)) in
    (r.says ≡ o) × (r.list ≡ list)

abbrev pub All : List Edge → Type 0
All [] = Unit
All (e ∷ es) = Holds e × All es

-- `negsuc n` is -(n + 1)
abbrev pub edges : List Edge
edges =
    -- every kind of number, both ends of the range; the first of each enum is 0
    edge "enum E{A,B=5,C,D=0x1F,E=-2147483648,F=2147483647}enum G{H}" 7 (accepted (7 ∷ [])) (pos 0 ∷ pos 5 ∷ pos 6 ∷ pos 31 ∷ negsuc 2147483647 ∷ pos 2147483647 ∷ pos 0 ∷ [])
    -- the member after 2147483647 without its own, at its name; 28 before 24
    ∷ edge "enum E{A=2147483647 Bc}" 0 (refused 28 20 2) []
    -- one less than the least
    ∷ edge "enum E{A=-2147483649}" 0 (refused 28 7 1) []
    -- more than any word of the machine holds
    ∷ edge "enum E{A,B=99999999999}" 2 (refused 28 9 1) (pos 0 ∷ pos 0 ∷ [])
    -- hex read as unsigned
    ∷ edge "enum E{A=0xFFFFFFFF}" 1 (refused 28 7 1) (pos 0 ∷ [])
    -- a plus and zeros; the previous plus one; 0 past the numbers
    ∷ edge "enum E{A=+007 B}" 3 (accepted (2 ∷ [])) (pos 7 ∷ pos 8 ∷ pos 0 ∷ [])
    -- from below 0; two members of one number
    ∷ edge "enum E{A=-1 B C=0}" 3 (accepted (3 ∷ [])) (negsuc 0 ∷ pos 0 ∷ pos 0 ∷ [])
    -- the previous member's successor, not the last written number's
    ∷ edge "enum E{A=3 B C}" 3 (accepted (3 ∷ [])) (pos 3 ∷ pos 4 ∷ pos 5 ∷ [])
    -- annotations are no number
    ∷ edge "enum E{A(x='9')B=2(y='1')C}" 3 (accepted (3 ∷ [])) (pos 0 ∷ pos 2 ∷ pos 3 ∷ [])
    -- a list too short
    ∷ edge "enum E{A B}" 1 (refused 24 0 0) (pos 0 ∷ [])
    -- no enum
    ∷ edge "struct S{1:i32 a=7}" 1 (accepted (0 ∷ [])) (pos 0 ∷ [])
    -- the reading's refusals first
    ∷ edge "enum E{A=99999999999}@" 1 (refused 22 21 0) (pos 0 ∷ [])
    ∷ []
