-- What each step of the printer does to where it stands and to the output, from the text and the two tables. Contracts of this crate and of those above it cite it, and
-- printer/proofs/Meant shows what it means; nothing else has to believe it.
use Rattle.std.specs.Prelude.{Bool, true, false, cond, List, ◌++◌, ℕ, zero, suc, ◌+◌, ◌*◌, ◌-◌, eqb, ltb, leb, length, take, drop, get_or}
use Prim.Native.String.{String}
use Rattle.token.specs.Regex.{bytes as ascii}
use Rattle.ast.specs.Column as C
use Rattle.ast.specs.Largest.{bump}
use Rattle.ast.specs.Records.{comment_width, node_width, no_parent}
use Rattle.cursor.specs.declared.Cursor.{Cursor}

-- where the printer stands and the output afterwards
pub data Reached : Type 0 where
  reached : Cursor → List ℕ → Reached

abbrev pub W : Type 0
W = Cursor → List ℕ → Reached

unfoldable pub then : Reached → W → Reached
then (reached p o) k = k p o

infixr 20 ◌⨟◌
abbrev pub ◌⨟◌ : W → W → W
◌⨟◌ m k = λ p o. then (m p o) k

-- a number of a record, in a table of records of w numbers
unfoldable pub number_at : ℕ → List ℕ → ℕ → ℕ → ℕ
number_at w t r k = cond (leb w k) 0 (get_or t (r * w + k) 0)

unfoldable pub kind_at : List ℕ → ℕ → ℕ → ℕ
kind_at t count r = cond (ltb r count) (number_at node_width t r 0) 0

unfoldable pub parent_at : ℕ → List ℕ → ℕ → ℕ → ℕ
parent_at w t count r = cond (ltb r count) (number_at w t r C.Parent) no_parent

unfoldable pub pass_node : W
pass_node p o = reached (record { node = bump p.node; comment = p.comment; length = p.length }) o

unfoldable pub pass_comment : W
pass_comment p o = reached (record { node = p.node; comment = bump p.comment; length = p.length }) o

unfoldable pub stay : W
stay p o = reached p o

-- bytes behind what was printed, if the output holds them; else one more than it holds
unfoldable pub put_out : List ℕ → W
put_out b p o =
    cond (leb (p.length + length b) (length o))
    (reached (record { node = p.node; comment = p.comment; length = p.length + length b }) (take p.length o ++ (b ++ drop (p.length + length b) o)))
    (reached (record { node = p.node; comment = p.comment; length = length o + 1 }) o)

unfoldable pub say_out : String → W
say_out s = put_out (ascii s)

unfoldable pub part_out : List ℕ → ℕ → ℕ → W
part_out text a b p o = cond (ltb (length text) b) (reached p o) (cond (ltb b a) (reached p o) (put_out (take (b - a) (drop a text)) p o))

unfoldable pub token_out : List ℕ → List ℕ → W
token_out text nodes p o = then (part_out text (number_at node_width nodes p.node C.Start) (number_at node_width nodes p.node C.End) p o) pass_node

unfoldable pub spaces_out : ℕ → W
spaces_out zero = stay
spaces_out (suc n) = say_out " " ⨟ spaces_out n

-- the comment ahead, on a line of its own
unfoldable pub comment_out : List ℕ → List ℕ → ℕ → W
comment_out text comments indent p o =
    then (spaces_out indent p o) (part_out text (number_at comment_width comments p.comment C.Start) (number_at comment_width comments p.comment C.End) ⨟ (say_out "\n" ⨟ pass_comment))

unfoldable pub comments_from : List ℕ → List ℕ → ℕ → ℕ → ℕ → ℕ → W
comments_from text comments total owner indent zero p o = reached p o
comments_from text comments total owner indent (suc n) p o =
    cond (eqb (parent_at comment_width comments total p.comment) owner) ((comment_out text comments indent ⨟ comments_from text comments total owner indent n) p o) (reached p o)

unfoldable pub comments_out : List ℕ → List ℕ → ℕ → ℕ → ℕ → W
comments_out text comments total owner indent = comments_from text comments total owner indent total

unfoldable pub pass_comments_from : List ℕ → ℕ → ℕ → ℕ → W
pass_comments_from comments total owner zero p o = reached p o
pass_comments_from comments total owner (suc n) p o =
    cond (eqb (parent_at comment_width comments total p.comment) owner) ((pass_comment ⨟ pass_comments_from comments total owner n) p o) (reached p o)

unfoldable pub pass_comments : List ℕ → ℕ → ℕ → W
pass_comments comments total owner = pass_comments_from comments total owner total

-- past all that stands below a node
unfoldable pub below : ℕ → ℕ → Bool
below owner parent = cond (ltb parent owner) false (cond (eqb parent no_parent) false true)

unfoldable pub pass_below_from : List ℕ → ℕ → ℕ → ℕ → W
pass_below_from nodes count owner zero p o = reached p o
pass_below_from nodes count owner (suc n) p o =
    cond (below owner (parent_at node_width nodes count p.node)) ((pass_node ⨟ pass_below_from nodes count owner n) p o) (reached p o)

unfoldable pub pass_below : List ℕ → ℕ → ℕ → W
pass_below nodes count owner = pass_below_from nodes count owner count
