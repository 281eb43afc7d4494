-- Stored tables moved from nine numbers a record to ten and back (document 02, Change 7), for any table and any output.
use Rattle.std.specs.Prelude.{Bool, false, cond, ◌&&◌, ◌||◌, List, [], ◌∷◌, ◌++◌, ℕ, suc, ◌*◌, eqb, ltb, leb, length, take, get_or}
use Rattle.std.specs.Prelude.{Option, Some, None}
use Rattle.lexer.specs.Error.{NodesFull, NotMovable}
use Rattle.lexer.specs.Outcome.{Outcome, accepted, refused}
use Rattle.ast.specs.Column.{Parent, Past}
use Rattle.ast.specs.Records.{comment_width, node_width, no_parent, room, chunks, concat, filled, cleared}
use Rattle.std.specs.declared.result.Result.{Result}
use Rattle.lexer.specs.declared.error.Refusal.{Refusal}
use Rattle.lexer.specs.Refusal.{said_by}

-- a node record without its tenth number is as wide as a comment record
abbrev pub narrow_width : ℕ
narrow_width = comment_width

-- ---- 'a table is movable if its length divides by 9, with ten numbers by 10, for 65,536 records at most'

abbrev pub most_records : ℕ
most_records = 65536

unfoldable pub whole : ℕ → List ℕ → Bool
whole width table = eqb (room width table * width) (length table) && leb (room width table) most_records

unfoldable pub records : ℕ → List ℕ → List (List ℕ)
records width table = chunks width (room width table) table

unfoldable pub parents : List (List ℕ) → List ℕ
parents [] = []
parents (r ∷ rs) = get_or r Parent 0 ∷ parents rs

-- ---- 'and each parent is 4294967295, the record just before, or an ancestor of that one, the first record's being 4294967295'

-- `ancestors`: the record just before, its ancestors from the nearest to the farthest, and 4294967295
unfoldable pub among : ℕ → List ℕ → Bool
among p [] = false
among p (a ∷ ancestors) = eqb a p || among p ancestors

-- p and its ancestors
unfoldable pub from : ℕ → List ℕ → List ℕ
from p [] = []
from p (a ∷ ancestors) = cond (eqb a p) (a ∷ ancestors) (from p ancestors)

-- the first record with a bad parent: the parents are those of record n and of all behind it
unfoldable pub bad_parent : ℕ → List ℕ → List ℕ → Option ℕ
bad_parent n ancestors [] = None
bad_parent n ancestors (p ∷ ps) = cond (among p ancestors) (bad_parent (suc n) (n ∷ from p ancestors) ps) (Some n)

unfoldable pub first_bad_parent : List (List ℕ) → Option ℕ
first_bad_parent rs = bad_parent 0 (no_parent ∷ []) (parents rs)

-- ---- 'a tenth number: the record number just past the last descendant'

-- a parent is record n or one behind it
unfoldable pub inside : ℕ → ℕ → Bool
inside n p = leb n p && ltb p no_parent

-- of record n: its descendants follow it, as long as their parents are n or behind n; m is the next record's number, the parents are its and all behind it
unfoldable pub past : ℕ → ℕ → List ℕ → ℕ
past n m [] = m
past n m (p ∷ ps) = cond (inside n p) (past n (suc m) ps) m

-- the first record with a tenth number that disagrees
unfoldable pub bad_tenth : ℕ → List (List ℕ) → Option ℕ
bad_tenth n [] = None
bad_tenth n (r ∷ rs) = cond (eqb (get_or r Past 0) (past n (suc n) (parents rs))) (bad_tenth (suc n) rs) (Some n)

-- ---- 'stored tables must move to ten numbers and back'

unfoldable pub widened : ℕ → List (List ℕ) → List (List ℕ)
widened n [] = []
widened n (r ∷ rs) = (r ++ past n (suc n) (parents rs) ∷ []) ∷ widened (suc n) rs

unfoldable pub narrowed : List (List ℕ) → List (List ℕ)
narrowed [] = []
narrowed (r ∷ rs) = take narrow_width r ∷ narrowed rs

-- ---- '33: place the number of the first record with a bad parent, else a bad tenth; a bad length comes first, with 0'

unfoldable pub unless : Option ℕ → Outcome (List (List ℕ)) → Outcome (List (List ℕ))
unless None o = o
unless (Some n) o = refused NotMovable n 0

unfoldable pub widening : List ℕ → Outcome (List (List ℕ))
widening table =
    let rs = records narrow_width table in
    cond (whole narrow_width table) (unless (first_bad_parent rs) (accepted (widened 0 rs))) (refused NotMovable 0 0)

unfoldable pub narrowing : List ℕ → Outcome (List (List ℕ))
narrowing table =
    let rs = records node_width table in
    cond (whole node_width table) (unless (first_bad_parent rs) (unless (bad_tenth 0 rs) (accepted (narrowed rs)))) (refused NotMovable 0 0)

-- ---- 'then 24 if the output is too short'

-- what a move answers, how many records or a refusal, and the output afterwards
pub record Moving : Type 0 where
  pub says : Outcome (List ℕ)
  pub out : List ℕ

abbrev pub moved : ℕ → List ℕ → Moving
moved n out = record { says = accepted (n ∷ []); out = out }

-- a refusal leaves the output all 0
abbrev pub refusing : ℕ → ℕ → ℕ → List ℕ → Moving
refusing e p n out = record { says = refused e p n; out = cleared out }

unfoldable pub into : Outcome (List (List ℕ)) → List ℕ → Moving
into (refused e p n) out = refusing e p n out
into (accepted rs) out = cond (ltb (length out) (length (concat rs))) (refusing NodesFull 0 0 out) (moved (length rs) (filled rs out))

-- A MOVE to ten numbers a record, and A MOVE to nine
unfoldable pub widens : List ℕ → List ℕ → Moving
widens table out = into (widening table) out

unfoldable pub narrows : List ℕ → List ℕ → Moving
narrows table out = into (narrowing table) out

-- what the code's answer says
abbrev pub Moved : Type 0
Moved = Result ℕ Refusal

abbrev pub said : Moved → Outcome (List ℕ)
said = said_by (λ n. n ∷ [])

-- the code's answer and the output, as a move
abbrev pub told : Moved → List ℕ → Moving
told a out = record { says = said a; out = out }
