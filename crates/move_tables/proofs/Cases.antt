-- The moves computed on 79 tables. The answers and outputs were computed by an independent model of Change 7.
-- A table is given by the parents of its records, and by their tenth numbers if it has them; a record's other numbers follow from its own number.
use mathlib.Core.Path.{◌≡◌, refl}
use mathlib.Core.List.{List, [], ◌∷◌, ◌++◌}
use Prim.Native.Nat.{ℕ, suc, ◌+◌, ◌*◌, ◌%◌}
use lib.ListN.{length, take, replicate}
use Rattle.lexer.specs.Error.{NodesFull, NotMovable}
use Rattle.ast.specs.Lists.{maps}
use Rattle.ast.specs.Records.{comment_width, node_width, no_parent, room, chunks, concat, filled, cleared}
use Rattle.move_tables.specs.Moves.{
  whole,
  records,
  parents,
  among,
  from,
  bad_parent,
  first_bad_parent,
  inside,
  past,
  bad_tenth,
  widened,
  narrowed,
  unless,
  widening,
  narrowing,
  Moving,
  moved,
  refusing,
  into,
  widens,
  narrows,
}

abbrev root : ℕ
root = 4294967295

nine : ℕ → ℕ → List ℕ
nine i p = (4 + i % 3) ∷ p ∷ (i % 2) ∷ (10 * i) ∷ i ∷ 3 ∷ (10 * i + 5) ∷ i ∷ 8 ∷ []

-- records of nine numbers from record i on: their parents
nines : ℕ → List ℕ → List ℕ
nines i [] = []
nines i (p ∷ ps) = nine i p ++ nines (suc i) ps

-- records of ten: their parents and their tenth numbers
tens : ℕ → List ℕ → List ℕ → List ℕ
tens i [] es = []
tens i (p ∷ ps) [] = []
tens i (p ∷ ps) (e ∷ es) = nine i p ++ e ∷ tens (suc i) ps es

count : ℕ → List ℕ → List ℕ
count i [] = []
count i (p ∷ ps) = suc i ∷ count (suc i) ps

-- an output of so many numbers
spare : ℕ → List ℕ
spare n = replicate n 5

-- a move, and what it gives
record Case : Type 0 where
  move : Moving
  gives : Moving

one : Moving → Moving → List Case
one m g = record { move = m; gives = g } ∷ []

-- a table moved both ways, into outputs just long enough
both : List ℕ → List ℕ → List Case
both ps es =
    one (widens (nines 0 ps) (spare (10 * length ps))) (moved (length ps) (tens 0 ps es))
    ++ one (narrows (tens 0 ps es) (spare (9 * length ps))) (moved (length ps) (nines 0 ps))

-- a bad parent in record n, both ways: before any bad tenth number, and before 24
bad : List ℕ → ℕ → List Case
bad ps n =
    one (widens (nines 0 ps) (spare (10 * length ps + 1))) (refusing NotMovable n 0 (spare (10 * length ps + 1)))
    ++ one (narrows (tens 0 ps (count 0 ps)) []) (refusing NotMovable n 0 [])

-- a tenth number that disagrees: record n is the first with one, or with a bad parent if there is one
wrong : List ℕ → List ℕ → ℕ → List Case
wrong ps es n = one (narrows (tens 0 ps es) (spare (10 * length ps))) (refusing NotMovable n 0 (spare (10 * length ps)))

-- the parents of seven records, and their tenth numbers
seven : List ℕ
seven = root ∷ 0 ∷ 1 ∷ 0 ∷ 3 ∷ root ∷ 5 ∷ []

pasts : List ℕ
pasts = 5 ∷ 3 ∷ 3 ∷ 5 ∷ 5 ∷ 7 ∷ 7 ∷ []

cases : List Case
cases =
    both [] []
    ++ both (root ∷ []) (1 ∷ [])
    ++ both (root ∷ 0 ∷ []) (2 ∷ 2 ∷ [])
    ++ both (root ∷ root ∷ []) (1 ∷ 2 ∷ [])
    ++ both (root ∷ 0 ∷ 1 ∷ 2 ∷ []) (4 ∷ 4 ∷ 4 ∷ 4 ∷ [])
    ++ both (root ∷ 0 ∷ 0 ∷ 0 ∷ []) (4 ∷ 2 ∷ 3 ∷ 4 ∷ [])
    ++ both seven pasts
    ++ both (root ∷ 0 ∷ 1 ∷ 1 ∷ 0 ∷ []) (5 ∷ 4 ∷ 3 ∷ 4 ∷ 5 ∷ [])
    ++ both (root ∷ root ∷ root ∷ 2 ∷ []) (1 ∷ 2 ∷ 4 ∷ 4 ∷ [])
    ++ both (root ∷ root ∷ 1 ∷ root ∷ 3 ∷ []) (1 ∷ 3 ∷ 3 ∷ 5 ∷ 5 ∷ [])
    ++ both (root ∷ root ∷ 1 ∷ root ∷ 3 ∷ 4 ∷ []) (1 ∷ 3 ∷ 3 ∷ 6 ∷ 6 ∷ 6 ∷ [])
    ++ both (root ∷ root ∷ root ∷ 2 ∷ 3 ∷ 4 ∷ 4 ∷ []) (1 ∷ 2 ∷ 7 ∷ 7 ∷ 7 ∷ 6 ∷ 7 ∷ [])
    ++ bad (0 ∷ []) 0
    ++ bad (1 ∷ []) 0
    ++ bad (root ∷ 1 ∷ []) 1
    ++ bad (root ∷ 2 ∷ []) 1
    ++ bad (root ∷ root ∷ 0 ∷ []) 2
    ++ bad (root ∷ 0 ∷ 0 ∷ 1 ∷ []) 3
    ++ bad (root ∷ 0 ∷ root ∷ 1 ∷ []) 3
    ++ bad (root ∷ 0 ∷ 1 ∷ root ∷ 3 ∷ 2 ∷ []) 5
    ++ bad (root ∷ 0 ∷ 4294967294 ∷ []) 2
    ++ bad (root ∷ 0 ∷ 1 ∷ root ∷ 0 ∷ []) 4
    ++ bad (root ∷ 0 ∷ 1 ∷ 2 ∷ 2 ∷ 1 ∷ 4 ∷ []) 6
    ++ wrong seven (0 ∷ 3 ∷ 3 ∷ 5 ∷ 5 ∷ 7 ∷ 7 ∷ []) 0
    ++ wrong seven (7 ∷ 3 ∷ 3 ∷ 5 ∷ 5 ∷ 7 ∷ 7 ∷ []) 0
    ++ wrong seven (6 ∷ 3 ∷ 3 ∷ 5 ∷ 5 ∷ 7 ∷ 7 ∷ []) 0
    ++ wrong seven (5 ∷ 3 ∷ 0 ∷ 5 ∷ 5 ∷ 7 ∷ 7 ∷ []) 2
    ++ wrong seven (5 ∷ 3 ∷ 7 ∷ 5 ∷ 5 ∷ 7 ∷ 7 ∷ []) 2
    ++ wrong seven (5 ∷ 3 ∷ 6 ∷ 5 ∷ 5 ∷ 7 ∷ 7 ∷ []) 2
    ++ wrong seven (5 ∷ 3 ∷ 3 ∷ 5 ∷ 5 ∷ 0 ∷ 7 ∷ []) 5
    ++ wrong seven (5 ∷ 3 ∷ 3 ∷ 5 ∷ 5 ∷ 6 ∷ 7 ∷ []) 5
    ++ wrong seven (5 ∷ 3 ∷ 3 ∷ 5 ∷ 5 ∷ 7 ∷ 0 ∷ []) 6
    ++ wrong seven (5 ∷ 3 ∷ 3 ∷ 5 ∷ 5 ∷ 7 ∷ 6 ∷ []) 6
    ++ wrong (root ∷ 0 ∷ 1 ∷ 0 ∷ 3 ∷ root ∷ 4 ∷ []) (1 ∷ 3 ∷ 3 ∷ 5 ∷ 5 ∷ 7 ∷ 7 ∷ []) 6
    ++ wrong (root ∷ 0 ∷ 1 ∷ 7 ∷ []) (9 ∷ 3 ∷ 3 ∷ 4 ∷ []) 3
    ++ wrong (root ∷ 0 ∷ 1 ∷ 2 ∷ []) (4 ∷ 4 ∷ 4 ∷ 5 ∷ []) 3
    ++ wrong (root ∷ 0 ∷ 0 ∷ 2 ∷ []) (1 ∷ 2 ∷ 4 ∷ 4 ∷ []) 0
    ++ wrong (root ∷ []) (0 ∷ []) 0
    ++ one (widens (nines 0 seven) (spare 69)) (refusing NodesFull 0 0 (spare 69))
    ++ one (widens (nines 0 seven) (spare 0)) (refusing NodesFull 0 0 (spare 0))
    ++ one (widens (nines 0 seven) (spare 75)) (moved 7 (tens 0 seven pasts ++ replicate 5 0))
    ++ one (narrows (tens 0 seven pasts) (spare 62)) (refusing NodesFull 0 0 (spare 62))
    ++ one (narrows (tens 0 seven pasts) (spare 66)) (moved 7 (nines 0 seven ++ replicate 3 0))
    ++ one (widens (take 62 (nines 0 seven)) (spare 99)) (refusing NotMovable 0 0 (spare 99))
    ++ one (widens (1 ∷ []) (spare 3)) (refusing NotMovable 0 0 (spare 3))
    ++ one (narrows (take 69 (tens 0 seven pasts)) (spare 9)) (refusing NotMovable 0 0 (spare 9))
    ++ one (narrows (tens 0 seven pasts ++ 0 ∷ []) (spare 0)) (refusing NotMovable 0 0 (spare 0))
    ++ one (widens (tens 0 seven pasts) (spare 80)) (refusing NotMovable 0 0 (spare 80))
    ++ one (narrows (nines 0 seven) (spare 80)) (refusing NotMovable 0 0 (spare 80))
    ++ one (narrows (tens 0 seven pasts) (spare 70)) (moved 7 (nines 0 seven ++ replicate 7 0))
    ++ one (narrows (tens 0 seven (5 ∷ 3 ∷ 4 ∷ 5 ∷ 5 ∷ 7 ∷ 1 ∷ [])) (spare 0)) (refusing NotMovable 2 0 (spare 0))
    ++ one (widens (nines 0 []) (spare 3)) (moved 0 (replicate 3 0))
    ++ one (narrows (nines 0 []) (spare 3)) (moved 0 (replicate 3 0))
    ++ one (widens (nines 0 (root ∷ 0 ∷ []) ++ 4 ∷ []) (spare 30)) (refusing NotMovable 0 0 (spare 30))
    ++ one (widens (nines 0 (root ∷ 5 ∷ []) ++ 4 ∷ []) (spare 30)) (refusing NotMovable 0 0 (spare 30))
    ++ one (narrows (tens 0 (root ∷ 5 ∷ []) (2 ∷ 2 ∷ []) ++ 4 ∷ []) (spare 30)) (refusing NotMovable 0 0 (spare 30))

cases_hold : maps (λ (c : Case). c.move) cases ≡ maps (λ (c : Case). c.gives) cases
unfolding maps nine nines tens count spare one both bad wrong seven pasts cases comment_width node_width no_parent room concat filled cleared whole chunks records parents among from bad_parent first_bad_parent inside past bad_tenth widened narrowed unless widening narrowing into widens narrows
cases_hold = refl
