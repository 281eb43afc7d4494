-- How the code goes through a table: parents by number, a record's ancestors by their parents, and which records end where. The contracts within
-- this crate cite it; those of `widen` and `narrow` do not.
use Rattle.std.specs.Prelude.{◌≡◌, true, cond, List, [], ◌∷◌, ℕ, zero, suc, ◌+◌, ◌*◌, ◌/◌, ◌<◌, ◌≤◌, eqb, ltb, length, get_or, set}
use Rattle.std.specs.Prelude.{Option, Some, None, Ok, Err}
use Rattle.lexer.specs.Error.{NodesFull, NotMovable}
use Rattle.lexer.specs.Outcome.{refused}
use Rattle.ast.specs.Column.{Parent, Past}
use Rattle.ast.specs.Records.{node_width, no_parent}
use Rattle.move_tables.specs.Moves.{narrow_width, most_records, whole, records, among, from, bad_parent, first_bad_parent, into, Moved, told}

-- ---- parents

-- the parent of record a in a table of w numbers a record
unfoldable pub parent_in : ℕ → List ℕ → ℕ → ℕ
parent_in w t a = get_or t (a * w + Parent) 0

-- so many parents from record n on
unfoldable pub parents_from : ℕ → List ℕ → ℕ → ℕ → List ℕ
parents_from w t zero n = []
parents_from w t (suc k) n = parent_in w t n ∷ parents_from w t k (suc n)

-- record a, which is below m, its ancestors from the nearest to the farthest, and 4294967295; of 4294967295 that alone
pub data Up (w : ℕ) (t : List ℕ) : ℕ → ℕ → List ℕ → Type 0 where
  top : {m a : ℕ} → a ≡ no_parent → Up w t m a (a ∷ [])
  up : {m a : ℕ} {ancestors : List ℕ} → a < m → Up w t a (parent_in w t a) ancestors → Up w t m a (a ∷ ancestors)

-- record a and its ancestors from the nearest to the farthest, before `end`, so many at most
unfoldable pub up_to : ℕ → ℕ → List ℕ → ℕ → ℕ → List ℕ
up_to zero w t end a = []
up_to (suc k) w t end a = cond (eqb a end) [] (a ∷ up_to k w t end (parent_in w t a))

-- a table has m records, or more
pub record Holds (w : ℕ) (t : List ℕ) (m : ℕ) : Type 0 where
  pub wide : suc Parent ≤ w
  pub within : m * w ≤ length t
  pub few : m ≤ most_records

-- `at` is a record below m, or 4294967295
pub record Stands (w : ℕ) (t : List ℕ) (m at : ℕ) : Type 0 where
  pub holds : Holds w t m
  pub ancestors : List ℕ
  pub is : Up w t m at ancestors

-- and p is `at` or an ancestor of it
pub record Passes (w : ℕ) (t : List ℕ) (m at p : ℕ) : Type 0 where
  pub holds : Holds w t m
  pub ancestors : List ℕ
  pub is : Up w t m at ancestors
  pub has : among p ancestors ≡ true

-- each parent of so many records is good
pub record Good (w : ℕ) (t : List ℕ) (count : ℕ) : Type 0 where
  pub holds : Holds w t count
  pub good : bad_parent 0 (no_parent ∷ []) (parents_from w t count 0) ≡ None

-- ---- where records end

-- f done of each record before p: these end here, having no further descendant, if p is the next record's parent
unfoldable pub ends : {S : Type 0} → (ℕ → S → S) → ℕ → List ℕ → S → S
ends f p [] s = s
ends f p (a ∷ ancestors) s = cond (eqb a p) s (ends f p ancestors (f a s))

-- f done of each record from n on, where it ends
unfoldable pub walk : {S : Type 0} → (ℕ → ℕ → S → S) → ℕ → List ℕ → List ℕ → S → S
walk f n ancestors [] s = ends (f n) no_parent ancestors s
walk f n ancestors (p ∷ ps) s = walk f (suc n) (n ∷ from p ancestors) ps (ends (f n) p ancestors s)

-- a record that ends before record n has n as its tenth number
unfoldable pub writes : ℕ → ℕ → List ℕ → List ℕ
writes n a out = set out (a * node_width + Past) n

-- the lowest record whose tenth number is not that
unfoldable pub lower_bad : List ℕ → ℕ → ℕ → ℕ → ℕ
lower_bad t n a bad = cond (eqb (get_or t (a * node_width + Past) 0) n) bad (cond (ltb a bad) a bad)

-- ---- the copy

-- nine numbers of a record, from an index of the table to one of the output
pub record Carries (t : List ℕ) (from : ℕ) (out : List ℕ) (to : ℕ) : Type 0 where
  pub there : from + narrow_width ≤ length t
  pub room : to + narrow_width ≤ length out

pub record Carried (t : List ℕ) (from to : ℕ) (out out' : List ℕ) : Type 0 where
  pub long : length out' ≡ length out
  pub before : (k : ℕ) → k < to → get_or out' k 0 ≡ get_or out k 0
  pub each : (j : ℕ) → j < narrow_width → get_or out' (to + j) 0 ≡ get_or t (from + j) 0

-- those of so many records, from records of w numbers to records of v
pub record Copies (t : List ℕ) (w : ℕ) (out : List ℕ) (v count : ℕ) : Type 0 where
  pub wide : narrow_width ≤ w
  pub wide' : narrow_width ≤ v
  pub there : count * w ≤ length t
  pub room : count * v ≤ length out

pub record Copied (t : List ℕ) (w v count : ℕ) (out out' : List ℕ) : Type 0 where
  pub long : length out' ≡ length out
  pub each : (i j : ℕ) → i < count → j < narrow_width → get_or out' (i * v + j) 0 ≡ get_or t (i * w + j) 0

-- ---- the checks before a move, and what both moves lay

-- where a table of w numbers a record is not movable: at the first record with a bad parent; at 0, for a bad length
unfoldable pub unmovable : ℕ → List ℕ → Option ℕ
unmovable w t = cond (whole w t) (first_bad_parent (records w t)) (Some 0)

-- a movable length and good parents
pub record Fine (w : ℕ) (t : List ℕ) : Type 0 where
  pub fits : whole w t ≡ true
  pub parents_good : first_bad_parent (records w t) ≡ None
  pub good : Good w t (length t / w)

-- how many records a movable table has, the output being as it was; or a refusal
abbrev pub Checks : ℕ → List ℕ → Moved → List ℕ → List ℕ → Type 0
Checks w t (Ok n) out out' = (n ≡ length t / w) × Fine w t × (out' ≡ out)
Checks w t (Err r) out out' = (b : ℕ) × (unmovable w t ≡ Some b) × (told (Err r) out' ≡ into (refused NotMovable b 0) out)

-- so many records, of w numbers in a table and of v in an output
pub record Wholes (t : List ℕ) (w v count : ℕ) : Type 0 where
  pub wide : narrow_width ≤ w
  pub wide' : narrow_width ≤ v
  pub short' : v ≤ node_width
  pub there : count * w ≤ length t
  pub few : count ≤ most_records

-- the first nine numbers of each record, and 0 past the records
pub record Placed (t : List ℕ) (w v count : ℕ) (out mid : List ℕ) : Type 0 where
  pub long : length mid ≡ length out
  pub each : (i j : ℕ) → i < count → j < narrow_width → get_or mid (i * v + j) 0 ≡ get_or t (i * w + j) 0
  pub past : (k : ℕ) → count * v ≤ k → k < length out → get_or mid k 0 ≡ 0

-- placed, if the output holds them; or a refusal
abbrev pub Lays : List ℕ → ℕ → ℕ → ℕ → Moved → List ℕ → List ℕ → Type 0
Lays t w v count (Ok n) out out' = (n ≡ count) × (count * v ≤ length out) × Placed t w v count out out'
Lays t w v count (Err r) out out' = (length out < count * v) × (told (Err r) out' ≡ into (refused NodesFull 0 0) out)
