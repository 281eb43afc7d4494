-- An iterator over a record and its ancestors: where it may go on, and what it has left.
use Rattle.std.specs.Prelude.{List, ℕ, suc}
use Rattle.move_tables.specs.declared.Ancestors.{Ancestors}
use Rattle.move_tables.specs.Walk.{Passes, up_to}

-- where it stops is where it stands or above
abbrev pub Climbs : {w : ℕ} → Ancestors w → Type 0
Climbs {w} s = (m : ℕ) × Passes w s.table.0.now m s.at s.end

-- a parent has a lower number, so no more are left than the number where it stands says
unfoldable pub left : {w : ℕ} → Ancestors w → List ℕ
left {w} s = up_to (suc s.at) w s.table.0.now s.end s.at
