-- The contract of a step: what it answers and does to where the walk stands and to the list, from the text and the table.
use Rattle.std.specs.Prelude.{◌≡◌, List, ℕ, ℤ, Result}
use Rattle.records.specs.Each.{Step}
use Rattle.records.specs.declared.Part.{Part}
use Rattle.enum_members.specs.declared.Walk.{Walk}
use Rattle.enum_members.specs.declared.Walker.{Walker}
use Rattle.enum_members.specs.Walk.{State, Stop, shows}

-- the text and the table
pub record Source : Type 0 where
  pub text : List ℕ
  pub nodes : List ℕ

abbrev pub source : Walker → Source
source w = record { text = w.text.now; nodes = w.nodes.0.now }

-- what a step makes of where the walk stands and of the list
abbrev pub M : Type 0
M = Source → Walk → List ℤ → Step State Stop

-- from one walker to the next: m is done, from the same source, to the same list
pub record Walks (m : M) (r : Result (Unit {0}) Part) (s t : Walker) : Type 0 where
  pub goes : shows r t.at t.list.now ≡ m (source s) s.at s.list.now
  pub same : source t ≡ source s
  pub lent : t.list.ghost_name ≡ s.list.ghost_name
