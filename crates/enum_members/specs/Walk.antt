-- What the code does, record by record, on any table. Contracts of this crate cite it, and proofs/Meant shows what it means; nothing else has to believe it.
use Rattle.std.specs.Prelude.{cond, List, ◌++◌, [], ◌∷◌, ℕ, ◌-◌, eqb, ltb, length, take, set, replicate, ℤ, pos, Option, Some, None, Result, Ok, Err}
use Rattle.std.proofs.Math.IntN.{suc_ℤ}
use Rattle.lexer.specs.Error.{NodesFull, EnumNumberOutside}
use Rattle.lexer.specs.Outcome.{accepted, refused}
use Rattle.number.specs.Value.{integer, hex, fitted}
use Rattle.ast.specs.Kind as K
use Rattle.ast.specs.Largest.{bump}
use Rattle.records.specs.Table.{kind_in, start_at, end_at, past_at, siblings, children_of, part_at}
use Rattle.records.specs.Each.{Step, on, off, each_in}
use Rattle.enum_members.specs.declared.Walk.{Walk}
use Rattle.records.specs.declared.Part.{Part}
use Rattle.enum_members.specs.Numbers.{Listing, cleared}

-- where a walk stands, with the list; where it stops: from and to which byte the name is, with the list
pub data State : Type 0 where
  at : Walk → List ℤ → State

pub data Stop : Type 0 where
  stop : ℕ → ℕ → List ℤ → Stop

abbrev pub W : Type 0
W = State → Step State Stop

-- what the code's answer, the walk and the list afterwards show
abbrev pub shows : Result (Unit {0}) Part → Walk → List ℤ → Step State Stop
shows (Ok u) w list = on (at w list)
shows (Err a) w list = off (stop a.start a.end list)

-- a number goes behind those so far; 28 at the name of the member at record n
unfoldable pub put_in : List ℕ → ℕ → Option ℤ → W
put_in nodes n (Some x) (at w list) = on (at (record { ahead = fitted (suc_ℤ x); members = bump w.members }) (set list w.members x))
put_in nodes n None (at w list) = off (stop (start_at nodes (bump n)) (end_at nodes (bump n)) list)

module _ (text nodes : List ℕ) where
  -- the number that is written at a record
  unfoldable pub value_at : ℕ → Option ℤ
  value_at n = cond (eqb (kind_in nodes n) K.Hex) (fitted (hex (part_at text nodes n))) (fitted (integer (part_at text nodes n)))

  -- the number of the member at record n: that of its second child, if it has one that is no annotations; else the one ahead
  unfoldable pub member_at : ℕ → Option ℤ → Option ℤ
  member_at n ahead =
      let v = past_at nodes (bump n) in
      cond (ltb v (past_at nodes n)) (cond (eqb (kind_in nodes v) K.Annotations) ahead (value_at v)) ahead

  -- a child of an enum
  unfoldable pub child_in : ℕ → W
  child_in n (at w list) = cond (eqb (kind_in nodes n) K.EnumMember) (put_in nodes n (member_at n w.ahead) (at w list)) (on (at w list))

  -- the members of the enum at record n, behind so many others
  unfoldable pub members_in : ℕ → ℕ → List ℤ → Step State Stop
  members_in n members list = each_in child_in (children_of nodes n) (at (record { ahead = Some (pos 0); members = members }) list)

  -- a definition
  unfoldable pub definition_in : ℕ → W
  definition_in n (at w list) = cond (eqb (kind_in nodes n) K.Enum) (members_in n w.members list) (on (at w list))

  unfoldable pub definitions_in : ℕ → List ℤ → Step State Stop
  definitions_in count list = each_in definition_in (siblings nodes count 0) (at (record { ahead = Some (pos 0); members = 0 }) list)

unfoldable pub wiped : ℕ → List ℤ → List ℤ
wiped n list = take n list ++ replicate (length list - n) (pos 0)

unfoldable pub refusing : ℕ → ℕ → ℕ → List ℤ → Listing
refusing e p n list = record { says = refused e p n; list = cleared list }

unfoldable pub finished : Step State Stop → Listing
finished (off (stop a b list)) = refusing EnumNumberOutside a (b - a) list
finished (on (at w list)) =
    cond (ltb (length list) w.members) (refusing NodesFull 0 0 list) (record { says = accepted (w.members ∷ []); list = wiped w.members list })
