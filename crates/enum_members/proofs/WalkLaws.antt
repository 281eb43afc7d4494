-- The code's steps against the model of specs/Walk.
--     value_hex, value_integer                      value_at
--     member_none, member_noted, member_written     member_at
--     put_off, put_on                               put
--     child_other, child_member, root_other, root_enum   number_child, number_definition
--     wipe_part, wipe_all                           what ast::clear leaves, behind an index and of a whole list
use mathlib.Core.Path.{◌≡◌, refl}
use mathlib.Core.List.{List, ◌++◌}
use Prim.Native.Nat.{ℕ, ◌-◌, ◌≤◌, ◌<◌}
use borrow.Author.Tests.{lt-ltb, le-ltb}
use lib.ListN.{length, take, replicate, set}
use lib.Seq.{set_out}
use lib.IntN.{ℤ, pos, suc_ℤ}
use Rattle.std.specs.Prelude.{Option, Some, None}
use Rattle.number.specs.Value.{integer, hex, fitted}
use Rattle.ast.specs.declared.kind.Kind.TheVariants as V
use Rattle.ast.specs.KindNumber.{kind_of}
use Rattle.ast.specs.Largest.{bump}
use Rattle.ast.proofs.ClearLaws.{cleared_by, cleared_all}
use Rattle.records.specs.Table.{kind_in, start_at, end_at, past_at, part, part_at}
use Rattle.records.specs.Each.{on, off}
use Rattle.records.proofs.KindTests.{kind_yes, kind_no}
use Rattle.enum_members.specs.declared.Walk.{Walk}
use Rattle.enum_members.specs.Numbers.{cleared}
use Rattle.enum_members.specs.Walk.{at, stop, value_at, member_at, put_in, child_in, members_in, definition_in, wiped}

module _ (text nodes : List ℕ) (n : ℕ) where
  -- ---- value_at

  pub value_hex : kind_of (kind_in nodes n) ≡ Some V.Hex → value_at text nodes n ≡ fitted (hex (part text (start_at nodes n) (end_at nodes n)))
  unfolding value_at part_at
  value_hex h = rw (kind_yes (kind_in nodes n) V.Hex h)

  pub value_integer : (kind_of (kind_in nodes n) ≡ Some V.Hex → ⊥) → value_at text nodes n ≡ fitted (integer (part text (start_at nodes n) (end_at nodes n)))
  unfolding value_at part_at
  value_integer h = rw (kind_no (kind_in nodes n) V.Hex h)

  -- ---- member_at

  module _ (ahead : Option ℤ) where
    abbrev second : ℕ
    second = past_at nodes (bump n)

    pub member_none : past_at nodes n ≤ second → member_at text nodes n ahead ≡ ahead
    unfolding member_at
    member_none h = rw (le-ltb second (past_at nodes n) h)

    module _ (l : second < past_at nodes n) where
      pub member_noted : kind_of (kind_in nodes second) ≡ Some V.Annotations → member_at text nodes n ahead ≡ ahead
      unfolding member_at
      member_noted h = rw (lt-ltb second (past_at nodes n) l, kind_yes (kind_in nodes second) V.Annotations h)

      pub member_written : (kind_of (kind_in nodes second) ≡ Some V.Annotations → ⊥) → member_at text nodes n ahead ≡ value_at text nodes second
      unfolding member_at
      member_written h = rw (lt-ltb second (past_at nodes n) l, kind_no (kind_in nodes second) V.Annotations h)

  -- ---- number_child, number_definition

  module _ (w : Walk) (list : List ℤ) where
    pub child_other : (kind_of (kind_in nodes n) ≡ Some V.EnumMember → ⊥) → child_in text nodes n (at w list) ≡ on (at w list)
    unfolding child_in
    child_other h = rw (kind_no (kind_in nodes n) V.EnumMember h)

    pub child_member : kind_of (kind_in nodes n) ≡ Some V.EnumMember → child_in text nodes n (at w list) ≡ put_in nodes n (member_at text nodes n w.ahead) (at w list)
    unfolding child_in
    child_member h = rw (kind_yes (kind_in nodes n) V.EnumMember h)

    pub root_other : (kind_of (kind_in nodes n) ≡ Some V.Enum → ⊥) → definition_in text nodes n (at w list) ≡ on (at w list)
    unfolding definition_in
    root_other h = rw (kind_no (kind_in nodes n) V.Enum h)

    pub root_enum : kind_of (kind_in nodes n) ≡ Some V.Enum → definition_in text nodes n (at w list) ≡ members_in text nodes n w.members list
    unfolding definition_in
    root_enum h = rw (kind_yes (kind_in nodes n) V.Enum h)

-- ---- put

module _ (nodes : List ℕ) (n : ℕ) (w : Walk) (list : List ℤ) where
  pub put_off : put_in nodes n None (at w list) ≡ off (stop (start_at nodes (bump n)) (end_at nodes (bump n)) list)
  unfolding put_in
  put_off = refl

  pub put_on : (x : ℤ) → put_in nodes n (Some x) (at w list) ≡ on (at (record { ahead = fitted (suc_ℤ x); members = bump w.members }) (set list w.members x))
  unfolding put_in
  put_on x = refl

-- ---- finish, refuse

pub wipe_part : (n : ℕ) (z : ℤ) (l l' : List ℤ) → z ≡ pos 0 → l' ≡ take n l ++ replicate (length l - n) z → l' ≡ wiped n l
unfolding wiped
wipe_part n z l l' e h = cleared_by (pos 0) n l l' (z, e, h)

pub wipe_all : (z : ℤ) (l l' : List ℤ) → z ≡ pos 0 → l' ≡ replicate (length l - 0) z → l' ≡ cleared l
unfolding cleared
wipe_all z l l' e h = cleared_all (pos 0) l l' (z, e, h)

-- what the steps need
pub ruleset steps = (value_hex, value_integer, member_none, member_noted, member_written, put_off, put_on, child_other, child_member, root_other, root_enum)

pub ruleset stores = (set_out)
