-- `write_type` and the two functions that it writes containers with meet their contracts: each is its calls, one after another.
-- The measure is twice the containers left, one more for those two.
use Prim.Native.Nat.{◌*◌, ◌+◌}
use Rattle.write_fields.proofs.+types.Given as goal

abbrev pub decreases-write_container : goal.decreases-write_container
decreases-write_container l = 2 * l.depth + 1

abbrev pub decreases-write_map_type : goal.decreases-write_map_type
decreases-write_map_type l = 2 * l.depth + 1

abbrev pub decreases-write_type : goal.decreases-write_type
decreases-write_type l = 2 * l.depth
