-- `write_value` and what it writes containers with meet their contracts: each is its calls, one after another.
-- The measure is five times the containers left, and the place in the cycle.
use Prim.Native.Nat.{◌*◌, ◌+◌}
use Rattle.write_fields.proofs.+values.Given as goal

abbrev pub decreases-write_value : goal.decreases-write_value
decreases-write_value l = 5 * l.depth

abbrev pub decreases-write_element : goal.decreases-write_element
decreases-write_element l = 5 * l.depth + 1

abbrev pub decreases-write_property : goal.decreases-write_property
decreases-write_property l = 5 * l.depth + 1

abbrev pub decreases-write_list-write_brackets : goal.decreases-write_list-write_brackets
decreases-write_list-write_brackets l = 5 * l.depth + 2

abbrev pub decreases-write_map-write_brackets : goal.decreases-write_map-write_brackets
decreases-write_map-write_brackets l = 5 * l.depth + 2

abbrev pub decreases-write_list : goal.decreases-write_list
decreases-write_list l = 5 * l.depth + 3

abbrev pub decreases-write_map : goal.decreases-write_map
decreases-write_map l = 5 * l.depth + 3
