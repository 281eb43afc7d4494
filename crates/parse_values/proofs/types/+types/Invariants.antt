-- `parse_type` and what it reads containers with meet their contracts: each is its calls, one after another.
-- The measure is five times the containers left, and the place in the cycle.
use Prim.Native.Nat.{◌*◌, ◌+◌}
use Rattle.parse_values.proofs.types.+types.Given as goal

abbrev pub decreases-parse_type : goal.decreases-parse_type
decreases-parse_type l = 5 * l.depth

abbrev pub decreases-parse_contained : goal.decreases-parse_contained
decreases-parse_contained l = 5 * l.depth + 1

abbrev pub decreases-parse_angles : goal.decreases-parse_angles
decreases-parse_angles l = 5 * l.depth + 2

abbrev pub decreases-parse_complex_type-enclose : goal.decreases-parse_complex_type-enclose
decreases-parse_complex_type-enclose l = 5 * l.depth + 3

abbrev pub decreases-parse_complex_type : goal.decreases-parse_complex_type
decreases-parse_complex_type l = 5 * l.depth + 4
