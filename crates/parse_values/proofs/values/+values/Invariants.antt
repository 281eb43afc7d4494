-- `parse_value` and what it reads lists and maps with meet their contracts: each is its calls, one after another.
-- The measure is eight times the containers left, and the place in the cycle; that of the loops is the bytes left.
use Prim.Native.Nat.{◌*◌, ◌+◌}
use Rattle.parse_values.proofs.values.+values.Given as goal

abbrev pub decreases-parse_value : goal.decreases-parse_value
decreases-parse_value l = 8 * l.depth

abbrev pub decreases-parse_pair : goal.decreases-parse_pair
decreases-parse_pair l = 8 * l.depth + 1

abbrev pub decreases-parse_property-enclose : goal.decreases-parse_property-enclose
decreases-parse_property-enclose l = 8 * l.depth + 2

abbrev pub decreases-parse_property : goal.decreases-parse_property
decreases-parse_property l = 8 * l.depth + 3

abbrev pub decreases-parse_elements-parse_members : goal.decreases-parse_elements-parse_members
decreases-parse_elements-parse_members l = 8 * l.depth + 4

abbrev pub decreases-parse_properties-parse_members : goal.decreases-parse_properties-parse_members
decreases-parse_properties-parse_members l = 8 * l.depth + 4

abbrev pub decreases-parse_elements : goal.decreases-parse_elements
decreases-parse_elements l = 8 * l.depth + 5

abbrev pub decreases-parse_properties : goal.decreases-parse_properties
decreases-parse_properties l = 8 * l.depth + 5

abbrev pub decreases-parse_list_value-enclose : goal.decreases-parse_list_value-enclose
decreases-parse_list_value-enclose l = 8 * l.depth + 6

abbrev pub decreases-parse_map_value-enclose : goal.decreases-parse_map_value-enclose
decreases-parse_map_value-enclose l = 8 * l.depth + 6

abbrev pub decreases-parse_list_value : goal.decreases-parse_list_value
decreases-parse_list_value l = 8 * l.depth + 7

abbrev pub decreases-parse_map_value : goal.decreases-parse_map_value
decreases-parse_map_value l = 8 * l.depth + 7
