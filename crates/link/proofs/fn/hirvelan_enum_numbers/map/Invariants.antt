-- What the closure in `link::hirvelan_enum_numbers` gives.
use mathlib.Core.Path.{◌≡◌}
use mathlib.Core.List.{[], ◌∷◌}
use Rattle.link.proofs.fn.hirvelan_enum_numbers.map.Given as goal

abbrev pub ensures : goal.ensures
ensures l r = r ≡ 0 ∷ l.members ∷ []
