-- What the closure in `link::hirvelan_check` gives.
use mathlib.Core.Path.{◌≡◌}
use mathlib.Core.List.{[], ◌∷◌}
use Rattle.link.proofs.fn.hirvelan_check.map.Given as goal

abbrev pub ensures : goal.ensures
ensures l r = r ≡ 0 ∷ []
