-- `place::reached` meets its contract. The invariant: the way left from here leads where the whole way leads.
use mathlib.Core.Path.{◌≡◌}
use Prim.Native.Nat.{◌≤◌, ◌-◌}
use lib.ListN.{drop}
use Rattle.token.specs.declared.Token.TheVariants as T
use Rattle.lexer.specs.Location.{Placed, opening}
use Rattle.place.specs.Place.{walk}
use Rattle.place.proofs.reached.Given as goal

abbrev pub invariant-loop-from : goal.invariant-loop-from
invariant-loop-from l =
    Placed l.from × (l.from.at ≤ l.place) × (walk l.text T.Blank 0 l.place opening ≡ walk (drop l.from.at l.text) T.Blank 0 (l.place - l.from.at) l.from)

abbrev pub decreases-loop-from : goal.decreases-loop-from
decreases-loop-from l = l.place - l.from.at
