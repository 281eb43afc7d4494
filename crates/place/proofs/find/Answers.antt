-- `place::find` meets its contract.
use mathlib.Core.Path.{◌∙◌}
use Rattle.place.specs.Place.{place_of}
use Rattle.place.proofs.WalkLaws.{clipped}
use Rattle.place.proofs.find.Goals as goal

pub reached-requires : goal.reached-requires
reached-requires c =
    let f = clipped _ _ _ _ c.min-end.ensures c.min.ensures in
    (f.0, f.1)

pub returns : goal.returns
unfolding place_of
returns c = c.reached.ensures ∙ rw (c.min.ensures, c.min-end.ensures)
