-- `move_tables::Table::movable` meets its contract: each answer is a case of `unmovable` (`Answers`).
use mathlib.Core.Path.{refl}
use Rattle.move_tables.proofs.Answers.{bad_length, bad_found, fine}
use Rattle.move_tables.proofs.Table.movable.Goals as goal

pub returns-then-self-ne0 : goal.returns-then-self-ne0
returns-then-self-ne0 g c = (0, bad_length _ _ c.then-self-ne0.either, c.refuse.ensures)

pub returns-in-Some : goal.returns-in-Some
returns-in-Some g c =
    (c.in-Some.bad, bad_found _ _ c.if-self-ne0.false c.if-count-gt-MOST_RECORDS.false c.requires c.bad_parent.ensures c.in-Some.is, c.refuse-in-Some.ensures)

pub returns : goal.returns
returns g c = (refl, fine _ _ c.if-self-ne0.false c.if-count-gt-MOST_RECORDS.false c.requires c.bad_parent.ensures c.in_default.is, refl)
