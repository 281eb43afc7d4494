-- `move_tables::Table::parent` meets its contract.
use borrow.Author.Rules.{rules}
use Rattle.move_tables.specs.Walk.{parent_in}
use Rattle.move_tables.proofs.Table.parent.Goals as goal

pub returns : goal.returns
unfolding parent_in
returns g c = search rules
