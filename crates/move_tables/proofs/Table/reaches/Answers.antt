-- `move_tables::Table::reaches` meets its contract.
use mathlib.Core.Path.{refl, sym, ◌∙◌}
use lib.Dec.{eqb}
use Rattle.std.proofs.Common.{rules, tests}
use Rattle.std.proofs.lemmas.Iterator.Consumers.{YieldsList-from_first}
use Rattle.std.proofs.lemmas.Iterator.Search.{any_from_yields_List}
use Rattle.ast.specs.Records.{no_parent}
use Rattle.move_tables.specs.Ancestors.{left}
use Rattle.move_tables.proofs.Climbing.{none_among, reached, stands_passes}
use Rattle.move_tables.proofs.Table.reaches.Goals as goal

pub any-requires-clause-can : goal.any-requires-clause-can
unfolding no_parent
any-requires-clause-can g c = (c.requires.0, stands_passes c.requires.1)

pub returns-then-p : goal.returns-then-p
unfolding no_parent
returns-then-p g c = λ m ancestors few is. rw c.if-p.true (sym (none_among is))

pub returns-else-p : goal.returns-else-p
unfolding no_parent left
returns-else-p g c =
    let p = c.args.p in
    let found = any_from_yields_List (λ a. eqb a p) c.any.new.self _ c.any.result c.any.ensures.ran (YieldsList-from_first (λ x. x) left _ refl) (λ x b q k. search (rules, tests)) in
    λ m ancestors few is. found ∙ reached p few c.if-p.false is
