-- `move_tables::narrow` meets its contract: each answer is a case of the definition (`Answers`).
use mathlib.Core.Path.{◌∙◌}
use native.Mathlib.Omega.{arith}
use Rattle.std.proofs.lemmas.Result.{err_from_is_err_and}
use Rattle.ast.specs.Records.{comment_width, node_width}
use Rattle.move_tables.proofs.Answers.{good_are, wholes, narrow_unmovable, narrow_off, narrow_on}
use Rattle.move_tables.proofs.narrow.Goals as goal

pub returns-in_err-records : goal.returns-in_err-records
unfolding node_width
returns-in_err-records c =
    let p = err_from_is_err_and c.from_residual.result c.from_residual.ensures.1 in
    rw (p.1, p.2) (c.in_err-records.ensures.2 ∙ narrow_unmovable _ _ c.in_err-records.ensures.1)

pub bad_tenth-requires : goal.bad_tenth-requires
unfolding node_width
bad_tenth-requires c = good_are _ _ c.in_ok-records.ensures.1 c.in_ok-records.ensures.0

pub returns-in-Some : goal.returns-in-Some
unfolding node_width
returns-in-Some c = c.refuse.ensures ∙ narrow_off _ _ c.in_ok-records.ensures c.bad_tenth.ensures c.in-Some.is

pub lay-requires : goal.lay-requires
unfolding comment_width node_width
lay-requires c = (omega arith, wholes _ _ c.in_ok-records.ensures.1 c.in_ok-records.ensures.0 (omega arith) (omega arith) (omega arith))

pub returns : goal.returns
unfolding comment_width node_width
returns c = narrow_on _ _ c.in_ok-records.ensures c.bad_tenth.ensures c.in_default.is _ _ c.lay.ensures
