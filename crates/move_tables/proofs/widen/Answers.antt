-- `move_tables::widen` meets its contract: each answer is a case of the definition (`Answers`).
use mathlib.Core.Path.{◌∙◌}
use native.Mathlib.Omega.{arith}
use Rattle.std.proofs.lemmas.Result.{err_from_is_err_and}
use Rattle.ast.specs.Records.{comment_width, node_width}
use Rattle.move_tables.proofs.Answers.{good_are, wholes, widen_unmovable, widen_off, widen_on}
use Rattle.move_tables.proofs.widen.Goals as goal

pub returns-in_err-records : goal.returns-in_err-records
unfolding comment_width
returns-in_err-records c =
    let p = err_from_is_err_and c.from_residual.result c.from_residual.ensures.1 in
    rw (p.1, p.2) (c.in_err-records.ensures.2 ∙ widen_unmovable _ _ c.in_err-records.ensures.1)

pub lay-requires : goal.lay-requires
unfolding comment_width node_width
lay-requires c = (omega arith, wholes _ _ c.in_ok-records.ensures.1 c.in_ok-records.ensures.0 (omega arith) (omega arith) (omega arith))

pub returns-in_err-lay : goal.returns-in_err-lay
unfolding comment_width node_width
returns-in_err-lay c =
    let p = err_from_is_err_and c.from_residual-in_err-lay.result c.from_residual-in_err-lay.ensures.1 in
    rw (p.1, p.2) (widen_off _ _ c.in_ok-records.ensures _ _ c.in_err-lay.ensures)

pub write_pasts-requires : goal.write_pasts-requires
unfolding comment_width node_width
write_pasts-requires c =
    let l = c.in_ok-lay.ensures in
    (good_are _ _ c.in_ok-records.ensures.1 c.in_ok-records.ensures.0, omega (arith, l.1, l.2.long))

pub returns : goal.returns
unfolding comment_width node_width
returns c = widen_on _ _ c.in_ok-records.ensures _ _ c.in_ok-lay.ensures c.write_pasts.ensures
