-- `steps::table::put_row` meets its contract.
use native.Mathlib.Omega.{arith}
use lib.ListN.{length-set}
use Rattle.ast.specs.Records.{comment_width}
use Rattle.steps.proofs.Cells.{row_on}
use Rattle.steps.proofs.table.put_row.Goals as goal

pub bounds-table-at : goal.bounds-table-at
unfolding comment_width
bounds-table-at c = omega arith

pub bounds-table-at-2 : goal.bounds-table-at-2
unfolding comment_width
bounds-table-at-2 c = simp length-set (omega arith)

pub bounds-table-at-3 : goal.bounds-table-at-3
unfolding comment_width
bounds-table-at-3 c = simp length-set (omega arith)

pub bounds-table-at-4 : goal.bounds-table-at-4
unfolding comment_width
bounds-table-at-4 c = simp length-set (omega arith)

pub bounds-table-at-5 : goal.bounds-table-at-5
unfolding comment_width
bounds-table-at-5 c = simp length-set (omega arith)

pub bounds-table-at-6 : goal.bounds-table-at-6
unfolding comment_width
bounds-table-at-6 c = simp length-set (omega arith)

pub bounds-table-at-7 : goal.bounds-table-at-7
unfolding comment_width
bounds-table-at-7 c = simp length-set (omega arith)

pub bounds-table-at-8 : goal.bounds-table-at-8
unfolding comment_width
bounds-table-at-8 c = simp length-set (omega arith)

pub bounds-table-at-9 : goal.bounds-table-at-9
unfolding comment_width
bounds-table-at-9 c = simp length-set (omega arith)

pub returns : goal.returns
returns c =
    rw (c.column_of-2.ensures, c.line_of-2.ensures, c.index_of-2.ensures, c.column_of.ensures, c.line_of.ensures, c.index_of.ensures)
    (row_on _ _ _ _ _ _ c.requires)
