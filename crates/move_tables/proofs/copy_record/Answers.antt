-- `move_tables::copy_record` meets its contract.
use native.Mathlib.Omega.{arith}
use borrow.Author.Rules.{rules}
use Rattle.ast.specs.Records.{comment_width}
use Rattle.move_tables.proofs.Copying.{carried}
use Rattle.move_tables.proofs.copy_record.Goals as goal

pub slice_bounds-copy_from_slice-end : goal.slice_bounds-copy_from_slice-end
unfolding comment_width
slice_bounds-copy_from_slice-end c = omega (arith, c.requires.room)

pub slice_bounds-copy_from_slice-end-2 : goal.slice_bounds-copy_from_slice-end-2
unfolding comment_width
slice_bounds-copy_from_slice-end-2 c = omega (arith, c.requires.there)

pub returns : goal.returns
unfolding comment_width
returns c = carried _ _ _ c.requires (omega arith) (omega arith) c.copy_from_slice.ensures.after (search rules)
