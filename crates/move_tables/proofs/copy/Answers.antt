-- `move_tables::copy` meets its contract. The invariant: so many records are copied.
use Rattle.move_tables.proofs.Copying.{copy_start, copy_carries, copy_on, copy_done}
use Rattle.move_tables.proofs.copy.Goals as goal

pub loop-n-init : goal.loop-n-init
loop-n-init g c = copy_start _

pub copy_record-requires : goal.copy_record-requires
copy_record-requires g c = copy_carries c.requires c.loop-n-test.true c.loop-n.invariant

pub loop-n-preserved : goal.loop-n-preserved
loop-n-preserved g c = copy_on c.requires c.loop-n-test.true c.loop-n.invariant c.copy_record.ensures

pub returns : goal.returns
returns g c = copy_done c.loop-n-test.false c.loop-n.invariant
