-- `write_fields::is_of` meets its contract.
use Rattle.write_fields.proofs.Shapes.{is_of_is}
use Rattle.write_fields.proofs.is_of.Goals as goal

pub returns : goal.returns
returns c = is_of_is _ _
