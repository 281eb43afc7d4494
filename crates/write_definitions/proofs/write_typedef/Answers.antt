-- `write_definitions::write_typedef` meets its contract.
use mathlib.Core.Path.{refl}
use Rattle.token.specs.Regex.{bytes as ascii}
use Rattle.cursor.specs.Onto.{say_out}
use Rattle.cursor.proofs.Chain.{begins, kept, last}
use Rattle.write_definitions.proofs.write_typedef.Goals as goal

pub returns : goal.returns
unfolding say_out ascii
returns c = last c.put.ensures (kept c.write_typed_name.ensures _ (begins refl))
