-- `write_definitions::write_include` meets its contract.
use mathlib.Core.Path.{refl}
use Rattle.token.specs.Regex.{bytes as ascii}
use Rattle.cursor.specs.Onto.{say_out}
use Rattle.cursor.proofs.Chain.{begins, kept, last}
use Rattle.write_definitions.proofs.write_include.Goals as goal

pub returns : goal.returns
unfolding say_out ascii
returns c = last c.put.ensures (kept c.put_token.ensures _ (begins refl))
