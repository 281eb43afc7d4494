-- `write_fields::write_annotation_block` meets its contract.
use Rattle.cursor.specs.Writes.{Source}
use Rattle.cursor.proofs.Chain.{begins, last}
use Rattle.write_fields.specs.Onto.{annotation_out}
use Rattle.write_fields.proofs.Shapes.{block_is}
use Rattle.write_fields.proofs.write_annotation_block.Goals as goal

pub returns : goal.returns
returns c = last (c.write_brackets.ensures (λ (x : Source). annotation_out x.text x.nodes) (λ s t h. h)) (begins (block_is _ _ _ _ _))
