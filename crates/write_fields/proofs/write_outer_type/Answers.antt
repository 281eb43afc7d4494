-- `write_fields::write_outer_type` meets its contract.
use mathlib.Core.Path.{sym, ◌∙◌}
use Rattle.cursor.proofs.Chain.{begins, last}
use Rattle.write_fields.proofs.Shapes.{type_token}
use Rattle.write_fields.proofs.write_outer_type.Goals as goal

pub returns : goal.returns
returns c =
    last c.put_token.ensures
    (begins (type_token _ _ _ _ _ _ (sym c.is.ensures ∙ c.if-is.false) (sym c.is-else-is.ensures ∙ c.if-is-2.false) (sym c.is-else-is-2.ensures ∙ c.if-is-3.false)))
