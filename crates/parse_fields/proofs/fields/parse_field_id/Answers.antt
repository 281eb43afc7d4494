-- `parse_fields::fields::parse_field_id` meets its contract.
use Rattle.steps.proofs.Chain.{begins, kept, ends, halts, last, when, unless}
use Rattle.parse_fields.proofs.Forms.{field_id_is}
use Rattle.lexer.specs.declared.error.ErrorKind.TheVariants as E
use Rattle.token.specs.Code.{code}
use Rattle.parse_fields.proofs.fields.parse_field_id.Goals as goal

pub returns-then-not-is : goal.returns-then-not-is
unfolding code
returns-then-not-is c = ends (unless _ _ _ _ c.is.ensures c.if-not-is.true (begins (field_id_is _ _ _ _ _ _)))

pub returns-then-not-is_id_at : goal.returns-then-not-is_id_at
unfolding code
returns-then-not-is_id_at c =
    halts _ E.InvalidFieldId c.error.ensures
    (unless _ _ _ _ c.is_id_at.ensures c.if-not-is_id_at.true (when _ _ _ _ c.is.ensures c.if-not-is.false (begins (field_id_is _ _ _ _ _ _))))

pub returns : goal.returns
unfolding code
returns c =
    last c.expect.ensures
    (kept c.put_leaf.ensures _
    (kept c.advance.ensures _
    (when _ _ _ _ c.is_id_at.ensures c.if-not-is_id_at.false (when _ _ _ _ c.is.ensures c.if-not-is.false (begins (field_id_is _ _ _ _ _ _))))))
