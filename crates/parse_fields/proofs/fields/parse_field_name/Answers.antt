-- `parse_fields::fields::parse_field_name` meets its contract.
use mathlib.Core.Path.{refl}
use Rattle.lexer.specs.declared.error.ErrorKind.TheVariants as E
use Rattle.steps.proofs.AheadTests.{by_some, by_none}
use Rattle.steps.proofs.Chain.{begins, kept, halts, last, when, unless}
use Rattle.parse_fields.specs.Into.{is_field_name}
use Rattle.parse_fields.proofs.Forms.{field_name_is}
use Rattle.parse_fields.proofs.KindTests.{name_test}
use Rattle.parse_fields.proofs.fields.parse_field_name.Goals as goal
use Rattle.parse_fields.proofs.fields.parse_field_name.Goals.{in_default-via-in-Some+else-is_field_name, in_default-via-in_default}

pub returns-in-Some : goal.returns-in-Some
returns-in-Some c =
    last c.put_leaf.ensures
    (kept c.advance.ensures _ (when _ _ _ _ refl (by_some is_field_name c.in-Some.is c.is_field_name.ensures c.if-is_field_name.true) (begins (field_name_is _ _ _ _ _ _))))

pub returns-in_default : goal.returns-in_default
returns-in_default c =
    halts _ E.InvalidFieldName c.error.ensures
    (unless _ _ _ _ refl
    (elim c.in_default.branch [
      | in_default-via-in-Some+else-is_field_name w ↦ by_some is_field_name w.in-Some.is w.is_field_name.ensures w.if-is_field_name.false
      | in_default-via-in_default w ↦ by_none is_field_name name_test.fails w.in_default.not-Some
    ])
    (begins (field_name_is _ _ _ _ _ _)))
