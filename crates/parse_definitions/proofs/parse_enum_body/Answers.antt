-- `parse_definitions::parse_enum_body` meets its contract.
use mathlib.Core.Path.{refl}
use Rattle.steps.proofs.Chain.{begins, on, off, last}
use Rattle.parse_definitions.specs.Into.{enum_body_in}
use Rattle.parse_definitions.proofs.parse_enum_body.Goals as goal

pub returns-in_err-parse_name : goal.returns-in_err-parse_name
unfolding enum_body_in
returns-in_err-parse_name c = off c.parse_name.ensures c.in_err-parse_name.was c.from_residual.ensures _ (begins refl)

pub returns-in_err-parse_enum_members : goal.returns-in_err-parse_enum_members
unfolding enum_body_in
returns-in_err-parse_enum_members c = off c.parse_enum_members.ensures c.in_err-parse_enum_members.was c.from_residual-in_err-parse_enum_members.ensures _ (on c.parse_name.ensures c.in_ok-parse_name.was _ (begins refl))

pub returns : goal.returns
unfolding enum_body_in
returns c = last c.parse_annotations.ensures (on c.parse_enum_members.ensures c.in_ok-parse_enum_members.was _ (on c.parse_name.ensures c.in_ok-parse_name.was _ (begins refl)))
