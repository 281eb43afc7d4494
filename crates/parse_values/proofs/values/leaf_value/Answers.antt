-- `parse_values::values::leaf_value` meets its contract.
use Rattle.token.specs.Code.{code}
use Rattle.ast.specs.KindNumber.{number_or_none}
use Rattle.parser.proofs.KindLaws.{none_of, none_left}
use Rattle.parse_values.specs.Into.{leaf_value}
use Rattle.parse_values.proofs.KindTests.{leaf_value_not}
use Rattle.parse_values.proofs.values.leaf_value.Goals as goal

pub returns-in-Identifier : goal.returns-in-Identifier
unfolding number_or_none leaf_value code
returns-in-Identifier c = rw c.in-Identifier.is

pub returns-in-StringLiteral : goal.returns-in-StringLiteral
unfolding number_or_none leaf_value code
returns-in-StringLiteral c = rw c.in-StringLiteral.is

pub returns-in-DoubleLiteral : goal.returns-in-DoubleLiteral
unfolding number_or_none leaf_value code
returns-in-DoubleLiteral c = rw c.in-DoubleLiteral.is

pub returns-in-HexLiteral : goal.returns-in-HexLiteral
unfolding number_or_none leaf_value code
returns-in-HexLiteral c = rw c.in-HexLiteral.is

pub returns-in-IntegerLiteral : goal.returns-in-IntegerLiteral
unfolding number_or_none leaf_value code
returns-in-IntegerLiteral c = rw c.in-IntegerLiteral.is

pub returns-in-BooleanLiteral : goal.returns-in-BooleanLiteral
unfolding number_or_none leaf_value code
returns-in-BooleanLiteral c = rw c.in-BooleanLiteral.is

pub returns-in_default : goal.returns-in_default
unfolding number_or_none
returns-in_default c =
    let n = c.in_default in
    leaf_value_not _ (none_of _ n.not-StringLiteral (none_of _ n.not-IntegerLiteral (none_of _ n.not-DoubleLiteral (none_of _ n.not-BooleanLiteral (none_of _ n.not-HexLiteral (none_of _ n.not-Identifier (none_left _)))))))
