-- `parse_values::types::leaf_type` meets its contract.
use Rattle.token.specs.Code.{code}
use Rattle.ast.specs.KindNumber.{number_or_none}
use Rattle.parser.proofs.KindLaws.{any_of, none_of, none_left}
use Rattle.parse_values.specs.Into.{leaf_type}
use Rattle.parse_values.proofs.KindTests.{words, leaf_type_word, leaf_type_not}
use Rattle.parse_values.proofs.types.leaf_type.Goals as goal

pub returns-in-Bool : goal.returns-in-Bool
unfolding number_or_none
returns-in-Bool c = leaf_type_word _ (any_of _ words c.in-Bool.is)

pub returns-in-Identifier : goal.returns-in-Identifier
unfolding number_or_none leaf_type code
returns-in-Identifier c = rw c.in-Identifier.is

pub returns-in_default : goal.returns-in_default
unfolding number_or_none
returns-in_default c =
    let n = c.in_default in
    leaf_type_not _ (none_of _ n.not-Binary (none_of _ n.not-String (none_of _ n.not-Byte (none_of _ n.not-I8 (none_of _ n.not-I16 (none_of _ n.not-I32 (none_of _ n.not-I64 (none_of _ n.not-Double (none_of _ n.not-Bool (none_of _ n.not-Identifier (none_left _)))))))))))
