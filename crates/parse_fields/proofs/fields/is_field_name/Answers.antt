-- `parse_fields::fields::is_field_name` meets its contract.
use Rattle.parser.proofs.KindLaws.{any_of, none_of, none_left}
use Rattle.parse_fields.proofs.KindTests.{words, name_word, name_not}
use Rattle.parse_fields.proofs.fields.is_field_name.Goals as goal

pub returns-in-Namespace : goal.returns-in-Namespace
returns-in-Namespace c = name_word _ (any_of _ words c.in-Namespace.is)

pub returns-in_default : goal.returns-in_default
returns-in_default c = let n = c.in_default in name_not _ (none_of _ n.not-Identifier (none_of _ n.not-Namespace (none_of _ n.not-Include (none_of _ n.not-List (none_of _ n.not-Map (none_of _ n.not-Set (none_of _ n.not-Oneway (none_of _ n.not-Required (none_of _ n.not-Optional (none_of _ n.not-Throws (none_of _ n.not-Bool (none_of _ n.not-Byte (none_of _ n.not-I8 (none_of _ n.not-I16 (none_of _ n.not-I32 (none_of _ n.not-I64 (none_of _ n.not-String (none_of _ n.not-Binary (none_of _ n.not-Extends (none_of _ n.not-Struct (none_of _ n.not-Double (none_of _ n.not-Service (none_of _ n.not-Enum (none_left _))))))))))))))))))))))))
