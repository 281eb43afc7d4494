-- `parse_values::values::is_opener` meets its contract.
use Rattle.parser.specs.Values.{openers}
use Rattle.parser.proofs.KindLaws.{any_of}
use Rattle.parse_values.proofs.KindTests.{opener_is, opener_not}
use Rattle.parse_values.proofs.values.is_opener.Goals as goal

pub returns-in-LeftBracket : goal.returns-in-LeftBracket
returns-in-LeftBracket c = opener_is _ (any_of _ openers c.in-LeftBracket.is)

pub returns-in_default : goal.returns-in_default
returns-in_default c = let n = c.in_default in opener_not _ n.not-LeftBracket n.not-LeftBrace
