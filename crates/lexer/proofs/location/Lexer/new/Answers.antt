-- `lexer::location::Lexer::new` meets its contract.
use mathlib.Core.Path.{refl}
use Rattle.lexer.specs.Location.{opening}
use Rattle.lexer.proofs.location.Lexer.new.Goals as goal

pub returns : goal.returns
unfolding opening
returns c = refl
