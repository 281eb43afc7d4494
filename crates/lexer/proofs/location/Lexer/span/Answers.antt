-- `lexer::location::Lexer::span` meets its contract.
use mathlib.Core.Path.{refl}
use Rattle.lexer.specs.Location.{span_of}
use Rattle.lexer.proofs.location.Lexer.span.Goals as goal

pub returns : goal.returns
unfolding span_of
returns c = refl
