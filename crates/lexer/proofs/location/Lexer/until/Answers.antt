-- `lexer::location::Lexer::until` meets its contract.
use Rattle.lexer.specs.Location.{between}
use Rattle.lexer.proofs.location.Lexer.until.Goals as goal

pub returns : goal.returns
unfolding between
returns c = rw (c.span-start.ensures, c.span-end.ensures)
