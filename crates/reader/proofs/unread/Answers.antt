-- `reader::unread` meets its contract.
use Rattle.lexer.specs.Location.{between, opening}
use Rattle.lexer.proofs.PlaceLaws.{opening_placed}
use Rattle.reader.specs.Into.{unread}
use Rattle.steps.proofs.PackLaws.{small_span}
use Rattle.reader.proofs.unread.Goals as goal

pub span-requires : goal.span-requires
span-requires c = rw c.new.ensures opening_placed

pub pack-start-requires : goal.pack-start-requires
pack-start-requires c = rw (c.span.ensures, c.new.ensures) (small_span opening opening_placed)

pub returns : goal.returns
unfolding unread between
returns c = rw (c.pack-start.ensures, c.span.ensures, c.new.ensures)
