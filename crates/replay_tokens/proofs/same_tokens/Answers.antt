-- What the lexer answers is `next` of the text, so that a token leaves it where it may stand.
use Rattle.std.proofs.Common.{sym, ◌∙◌}
use Rattle.lexer.proofs.PlaceLaws.{opening_placed}
use Rattle.lexer.proofs.NextLaws.{next_placed}
use Rattle.replay_tokens.proofs.same_tokens.Goals as goal

pub loop-row-init : goal.loop-row-init
loop-row-init c = rw c.new-from.ensures opening_placed

pub loop-row-preserved : goal.loop-row-preserved
loop-row-preserved c = next_placed _ _ _ _ c.loop-row.invariant c.requires (sym c.next_token.ensures ∙ c.in-On.is)
