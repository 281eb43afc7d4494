-- What the lexer answers is `next` of the text, so that a token leads it further and leaves it where it may stand.
use Rattle.std.proofs.Common.{sym, ◌∙◌, arith}
use Rattle.lexer.proofs.PlaceLaws.{opening_placed}
use Rattle.lexer.proofs.NextLaws.{next_placed, next_inside}
use Rattle.tokens.proofs.write_tokens.Goals as goal

pub loop-token-init : goal.loop-token-init
loop-token-init c = rw c.new-from.ensures opening_placed

pub loop-token-smaller : goal.loop-token-smaller
loop-token-smaller c =
    let i = next_inside _ _ _ _ (sym c.next_token.ensures ∙ c.in-On.is) in
    omega (arith, i.0, i.1, i.2, i.3)

pub loop-token-preserved : goal.loop-token-preserved
loop-token-preserved c = next_placed _ _ _ _ c.loop-token.invariant c.requires (sym c.next_token.ensures ∙ c.in-On.is)
