-- `lexer::location::pass_block` meets its contract. The invariant: the lexer stands behind the bytes passed.
use mathlib.Core.Path.{◌≡◌, refl, sym, ap, ◌∙◌}
use mathlib.Core.List.{[]}
use Prim.Native.Nat.{◌+◌}
use native.Mathlib.Omega.{arith}
use lib.ListN.{take, length-take}
use lib.Seq.{take_all}
use Rattle.token.specs.declared.Token.TheVariants as T
use Rattle.lexer.specs.Location.{pass}
use Rattle.lexer.proofs.CutLaws.{pass_at}
use Rattle.lexer.proofs.PlaceLaws.{pass_placed, block_more}
use Rattle.lexer.proofs.location.pass_block.Goals as goal

pub loop-byte-init : goal.loop-byte-init
unfolding pass
loop-byte-init c = (omega arith, omega arith, refl)

pub behind-now-requires : goal.behind-now-requires
behind-now-requires c =
    (rw c.loop-byte.invariant.2 (pass_placed _ T.BlockComment [] c.args.lexer c.requires.0 (omega (arith, length-take c.loop-byte.byte-index c.args.comment.now))), omega (arith, c.loop-byte.invariant.1))

pub loop-byte-preserved : goal.loop-byte-preserved
loop-byte-preserved c =
    let w = c.args.comment.now in
    let e : c.behind-now.result ≡ pass (take (c.loop-byte.byte-index + 1) w) T.BlockComment [] c.args.lexer
    = c.behind-now.ensures ∙ rw c.loop-byte.invariant.2 (sym (block_more w c.args.lexer c.loop-byte.byte-index c.loop-byte-test.true)) in
    (omega arith, ap (λ x. x.at) e ∙ pass_at _ T.BlockComment [] c.args.lexer ∙ omega (arith, length-take (c.loop-byte.byte-index + 1) w), e)

pub returns : goal.returns
returns c = c.loop-byte.invariant.2 ∙ ap (λ x. pass x T.BlockComment [] c.args.lexer) (take_all _ _ c.loop-byte-test.false)
