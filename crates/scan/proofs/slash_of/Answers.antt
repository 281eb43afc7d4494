-- `scan::slash_of` meets its contract.
use mathlib.Core.Path.{sym, ap, ◌∙◌}
use Rattle.token.specs.declared.Token.TheVariants as T
use Rattle.std.specs.Prelude.{Some}
use Rattle.token.proofs.Reach.{reach_end}
use Rattle.scan.proofs.ScanLaws.{slash_slash, slash_star, slash_stop, comment_done}
use Rattle.scan.proofs.slash_of.Goals as goal

pub returns-then-text-le1 : goal.returns-then-text-le1
returns-then-text-le1 c = sym (reach_end c.requires c.if-text-le1.true)

pub returns-then-k-eq-SLASH : goal.returns-then-k-eq-SLASH
returns-then-k-eq-SLASH c =
    let r = slash_slash c.requires c.if-text-le1.false (sym c.class_at-k.ensures ∙ c.if-k-eq-SLASH.true) in
    ap (λ n. Some (T.LineComment, n)) c.find_line_feed.ensures ∙ sym (comment_done r)

pub block_of-requires : goal.block_of-requires
block_of-requires c = (slash_star c.requires c.if-text-le1.false (sym c.class_at-k.ensures ∙ c.if-k-eq-STAR.true))

pub returns : goal.returns
returns c = sym (slash_stop c.requires c.if-text-le1.false (λ e. c.if-k-eq-SLASH.false (c.class_at-k.ensures ∙ e)) (λ e. c.if-k-eq-STAR.false (c.class_at-k.ensures ∙ e)))
