-- `Writer::pass_comments` meets its contract.
use mathlib.Core.Path.{refl}
use lib.Dec.{eqb}
use Rattle.ast.specs.Records.{comment_width, room}
use Rattle.cursor.specs.Onto.{parent_at, pass_comment, pass_comments_from, pass_comments}
use Rattle.cursor.proofs.Chain.{begins, last}
use Rattle.cursor.proofs.Writer.pass_comments.Goals as goal

pub returns : goal.returns
unfolding pass_comments pass_comments_from room comment_width
returns c =
    let a = c.args.self.now.at.node in
    last
    (c.repeat.ensures (λ x p. eqb (parent_at comment_width x.comments x.total p.comment) a) (λ x. pass_comment) (λ x. pass_comments_from x.comments x.total a)
    (λ x. record { none = λ p o. refl; more = λ n p o. refl })
    (λ s r e h. h) (λ s t h. h))
    (begins refl)
