-- `Writer::put_comments` meets its contract.
use mathlib.Core.Path.{refl}
use lib.Dec.{eqb}
use Rattle.ast.specs.Records.{comment_width, room}
use Rattle.cursor.specs.Onto.{parent_at, comment_out, comments_from, comments_out}
use Rattle.cursor.proofs.Chain.{begins, last}
use Rattle.cursor.proofs.Writer.put_comments.Goals as goal

pub returns : goal.returns
unfolding comments_out comments_from room comment_width
returns c =
    let a = c.args.self.now.at.node in
    let i = c.args.indent in
    last
    (c.repeat.ensures (λ x p. eqb (parent_at comment_width x.comments x.total p.comment) a) (λ x. comment_out x.text x.comments i)
    (λ x. comments_from x.text x.comments x.total a i)
    (λ x. record { none = λ p o. refl; more = λ n p o. refl })
    (λ s r e h. h) (λ s t h. h))
    (begins refl)
