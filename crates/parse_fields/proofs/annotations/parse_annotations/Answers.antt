-- `parse_fields::annotations::parse_annotations` meets its contract.
use Prim.Native.Nat.{ℕ}
use Rattle.steps.specs.Reads.{Source}
use Rattle.steps.proofs.Chain.{begins, ends, last, when, unless}
use Rattle.parse_fields.specs.Into.{bracketed_in}
use Rattle.parse_fields.proofs.Forms.{annotations_is}
use Rattle.token.specs.Code.{code}
use Rattle.parse_fields.proofs.annotations.parse_annotations.Goals as goal

pub returns-then-not-is : goal.returns-then-not-is
unfolding code
returns-then-not-is c = ends (unless _ _ _ _ c.is.ensures c.if-not-is.true (begins (annotations_is _ _ _ _ _ _)))

pub returns : goal.returns
unfolding code
returns c =
    last (c.enclose.ensures (λ (q : ℕ) (x : Source). bracketed_in x.text x.base q) (λ s n r t h. h)) (when _ _ _ _ c.is.ensures c.if-not-is.false (begins (annotations_is _ _ _ _ _ _)))
