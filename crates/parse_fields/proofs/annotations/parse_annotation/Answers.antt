-- `parse_fields::annotations::parse_annotation` meets its contract.
use Prim.Native.Nat.{ℕ}
use Rattle.steps.specs.Reads.{Source}
use Rattle.steps.specs.Into.{advance_in}
use Rattle.steps.proofs.Chain.{begins, on, off, last, ends, when, unless}
use Rattle.parse_fields.specs.Into.{assignment_in, one_separator_in}
use Rattle.parse_fields.proofs.Forms.{annotation_is}
use Rattle.parse_fields.proofs.annotations.parse_annotation.Goals as goal

pub returns-in_err-enclose : goal.returns-in_err-enclose
returns-in_err-enclose c =
    off (c.enclose.ensures (λ (q : ℕ) (x : Source). assignment_in x.text x.base q) (λ s n r t h. h)) c.in_err-enclose.was c.from_residual.ensures _ (begins (annotation_is _ _ _ _ _ _))

pub returns-then-is_separator : goal.returns-then-is_separator
unfolding one_separator_in advance_in
returns-then-is_separator c =
    last c.advance.ensures
    (when _ _ _ _ c.is_separator.ensures c.if-is_separator.true
    (on (c.enclose.ensures (λ (q : ℕ) (x : Source). assignment_in x.text x.base q) (λ s n r t h. h)) c.in_ok-enclose.was _ (begins (annotation_is _ _ _ _ _ _))))

pub returns-else-is_separator : goal.returns-else-is_separator
unfolding one_separator_in
returns-else-is_separator c =
    ends
    (unless _ _ _ _ c.is_separator.ensures c.if-is_separator.false
    (on (c.enclose.ensures (λ (q : ℕ) (x : Source). assignment_in x.text x.base q) (λ s n r t h. h)) c.in_ok-enclose.was _ (begins (annotation_is _ _ _ _ _ _))))
