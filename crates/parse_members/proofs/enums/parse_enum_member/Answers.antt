-- `parse_members::enums::parse_enum_member` meets its contract.
use Rattle.steps.proofs.Chain.{begins, kept, on, off, last}
use Rattle.parse_members.proofs.Forms.{member_is}
use Rattle.parse_members.proofs.enums.parse_enum_member.Goals as goal

pub returns-in_err-parse_name : goal.returns-in_err-parse_name
returns-in_err-parse_name c = off c.parse_name.ensures c.in_err-parse_name.was c.from_residual.ensures _ (kept c.begin_node.ensures _ (begins (member_is _ _ _ _ _ _)))

pub returns-in_err-parse_initializer : goal.returns-in_err-parse_initializer
returns-in_err-parse_initializer c =
    off c.parse_initializer.ensures c.in_err-parse_initializer.was c.from_residual-in_err-parse_initializer.ensures _
    (on c.parse_name.ensures c.in_ok-parse_name.was _ (kept c.begin_node.ensures _ (begins (member_is _ _ _ _ _ _))))

pub returns-in_err-parse_annotations : goal.returns-in_err-parse_annotations
returns-in_err-parse_annotations c =
    off c.parse_annotations.ensures c.in_err-parse_annotations.was c.from_residual-in_err-parse_annotations.ensures _
    (on c.parse_initializer.ensures c.in_ok-parse_initializer.was _
    (on c.parse_name.ensures c.in_ok-parse_name.was _ (kept c.begin_node.ensures _ (begins (member_is _ _ _ _ _ _)))))

pub returns : goal.returns
returns c =
    last c.put_node.ensures
    (on c.parse_annotations.ensures c.in_ok-parse_annotations.was _
    (on c.parse_initializer.ensures c.in_ok-parse_initializer.was _
    (on c.parse_name.ensures c.in_ok-parse_name.was _ (kept c.begin_node.ensures _ (begins (member_is _ _ _ _ _ _))))))
