-- `enum_members::Walker::number_enum` meets its contract. The invariant: the children left lead where all of them lead.
use Rattle.records.specs.Siblings.{left}
use Rattle.records.specs.Each.{each_in}
use Rattle.enum_members.specs.Walk.{at, child_in, members_in}
use Rattle.enum_members.specs.Walks.{source}
use Rattle.enum_members.proofs.Chain.{Left}
use Rattle.enum_members.proofs.Walker.number_enum.Given as goal

abbrev pub invariant-loop-child : goal.invariant-loop-child
invariant-loop-child l =
    let s = l.fn.self in
    let x = source s in
    Left (members_in x.text x.nodes l.n s.at.members s.list.now) s (each_in (child_in x.text x.nodes) (left l.child-iterator) (at l.self.at l.self.list.now)) l.self
