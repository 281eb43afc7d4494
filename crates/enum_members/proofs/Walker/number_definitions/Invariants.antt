-- `enum_members::Walker::number_definitions` meets its contract. The invariant: the definitions left lead where all of them lead.
use Rattle.records.specs.Siblings.{left}
use Rattle.records.specs.Each.{each_in}
use Rattle.records.specs.Table.{siblings}
use Rattle.enum_members.specs.Walk.{at, definition_in}
use Rattle.enum_members.specs.Walks.{source}
use Rattle.enum_members.proofs.Chain.{Left}
use Rattle.enum_members.proofs.Walker.number_definitions.Given as goal

abbrev pub invariant-loop-n : goal.invariant-loop-n
invariant-loop-n l =
    let s = l.fn.self in
    let x = source s in
    let f = definition_in x.text x.nodes in
    Left (each_in f (siblings x.nodes l.count 0) (at s.at s.list.now)) s (each_in f (left l.n-iterator) (at l.self.at l.self.list.now)) l.self
