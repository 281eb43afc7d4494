-- `enum_members::number_members` meets its contract.
use mathlib.Core.Path.{◌≡◌, sym, ap, ◌∙◌}
use mathlib.Core.List.{List}
use lib.IntN.{ℤ}
use borrow.Author.Rules.{rules}
use Rattle.std.specs.Prelude.{Result}
use Rattle.records.specs.declared.Part.{Part}
use Rattle.enum_members.specs.declared.Walk.{Walk}
use Rattle.enum_members.specs.Numbers.{Listing}
use Rattle.enum_members.specs.Walk.{shows, definitions_in, finished}
use Rattle.enum_members.proofs.Meant.{walk_means}
use Rattle.enum_members.proofs.number_members.Goals as goal

-- the list, by the name that it was lent under
handed : (r : Result (Unit {0}) Part) (w : Walk) {x : Listing} {l : List ℤ} (u : List ℤ) → x ≡ finished (shows r w l) → l ≡ u → x ≡ finished (shows r w u)
handed r w u e h = e ∙ ap (λ (v : List ℤ). finished (shows r w v)) h

pub returns-clause-walks : goal.returns-clause-walks
unfolding definitions_in
returns-clause-walks c =
    let turn = c.number_definitions-turn in
    let f = c.finish.ensures in
    let lent = sym turn.ensures.lent in
    handed turn.result turn.new.self.at turn.new.self.list.now f (search rules) ∙ ap finished turn.ensures.goes

pub returns-clause-means : goal.returns-clause-means
returns-clause-means c ds f = returns-clause-walks c ∙ walk_means c.args.text.now c.args.nodes.now c.args.count ds c.args.list.now f
