-- `scan::run_above` meets its contract: as `run`, and every class is below 60.
use native.Mathlib.Omega.{arith}
use mathlib.Core.Path.{◌≡◌, sym, ◌∙◌}
use mathlib.Core.Bool.{true}
use lib.Dec.{leb, ltb}
use borrow.Author.Rules.{rules}
use Rattle.std.proofs.Math.Bool.{and-true}
use Rattle.std.proofs.lemmas.Bool.{lt-ltb}
use Rattle.token.specs.Run.{class_of, stops}
use Rattle.token.proofs.Classes.{class_below}
use Rattle.scan.proofs.RunLaws.{run_first}
use Rattle.scan.proofs.run_above.Goals as goal

pub returns : goal.returns
unfolding stops
returns c = run_first _ _ _ (λ x l b p.
    let e : b ≡ leb c.args.from (class_of x) = search rules in
    let k : ltb (class_of x) 60 ≡ true = lt-ltb (class_of x) 60 (class_below x l) in
    rw k (e ∙ sym (and-true (leb c.args.from (class_of x))))) (λ j. omega (arith, c.type_inv.text j)) c.find.ensures
