-- `scan::run` meets its contract: the test is that of a run's end.
use native.Mathlib.Omega.{arith}
use borrow.Author.Rules.{rules}
use Rattle.token.specs.Run.{stops}
use Rattle.scan.proofs.RunLaws.{run_first}
use Rattle.scan.proofs.run.Goals as goal

pub returns : goal.returns
unfolding stops
returns c = run_first _ _ _ (λ x l b p. search rules) (λ j. omega (arith, c.type_inv.text j)) c.find.ensures
