-- `scan::find_line_feed` meets its contract: the class 39 is that of the line feed alone.
use mathlib.Core.Path.{◌≡◌, ◌∙◌}
use native.Mathlib.Omega.{arith}
use borrow.Author.Rules.{rules}
use lib.Dec.{eqb}
use Rattle.scan.proofs.RunLaws.{run_first}
use Rattle.scan.proofs.OneByte.{stops_line}
use Rattle.scan.proofs.find_line_feed.Goals as goal

pub returns : goal.returns
returns c = run_first 39 40 _ (λ x l b p. let e : b ≡ eqb x 10 = search rules in e ∙ stops_line x l) (λ j. omega (arith, c.type_inv.text j)) c.find.ensures
