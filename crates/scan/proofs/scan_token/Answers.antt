-- `scan::scan_token` meets its contract.
use mathlib.Core.Path.{ap, ◌∙◌}
use Rattle.token.specs.Scan.{scan}
use Rattle.scan.proofs.Part.{part}
use Rattle.scan.proofs.scan_token.Goals as goal

pub returns : goal.returns
returns c = let a = c.args in c.token_of.ensures ∙ ap scan (part a.text.now a.at)
