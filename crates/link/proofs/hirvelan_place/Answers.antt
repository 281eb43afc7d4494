-- `link::hirvelan_place` meets its contract.
use mathlib.Core.Path.{ap, ◌∙◌}
use Rattle.lexer.specs.declared.location.Span.{Span}
use Rattle.link.specs.Told.{laid, three}
use Rattle.link.proofs.hirvelan_place.Goals as goal

pub returns : goal.returns
unfolding three
returns c = c.lay.ensures ∙ ap (λ (s : Span). laid (three s) c.args.place.now) c.find-found.ensures
