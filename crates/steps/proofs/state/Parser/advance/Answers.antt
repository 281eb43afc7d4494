-- `steps::state::Parser::advance` meets its contract.
use mathlib.Core.Path.{refl, ap, sym, ◌∙◌}
use Rattle.std.specs.Prelude.{Option}
use Rattle.steps.specs.declared.state.Ahead.{Ahead}
use Rattle.steps.specs.Into.{advance_in, advanced, ahead_of, token_of, loc_or, done}
use Rattle.steps.proofs.Chain.{does}
use Rattle.steps.proofs.state.Parser.advance.Goals as goal

pub returns-in-Some : goal.returns-in-Some
unfolding advance_in advanced ahead_of token_of loc_or
returns-in-Some c =
    let p = c.args.self.now in
    does (ap (λ (f : Option Ahead). done (ahead_of f p.state) p.nodes.now p.comments.now) (sym (sym c.look-found.ensures ∙ c.in-Some.is))) refl refl refl

pub returns-in-None : goal.returns-in-None
unfolding advance_in advanced ahead_of token_of loc_or
returns-in-None c =
    let p = c.args.self.now in
    does (ap (λ (f : Option Ahead). done (ahead_of f p.state) p.nodes.now p.comments.now) (sym (sym c.look-found.ensures ∙ c.in-None.is))) refl refl refl
