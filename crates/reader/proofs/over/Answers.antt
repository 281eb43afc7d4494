-- `reader::over` meets its contract.
use mathlib.Core.Path.{refl, sym, ◌∙◌}
use borrow.Author.Tests.{eq-eqb, ne_eqb}
use Rattle.lexer.specs.declared.error.ErrorKind.TheVariants as E
use Rattle.steps.proofs.Chain.{begins, halts, ends, when, unless}
use Rattle.reader.specs.Into.{over_in}
use Rattle.reader.proofs.over.Goals as goal

pub returns-then-index_of-eq1 : goal.returns-then-index_of-eq1
unfolding over_in
returns-then-index_of-eq1 c = halts _ E.UnexpectedEOF c.error.ensures (when _ _ _ _ refl (eq-eqb _ _ (sym c.index_of.ensures ∙ c.if-index_of-eq1.true)) (begins refl))

pub returns : goal.returns
unfolding over_in
returns c = ends (unless _ _ _ _ refl (ne_eqb _ _ (λ e. c.if-index_of-eq1.false (c.index_of.ensures ∙ e))) (begins refl))
