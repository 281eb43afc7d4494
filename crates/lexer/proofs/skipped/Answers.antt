-- `lexer::skipped` meets its contract.
use mathlib.Core.Logic.{⊎_elim}
use borrow.Author.Tests.{ne_eqb}
use Rattle.token.specs.Code.{code, is}
use Rattle.token.proofs.Codes.{same_code}
use Rattle.lexer.specs.Tokens.{skipped}
use Rattle.lexer.proofs.skipped.Goals as goal

pub returns-in-Blank : goal.returns-in-Blank
unfolding skipped is code
returns-in-Blank c = ⊎_elim (λ e. rw e) (λ e. rw e) c.in-Blank.is

pub returns-in_default : goal.returns-in_default
unfolding skipped is
returns-in_default c = rw (ne_eqb _ _ (λ e. c.in_default.not-Blank (same_code _ _ e)), ne_eqb _ _ (λ e. c.in_default.not-Newline (same_code _ _ e)))
