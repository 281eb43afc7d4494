-- `lexer::location::pass_lexeme` meets its contract.
use mathlib.Core.Path.{sym, ap, ◌∙◌}
use Rattle.token.specs.Code.{code}
use Rattle.token.specs.declared.Token.TheVariants as T
use Rattle.token.proofs.Codes.{same_code}
use Rattle.lexer.proofs.PlaceLaws.{not_code, pass_code, pass_plain}
use Rattle.lexer.proofs.location.pass_lexeme.Goals as goal

pub returns-in-BlockComment : goal.returns-in-BlockComment
returns-in-BlockComment c = c.pass_block.ensures ∙ sym (pass_code _ c.args.token T.BlockComment _ c.args.lexer (ap code c.in-BlockComment.is))

pub returns : goal.returns
returns c = sym (pass_plain _ c.args.token _ c.args.lexer c.requires.2 (not_code c.args.token T.BlockComment (λ e. c.in_default.not-BlockComment (same_code _ _ e))))
