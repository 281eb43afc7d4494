-- `tokens::write_text` meets its contract: a text that is not refused is short enough for the lexer.
use Rattle.lexer.proofs.CheckLaws.{fine_fits, told_fine}
use Rattle.tokens.proofs.write_text.Goals as goal

pub write_tokens-requires : goal.write_tokens-requires
write_tokens-requires c = fine_fits _ (told_fine _ _ c.check.ensures _ c.in-Ok.is)
