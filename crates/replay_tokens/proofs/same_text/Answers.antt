-- `replay_tokens::same_text` meets its contract: a text that the check lets pass, or refuses for another reason than its length, is short enough for the lexer.
use Rattle.std.specs.Prelude.{ℕ, ◌≤◌, ◌<◌, length}
use Rattle.std.proofs.Common.{ap, ◌∙◌, arith}
use Rattle.lexer.specs.Limit.{limit}
use Rattle.lexer.specs.Outcome.{refused}
use Rattle.lexer.specs.Refusal.{number_of}
use Rattle.lexer.proofs.CheckLaws.{fine_fits, ill_fits, unknown_fits, told_fine, told_refused}
use Rattle.replay_tokens.proofs.same_text.Goals as goal

both : {A : Type 0} (n : ℕ) → n ≤ limit → limit < n → A
both n f h = absurd (omega arith)

pub same_tokens-requires : goal.same_tokens-requires
same_tokens-requires c = fine_fits _ (told_fine _ _ c.check.ensures _ c.in-Ok.is)

pub same_tokens-requires-in-NoToken : goal.same_tokens-requires-in-NoToken
same_tokens-requires-in-NoToken c =
    unknown_fits _ _ _ (told_refused _ _ c.check.ensures _ c.in-Err.is ∙ ap (λ k. refused (number_of k) c.in-Err.refusal.place c.in-Err.refusal.length) c.in-NoToken.is)

pub returns-then-entry-eq0 : goal.returns-then-entry-eq0
returns-then-entry-eq0 c = both (length c.args.entry.text.now) (fine_fits _ (told_fine _ _ c.check.ensures _ c.in-Ok.is))

pub returns-in-NotUtf8 : goal.returns-in-NotUtf8
returns-in-NotUtf8 c =
    both (length c.args.entry.text.now) (ill_fits _ _ _ (told_refused _ _ c.check.ensures _ c.in-Err.is ∙ ap (λ k. refused (number_of k) c.in-Err.refusal.place c.in-Err.refusal.length) c.in-NotUtf8.is))

pub returns-in-NoToken : goal.returns-in-NoToken
returns-in-NoToken c =
    both (length c.args.entry.text.now) (unknown_fits _ _ _ (told_refused _ _ c.check.ensures _ c.in-Err.is ∙ ap (λ k. refused (number_of k) c.in-Err.refusal.place c.in-Err.refusal.length) c.in-NoToken.is))
