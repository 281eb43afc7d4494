-- `replay::read_answer` meets its contract.
use Rattle.replay.proofs.Heads.{refusal_read, counts_read}
use Rattle.replay.proofs.read_answer.Goals as goal

pub returns-then-refusal-ne0 : goal.returns-then-refusal-ne0
returns-then-refusal-ne0 g c =
    refusal_read _ _ _ _ _ _ _ c.in_ok-read_number.ensures c.in_ok-read_number-2.ensures c.in_ok-read_number-3.ensures c.if-refusal-ne0.true

pub returns : goal.returns
returns g c =
    counts_read _ _ _ _ _ _ _ _ _ _ _ c.in_ok-read_number.ensures c.in_ok-read_number-2.ensures c.in_ok-read_number-3.ensures c.in_ok-read_number-4.ensures c.in_ok-read_number-5.ensures c.if-refusal-ne0.false
