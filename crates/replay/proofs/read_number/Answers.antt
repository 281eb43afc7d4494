-- `replay::read_number` meets its contract.
use Rattle.std.proofs.Common.{ℕ, rules, subst, sym}
use Rattle.replay.specs.List.{ReadsNumber}
use Rattle.replay.proofs.Filled.{number_filled}
use Rattle.replay.proofs.read_number.Goals as goal

pub returns : goal.returns
returns g c =
    let before = g.R.Read.remaining c.args.input.now in
    let after = g.R.Read.remaining c.read_full.new.input in
    subst (λ (n : ℕ). ReadsNumber n before after) (sym c.number.ensures) (number_filled _ _ before after (search rules) c.in_ok-read_full.ensures.bytes)
