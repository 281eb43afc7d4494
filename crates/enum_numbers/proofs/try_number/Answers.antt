-- `enum_numbers::try_number` meets its contract.
use Rattle.enum_numbers.proofs.Meant.{refused_means, accepted_means}
use Rattle.enum_numbers.proofs.try_number.Goals as goal

pub returns-in_err-counts : goal.returns-in_err-counts
returns-in_err-counts c = refused_means _ _ _ _ _ _ _ c.read.ensures _ c.in_err-counts.was _ c.from_residual.ensures

pub returns : goal.returns
returns c = accepted_means _ _ _ _ _ _ _ c.read.ensures _ c.in_ok-counts.was _ _ c.number_members.ensures.means
