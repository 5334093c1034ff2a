use Rattle.sntrup_core.proofs.Bound.{sums_bounded}
use Rattle.sntrup_core.proofs.laws.sums_are_bounded.Goals as goal

pub returns : goal.returns
returns c = sums_bounded
