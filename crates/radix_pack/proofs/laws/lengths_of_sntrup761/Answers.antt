use Rattle.radix_pack.proofs.Lengths.{rq_length_761, rounded_length_761}
use Rattle.radix_pack.proofs.laws.lengths_of_sntrup761.Goals as goal

pub returns-clause-rq : goal.returns-clause-rq
returns-clause-rq c = rq_length_761

pub returns-clause-rounded : goal.returns-clause-rounded
returns-clause-rounded c = rounded_length_761
