use Rattle.radix_pack.proofs.Turns.{pair_radix_below, last_in_two}
use Rattle.radix_pack.proofs.laws.two_turns_are_enough.Goals as goal

pub returns-clause-pairs : goal.returns-clause-pairs
returns-clause-pairs c = pair_radix_below

pub returns-clause-last : goal.returns-clause-last
returns-clause-last c = last_in_two
