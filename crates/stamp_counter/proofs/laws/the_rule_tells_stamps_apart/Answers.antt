use Rattle.stamp_counter.proofs.Apart.{none_twice, one_drew}
use Rattle.stamp_counter.proofs.laws.the_rule_tells_stamps_apart.Goals as goal

pub returns : goal.returns
returns c = record { seat = none_twice; seats = one_drew }
