use Rattle.std.proofs.Common.{◌/◌, length, arith, rules}
use Rattle.std.proofs.lemmas.List.{take_at}
use Rattle.ring_core.proofs.ProductLaws.{length-zeros}
use Rattle.ring_lanes.proofs.pairs.second.Goals as goal

pub write_second-requires-clause-count : goal.write_second-requires-clause-count
write_second-requires-clause-count c =
    omega (arith, length-zeros (length c.args.list.now / 2) _ _ c.deref_mut.ensures.value (search rules))

pub returns-clause-places : goal.returns-clause-places
returns-clause-places c =
    rw (take_at c.write_second.new.half _ c.in_ok-half.half.len (omega arith)) c.write_second.ensures
