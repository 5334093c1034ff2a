use Rattle.radix_pack.specs.Radix.{pair_bytes}
use Rattle.radix_pack.proofs.parts.pair_count.Goals as goal

pub returns-clause-count : goal.returns-clause-count
unfolding pair_bytes
returns-clause-count c = rw (c.from.ensures, c.from-2.ensures) at c.bytes_above.ensures
