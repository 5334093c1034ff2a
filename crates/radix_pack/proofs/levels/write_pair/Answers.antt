use Rattle.radix_pack.specs.Radix.{pair_bytes, pair_radix}
use Rattle.radix_pack.proofs.levels.write_pair.Goals as goal

pub returns-clause-bytes : goal.returns-clause-bytes
unfolding pair_bytes
returns-clause-bytes c = c.write_low_bytes.ensures.bytes

pub returns-clause-digit : goal.returns-clause-digit
unfolding pair_bytes pair_radix
returns-clause-digit c = c.write_low_bytes.ensures.left
