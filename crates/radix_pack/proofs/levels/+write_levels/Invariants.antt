use Rattle.std.proofs.Common.{length}
use Rattle.radix_pack.proofs.levels.+write_levels.Given as goal

abbrev pub decreases-write_levels : goal.decreases-write_levels
decreases-write_levels l = length l.digits.now
