use Rattle.std.proofs.Common.{◌≡◌, length}
use Rattle.ghash_core.specs.Hash.{sum_after, padded_blocks}
use Rattle.ghash_core.specs.Rows.{element}
use Rattle.ghash_core.proofs.hash.hash_blocks.Given as goal

abbrev pub invariant-loop-rest : goal.invariant-loop-rest
invariant-loop-rest l = sum_after l.key (element l.sum) (padded_blocks l.rest) ≡ sum_after l.key (element l.fn.sum) (padded_blocks l.fn.bytes)

abbrev pub decreases-loop-rest : goal.decreases-loop-rest
decreases-loop-rest l = length l.rest
