use Rattle.std.proofs.Common.{◌≡◌, ℕ, ◌+◌, ◌*◌, ◌<◌, length}
use Rattle.ring_core.specs.Product.{coefficients, conv}
use Rattle.ring_lanes.specs.Rows.{eighth}
use Rattle.ring_lanes.proofs.convolution.write_sums.Given as goal

abbrev pub invariant-loop-block : goal.invariant-loop-block
invariant-loop-block l = (length l.sums ≡ length l.initial.sums) × ((k : ℕ) → k < 32 * l.block → coefficients l.sums k ≡ conv (eighth l.factors) (coefficients l.long) (k + 32))
