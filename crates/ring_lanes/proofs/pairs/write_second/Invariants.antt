use Rattle.std.proofs.Common.{◌≡◌, ℕ, ◌+◌, ◌*◌, ◌<◌}
use Rattle.ring_core.specs.Product.{coefficients}
use Rattle.ring_lanes.proofs.pairs.write_second.Given as goal

abbrev pub invariant-loop-k : goal.invariant-loop-k
invariant-loop-k l = (i : ℕ) → i < l.k → coefficients l.half i ≡ coefficients l.list (2 * i + l.from)
