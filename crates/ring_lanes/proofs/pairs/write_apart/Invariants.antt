use Rattle.std.proofs.Common.{◌≡◌, ℕ, ◌+◌, ◌*◌, ◌<◌, ◌≤◌, pos, length}
use Rattle.std.specs.Prelude.{◌+ℤ◌, ◌*ℤ◌, unsigned_abs}
use Rattle.ring_core.specs.Product.{Series, coefficients}
use Rattle.ring_lanes.proofs.pairs.write_apart.Given as goal

abbrev pub invariant-loop-k : goal.invariant-loop-k
invariant-loop-k l = (c : Series) → ((k : ℕ) → unsigned_abs (c k) ≤ 1023) → ((k : ℕ) → k < length l.even → coefficients l.even k +ℤ coefficients l.odd k ≡ c (2 * k) +ℤ (pos 2048 *ℤ c (2 * k + 1))) → (k : ℕ) → k < 2 * l.k → coefficients l.sums k ≡ c k
