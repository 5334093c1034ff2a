use Rattle.std.proofs.Common.{◌≡◌, ℕ, ◌*◌, length}
use Rattle.ring_core.specs.Product.{coefficients, conv}
use Rattle.ring_core.proofs.QuotientLaws.{below}
use Rattle.ring_karatsuba.proofs.sums.add_rows.Given as goal

abbrev pub invariant-loop-i : goal.invariant-loop-i
invariant-loop-i l =
    (length l.sums ≡ 2 * length l.long) × ((n : ℕ) → coefficients l.sums n ≡ conv (below l.i (coefficients l.small)) (coefficients l.long) n)
