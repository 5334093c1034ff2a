use Rattle.std.proofs.Common.{◌+◌, ◌*◌, map}
use Rattle.std.specs.Int.{cast_signed, w32}
use Rattle.ring_core.specs.Product.{coefficients}
use Rattle.ring_lanes.specs.Rows.{eighth, rows_sum, AreLanes}
use Rattle.ring_lanes.proofs.convolution.rows.Given as goal

abbrev pub invariant-loop-group : goal.invariant-loop-group
invariant-loop-group l = AreLanes (map (cast_signed w32) l.sums) (λ lane. rows_sum (λ i. eighth l.factors (l.first + i)) (coefficients l.long) (l.at + lane) (8 * l.group))
