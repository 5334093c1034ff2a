use Rattle.std.proofs.Common.{◌+◌, map}
use Rattle.std.specs.Int.{cast_signed, w16}
use Rattle.ring_core.specs.Product.{coefficients}
use Rattle.ring_lanes.specs.Rows.{eighth, rows_sum, AreLanes}
use Rattle.ring_lanes.proofs.convolution.eight_rows.Given as goal

abbrev pub invariant-loop-row : goal.invariant-loop-row
invariant-loop-row l = AreLanes (map (cast_signed w16) l.sums) (λ lane. rows_sum (λ i. eighth l.factors (l.first + i)) (coefficients l.long) (l.at + lane) l.row)
