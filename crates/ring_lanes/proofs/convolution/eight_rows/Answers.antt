use Rattle.std.proofs.Common.{◌+◌, ◌-◌, ◌*◌, ℤ, arith}
use Rattle.std.specs.Prelude.{◌+ℤ◌, ◌*ℤ◌}
use Rattle.ring_core.specs.Product.{Series, coefficients}
use Rattle.ring_lanes.specs.Rows.{eighth, rows_sum}
use Rattle.ring_lanes.proofs.Vectors.{AreLanes-same, zero_lanes, row, copies_loaded, row_asks, row_lanes, sums_asks_16, sums_lanes_16}
use Rattle.ring_lanes.proofs.Sums.{row_bound, row_next}
use Rattle.ring_lanes.proofs.convolution.eight_rows.Goals as goal

pub loop-row-init : goal.loop-row-init
loop-row-init c = zero_lanes

pub overflow_mul-sums : goal.overflow_mul-sums
overflow_mul-sums c =
    let i = c.args.first + c.loop-row.row in
    rw (copies_loaded c.args.factors.now i (omega arith) c.requires.copies) (row_asks c.args.long.now (c.args.at - c.loop-row.row) (eighth c.args.factors.now i) (omega arith) c.requires.long_small (c.requires.factors_small (8 * i)))

pub overflow_add-sums : goal.overflow_add-sums
overflow_add-sums c =
    let f : Series = eighth c.args.factors.now in
    let g : Series = coefficients c.args.long.now in
    let n = c.loop-row.row in
    let p = c.args.at - n in
    let factor : ℤ = f (c.args.first + n) in
    rw (copies_loaded c.args.factors.now (c.args.first + n) (omega arith) c.requires.copies) (sums_asks_16 c.loop-row.sums (row c.args.long.now p factor) (λ l. rows_sum (λ i. f (c.args.first + i)) g (c.args.at + l) n) (λ l. g (p + l) *ℤ factor) c.loop-row.invariant (row_lanes c.args.long.now p factor (omega arith) c.requires.long_small (c.requires.factors_small (8 * (c.args.first + n)))) (λ l low. row_bound f g c.args.first c.args.at n l (omega arith) (omega arith) (λ i. c.requires.factors_small (8 * i)) c.requires.long_small))

pub loop-row-preserved : goal.loop-row-preserved
loop-row-preserved c =
    let f : Series = eighth c.args.factors.now in
    let g : Series = coefficients c.args.long.now in
    let n = c.loop-row.row in
    let p = c.args.at - n in
    let factor : ℤ = f (c.args.first + n) in
    rw (copies_loaded c.args.factors.now (c.args.first + n) (omega arith) c.requires.copies) (AreLanes-same _ (λ l. rows_sum (λ i. f (c.args.first + i)) g (c.args.at + l) n +ℤ g (p + l) *ℤ factor) (λ l. rows_sum (λ i. f (c.args.first + i)) g (c.args.at + l) (n + 1)) (λ l low. row_next f g c.args.first c.args.at n l (omega arith))
    (sums_lanes_16 c.loop-row.sums (row c.args.long.now p factor) (λ l. rows_sum (λ i. f (c.args.first + i)) g (c.args.at + l) n) (λ l. g (p + l) *ℤ factor) c.loop-row.invariant (row_lanes c.args.long.now p factor (omega arith) c.requires.long_small (c.requires.factors_small (8 * (c.args.first + n)))) (λ l low. row_bound f g c.args.first c.args.at n l (omega arith) (omega arith) (λ i. c.requires.factors_small (8 * i)) c.requires.long_small)))
