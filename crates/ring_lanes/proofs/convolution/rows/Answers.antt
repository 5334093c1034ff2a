use Rattle.std.proofs.Common.{◌≡◌, ℕ, ◌+◌, ◌-◌, ◌*◌, ◌^◌, ◌<◌, arith, ap, ◌∙◌}
use Rattle.std.specs.Prelude.{◌+ℤ◌, unsigned_abs}
use Rattle.ring_core.specs.Product.{Series, coefficients}
use Rattle.ring_lanes.specs.Rows.{eighth, rows_sum}
use Rattle.ring_lanes.proofs.Sums.{rows_within, group_next}
use Rattle.ring_lanes.proofs.Vectors.{AreLanes-same, zero_lanes, widened, widened_asks, widened_lanes, sums_asks_32, sums_lanes_32}
use Rattle.ring_lanes.proofs.convolution.rows.Goals as goal

pub loop-group-init : goal.loop-group-init
loop-group-init c = zero_lanes

pub overflow_cast-sums : goal.overflow_cast-sums
overflow_cast-sums c =
    widened_asks _ _ c.eight_rows-eight.ensures (λ l low. omega (arith, rows_within 4095 (λ i. eighth c.args.factors.now (c.args.first + 8 * c.loop-group.group + i)) (coefficients c.args.long.now) (c.args.at - 8 * c.loop-group.group + l) 8 (λ i. c.requires.factors_small (8 * (c.args.first + 8 * c.loop-group.group + i))) c.requires.long_small))

pub overflow_add-sums : goal.overflow_add-sums
overflow_add-sums c =
    let f : Series = eighth c.args.factors.now in
    let g : Series = coefficients c.args.long.now in
    let first = c.args.first in
    let at = c.args.at in
    let n = 8 * c.loop-group.group in
    let s : Series = λ l. rows_sum (λ i. f (first + i)) g (at + l) n in
    let t : Series = λ l. rows_sum (λ i. f (first + n + i)) g (at - n + l) 8 in
    let low : (l : ℕ) → l < 32 → unsigned_abs (t l) < 2 ^ 15 = λ l h. omega (arith, rows_within 4095 (λ i. f (first + n + i)) g (at - n + l) 8 (λ i. c.requires.factors_small (8 * (first + n + i))) c.requires.long_small) in
    sums_asks_32 c.loop-group.sums (widened c.eight_rows-eight.result) s t c.loop-group.invariant (widened_lanes c.eight_rows-eight.result t c.eight_rows-eight.ensures low) (λ l h. omega (
      arith,
      ap unsigned_abs (group_next f g first at n l (omega arith)),
      rows_within 4095 (λ i. f (first + i)) g (at + l) (n + 8) (λ i. c.requires.factors_small (8 * (first + i))) c.requires.long_small,
    ))

pub loop-group-preserved : goal.loop-group-preserved
loop-group-preserved c =
    let f : Series = eighth c.args.factors.now in
    let g : Series = coefficients c.args.long.now in
    let first = c.args.first in
    let at = c.args.at in
    let n = 8 * c.loop-group.group in
    let s : Series = λ l. rows_sum (λ i. f (first + i)) g (at + l) n in
    let t : Series = λ l. rows_sum (λ i. f (first + n + i)) g (at - n + l) 8 in
    let low : (l : ℕ) → l < 32 → unsigned_abs (t l) < 2 ^ 15 = λ l h. omega (arith, rows_within 4095 (λ i. f (first + n + i)) g (at - n + l) 8 (λ i. c.requires.factors_small (8 * (first + n + i))) c.requires.long_small) in
    AreLanes-same _ (λ l. s l +ℤ t l) (λ l. rows_sum (λ i. f (first + i)) g (at + l) (8 * (c.loop-group.group + 1))) (λ l h. group_next f g first at n l (omega arith) ∙ ap (rows_sum (λ i. f (first + i)) g (at + l)) (let e : n + 8 ≡ 8 * (c.loop-group.group + 1) = omega arith in e))
    (sums_lanes_32 c.loop-group.sums (widened c.eight_rows-eight.result) s t c.loop-group.invariant (widened_lanes c.eight_rows-eight.result t c.eight_rows-eight.ensures low) (λ l h. omega (
      arith,
      ap unsigned_abs (group_next f g first at n l (omega arith)),
      rows_within 4095 (λ i. f (first + i)) g (at + l) (n + 8) (λ i. c.requires.factors_small (8 * (first + i))) c.requires.long_small,
    )))
