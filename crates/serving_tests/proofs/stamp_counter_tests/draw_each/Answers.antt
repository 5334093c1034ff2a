use Rattle.std.proofs.Common.{length, ap, arith, length-append}
use Rattle.std.specs.List.{range_with_len}
use Rattle.std.proofs.lemmas.List.FromFn.{length-range_with_len}
use Rattle.stamp_counter.specs.Seats.{SeatView}
use Rattle.serving_tests.proofs.stamp_counter_tests.draw_each.Goals as goal

pub loop-preserved : goal.loop-preserved
loop-preserved c =
    let i = c.loop.invariant in
    let d = c.draw.ensures.seat in
    let drawn = ap (λ (s : SeatView). length s.drawn) d in
    let left = ap (λ (s : SeatView). s.left) d in
    let a = length-append c.loop.seat.drawn (range_with_len c.draw.result 1) in
    let b = length-range_with_len c.draw.result 1 in (
      (ap (λ (s : SeatView). s.counter) d, omega arith),
      omega arith,
    )
