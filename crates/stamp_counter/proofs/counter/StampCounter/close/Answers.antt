use Rattle.std.proofs.Common.{length, ap, ◌∙◌, subst, arith}
use Rattle.stamp_counter.specs.Seats.{SeatView, CounterView}
use Rattle.std.specs.Prelude.{IsPermutation}
use Rattle.std.specs.List.{range_with_len}
use Rattle.stamp_counter.proofs.Ends.{ends}
use Rattle.stamp_counter.proofs.counter.StampCounter.close.Goals as goal

pub free-requires : goal.free-requires
free-requires c = λ k below. absurd (omega arith)

pub returns : goal.returns
returns c =
    let drawn = ap (λ (v : SeatView). v.drawn) c.seat.view_is in
    let left = ap (λ (v : SeatView). v.left) c.seat.view_is in
    let all = ap (λ (v : CounterView). v.all) c.self.view_is in
    let e = ends _ c.seat.inside.seat.id c.seat.inside.seat.me.0 _ _ c.word-drawn.result (omega (arith, ap length drawn)) c.close_with-closed.ensures.values.2 c.word-drawn.ensures in
    record { count = e.0 ∙ ap length drawn; stamps = subst (λ l. IsPermutation l (range_with_len 0 c.word-drawn.result)) drawn e.1 }
