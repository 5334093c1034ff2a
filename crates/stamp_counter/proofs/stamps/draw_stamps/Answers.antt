use Rattle.std.proofs.Common.{ap, arith}
use Rattle.stamp_counter.specs.Seats.{SeatView}
use Rattle.call_places.proofs.Stamps.{StampsBelow-weaker}
use Rattle.stamp_counter.proofs.stamps.draw_stamps.Goals as goal

pub returns-clause-after : goal.returns-clause-after
returns-clause-after c = λ before below.
    let joined = ap (λ (s : SeatView). s.low) c.join.ensures in
    let drawn = ap (λ (s : SeatView). s.low) c.draw-first.ensures.seat in
    let noted = c.note.ensures.noted in
    let low = ap (λ (s : SeatView). s.low) noted in
    let least = c.draw-first.ensures.least in record {
      least = omega arith;
      later = StampsBelow-weaker c.args.own.now.low c.draw-first.result before (omega arith) below;
      above = omega arith;
      note = record {
        counter_is = ap (λ (s : SeatView). s.counter) noted;
        drawn = ap (λ (s : SeatView). s.drawn) noted;
        left = ap (λ (s : SeatView). s.left) noted;
      };
    }
