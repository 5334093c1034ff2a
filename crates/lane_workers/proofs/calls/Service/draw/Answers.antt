use Rattle.std.proofs.Common.{refl, sym, ap, ◌∙◌}
use Rattle.std.specs.Prelude.{slice_set}
use Rattle.std.proofs.lemmas.List.{set-set}
use Rattle.lane_workers.proofs.Found.{is_there}
use Rattle.lane_workers.proofs.Taking.{pass_taken, may_take, counter_taken, note_taken}
use Rattle.lane_workers.proofs.calls.Service.draw.Goals as goal

pub unwrap-counter-requires : goal.unwrap-counter-requires
unwrap-counter-requires g c = is_there c.requires.turn.counter_is

pub unwrap-pass-requires : goal.unwrap-pass-requires
unwrap-pass-requires g c =
    is_there (pass_taken c.requires.turn c.index_mut.ensures.value c.take.ensures.value)

pub unwrap-seat-requires : goal.unwrap-seat-requires
unwrap-seat-requires g c = is_there (c.take-2.ensures.value ∙ c.requires.turn.has)

pub draw-drawn-requires-clause-may : goal.draw-drawn-requires-clause-may
draw-drawn-requires-clause-may g c =
    let t = c.requires.turn in
    may_take t c.unwrap-pass.result (sym c.unwrap-pass.ensures
    ∙ pass_taken t c.index_mut.ensures.value c.take.ensures.value)

pub draw-drawn-requires-clause-seals : goal.draw-drawn-requires-clause-seals
draw-drawn-requires-clause-seals g c = c.requires.seals

pub draw-drawn-requires-clause-counter : goal.draw-drawn-requires-clause-counter
draw-drawn-requires-clause-counter g c =
    counter_taken c.requires.turn c.unwrap-counter.result c.unwrap-counter.ensures

pub draw-drawn-requires-clause-seat : goal.draw-drawn-requires-clause-seat
draw-drawn-requires-clause-seat g c =
    note_taken c.requires.turn c.unwrap-counter.result c.unwrap-seat.result
    c.unwrap-counter.ensures (sym c.take-2.ensures.value ∙ c.unwrap-seat.ensures)

pub returns : goal.returns
returns g c =
    let t = c.requires.turn in
    record {
      pass = c.unwrap-pass.result;
      was = t.holds ∙ sym (pass_taken t c.index_mut.ensures.value c.take.ensures.value)
          ∙ c.unwrap-pass.ensures;
      after = c.draw-drawn.result.1;
      seat = c.unwrap-seat.result;
      had = sym c.take-2.ensures.value ∙ c.unwrap-seat.ensures;
      back = c.draw-drawn.result.2;
      has_drawn = c.draw-drawn.ensures;
      passes = set-set _ _ _ _
          ∙ ap (slice_set c.args.work.now.passes.items c.args.number) c.put.ensures;
      seat_is = c.put-2.ensures;
      same = record { lane = refl; table = refl; progress = refl };
      steps = refl;
      checks = refl;
    }
