use Rattle.std.proofs.Common.{◌≡◌, Bor, Option, Some, refl, sym, ap, ◌∙◌, subst, arith}
use Rattle.std.proofs.lemmas.Grind.{elements}
use Rattle.context_books.specs.Live.{Noting}
use Rattle.lane_workers.specs.LiveLanes.{lives, IsToldLive}
use Rattle.stamp_counter.specs.Seats.{CounterView, SeatView}
use Rattle.shared_context.specs.Stamped.{IsNote}
use Rattle.lane_workers.proofs.Found.{is_there, one_of}
use Rattle.lane_workers.proofs.LiveNoting.{may_note, noted}
use Rattle.turn_lock.specs.Passes.{PassView}
use Rattle.lane_workers.proofs.live_calls.LiveService.note.Goals as goal

pub unwrap-counter-requires : goal.unwrap-counter-requires
unwrap-counter-requires g c = is_there c.requires.1.shared.counted.1

pub unwrap-pass-requires : goal.unwrap-pass-requires
unwrap-pass-requires g c = is_there (c.take.ensures.value ∙ c.requires.1.is_at.holds)

pub unwrap-seat-requires : goal.unwrap-seat-requires
unwrap-seat-requires g c =
    let t = c.requires.1 in
    let seat = t.is_at.seat t.shared.counted.0 t.shared.counted.1 in
    is_there (c.take-2.ensures.value ∙ seat.1)

pub note-live-requires-clause-may : goal.note-live-requires-clause-may
note-live-requires-clause-may g c =
    let a = c.args.self.now in
    let v = lives a.service.plan.now a.service.contexts.now a.table.now a.service.counter in
    let t = c.requires.1 in
    may_note v c.args.lane.now.work.lane c.args.call c.requires.0 t.at c.args.lane.now t.is_at t.shared
    t.there (record { act = c.args.act; name = c.args.name }) c.requires.2 c.unwrap-pass.result c.unwrap-seat.result
    (sym c.take.ensures.value ∙ c.unwrap-pass.ensures) (sym c.take-2.ensures.value ∙ c.unwrap-seat.ensures)

pub note-live-requires-clause-name : goal.note-live-requires-clause-name
note-live-requires-clause-name g c = grind (arith, elements)

pub note-live-requires-clause-counter : goal.note-live-requires-clause-counter
note-live-requires-clause-counter g c =
    let counted = c.requires.1.shared.counted in
    counted.2 ∙ ap (λ (x : Bor CounterView). x.now.id)
    (one_of counted.0 c.unwrap-counter.result (sym counted.1 ∙ c.unwrap-counter.ensures))

pub note-live-requires-clause-seat : goal.note-live-requires-clause-seat
note-live-requires-clause-seat g c =
    let counter = c.unwrap-counter.result in
    let has = c.requires.1.is_at.seat counter c.unwrap-counter.ensures in
    let seat : Some has.0 ≡ Some c.unwrap-seat.result = sym has.1 ∙ sym c.take-2.ensures.value
    ∙ c.unwrap-seat.ensures in
    subst (λ (x : SeatView). IsNote counter.now.id x) (one_of has.0 c.unwrap-seat.result seat) has.2

pub returns : goal.returns
returns g c =
    let a = c.args.self.now in
    let v = lives a.service.plan.now a.service.contexts.now a.table.now a.service.counter in
    let t = c.requires.1 in
    let n : Noting = record { act = c.args.act; name = c.args.name } in
    let u = noted v c.args.lane.now.work.lane c.args.call c.requires.0 t.at c.args.lane.now t.is_at
    t.shared t.there n c.requires.2 c.unwrap-pass.result c.unwrap-seat.result
    (sym c.take.ensures.value ∙ c.unwrap-pass.ensures) (sym c.take-2.ensures.value ∙ c.unwrap-seat.ensures)
    c.note-live.result.1 c.note-live.result.2 c.note-live.result.0 c.note-live.ensures in
    let lane = c.args.lane.now in
    let done = c.note-live.result in
    let told : IsToldLive v c.args.call done.0 lane
    (record lane { work = record lane.work { seat = Some done.2 }; pass = Some done.1 }) =
    record { noted = record { lane = refl; is_at = u.0 }; tells = u.1 } in
    subst (λ (seat : Option SeatView). IsToldLive v c.args.call done.0 lane
    (record lane { work = record lane.work { seat = seat }; pass = c.put.new.slot }))
    (sym c.put-2.ensures)
    (subst (λ (pass : Option PassView). IsToldLive v c.args.call done.0 lane
    (record lane { work = record lane.work { seat = Some done.2 }; pass = pass }))
    (sym c.put.ensures) told)
