-- A call that is served fits into what its lane has.
use Rattle.std.proofs.Common.{◌≡◌, ℕ, ◌+◌, ◌-◌, ◌≤◌, List, length, All, Option, Bor, sum_by, sym, ap, ◌∙◌, subst, arith}
use Rattle.call_places.specs.declared.spans.Item.{Item as Spans}
use Rattle.call_places.specs.Spans.{ItemIsInPool}
use Rattle.stamp_counter.specs.Seats.{CounterView}
use Rattle.shared_context.specs.Calls.{SharedView}
use Rattle.batch_plans.specs.declared.plan.Plan.{Plan}
use Rattle.batch_plans.specs.declared.plan.CallLine.{CallLine}
use Rattle.batch_plans.specs.Limits.{items_of}
use Rattle.batch_plans.specs.Within.{IsCallWithin}
use Rattle.batch_plans.specs.Room.{opened_room, served_room}
use Rattle.context_books.specs.LaneCalls.{opening_items, IsOpening, lane_calls}
use Rattle.context_books.proofs.Within.{of_call, opening_count, opening_spans, opening_room}
use Rattle.context_books.proofs.Rooms.{FindsRoom}
use Rattle.lane_workers.specs.declared.works.LaneWork.{LaneWork}
use Rattle.lane_workers.specs.Readings.{Reading, heard, hears, MayServeAs}
use Rattle.lane_workers.proofs.Answering.{fits, finds_room}
use Rattle.lane_workers.proofs.Heard.{items_same, spans_here}

-- the call is within the plan's limits, and finds its room
pub fit_of : {r : Reading} {plan : Plan} {contexts : List (Option SharedView)}
    {counter : Option (Bor CounterView)} {call : ℕ} {line : CallLine} {s : SharedView} {w : LaneWork}
    → MayServeAs r plan contexts counter call line s w
    → IsCallWithin (length r.plan.items) (length r.plan.pool) line
fit_of {r} {plan} {contexts} {counter} {call} {line} {s} {w} m =
    fits r.plan contexts counter call line (hears r w) m.may.may

pub room_of : {r : Reading} {plan : Plan} {contexts : List (Option SharedView)}
    {counter : Option (Bor CounterView)} {call : ℕ} {line : CallLine} {s : SharedView} {w : LaneWork}
    → MayServeAs r plan contexts counter call line s w → FindsRoom r.plan line (heard r w.progress)
room_of {r} {plan} {contexts} {counter} {call} {line} {s} {w} m =
    finds_room r.plan contexts counter call line (hears r w) m.may.may m.may.free

-- ---- the items of an opening

pub record OpeningFits (pool : List ℕ) (w : LaneWork) (items : List Spans) : Type 0 where
  pub spans : All (ItemIsInPool (length pool)) items
  pub rows : length items ≤ w.table.room
  pub steps : length items ≤ length w.steps.items
  pub room : w.progress.taken + sum_by opened_room items ≤ length w.progress.pool
  pub left : length items ≤ w.progress.left

pub opening_fits : {r : Reading} {plan : Plan} {contexts : List (Option SharedView)}
    {counter : Option (Bor CounterView)} {call : ℕ} {line : CallLine} {s : SharedView} {w : LaneWork}
    {items : List Spans} → MayServeAs r plan contexts counter call line s w → IsOpening line
    → items ≡ opening_items plan line → OpeningFits plan.pool w items
opening_fits {r} {plan} {contexts} {counter} {call} {line} {s} {w} {items} m opening is =
    let may = m.may.may in
    let fit = fit_of m in
    let same = is ∙ sym (items_same r.plan plan line m.bytes) in
    let size = ap length same in
    let count = opening_count r.plan line opening fit in
    let rows = of_call (λ x. items_of x ≤ w.table.room) (lane_calls r.plan w.lane) call line
    may.is_at.rows may.at in
    let steps = of_call (λ x. items_of x ≤ length w.steps.items) (lane_calls r.plan w.lane) call
    line may.is_at.steps may.at in
    let found = room_of m in
    let room : w.progress.taken + served_room r.plan.items line ≤ length w.progress.pool = found.room in
    let left : items_of line ≤ w.progress.left - r.blanks = found.left in
    record {
      spans = subst (λ (xs : List Spans). All (ItemIsInPool (length plan.pool)) xs) (sym is)
          (spans_here r.plan plan line m.bytes (opening_spans r.plan line may.shared.within fit));
      rows = omega arith;
      steps = omega arith;
      room = omega (
        arith,
        room,
        opening_room r.plan line opening,
        ap (sum_by opened_room) same,
      );
      left = omega arith;
    }
