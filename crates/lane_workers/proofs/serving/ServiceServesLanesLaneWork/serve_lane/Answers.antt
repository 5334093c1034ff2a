use Rattle.std.proofs.Common.{◌≡◌, ◌+◌, ◌<◌, ℕ, Option, Some, Bor, List, length, refl, sym, ap, ◌∙◌, subst, arith, get_or}
use Rattle.std.specs.Prelude.{slice_get}
use Rattle.std.proofs.lemmas.Option.{slice_get-get_or}
use Rattle.batch_plans.specs.declared.plan.Plan.{Plan}
use Rattle.batch_plans.specs.declared.plan.CallLine.{CallLine}
use Rattle.shared_context.specs.Calls.{SharedView}
use Rattle.stamp_counter.specs.Seats.{CounterView}
use Rattle.context_books.specs.LaneCalls.{lane_calls}
use Rattle.lane_workers.specs.Lanes.{AreShared, LaneIsAt}
use Rattle.lane_workers.specs.declared.works.LaneWork.{LaneWork}
use Rattle.lane_workers.specs.Readings.{hears, with_more, MayAnswerAs}
use Rattle.lane_workers.proofs.Ended.{is_served}
use Rattle.lane_workers.proofs.Heard.{is_as_it_is, is_as_it_was, as_it_is}
use Rattle.lane_workers.proofs.Found.{lane_here}
use Rattle.context_books.proofs.Within.{calls_few}
use Rattle.lane_workers.proofs.serving.ServiceServesLanesLaneWork.serve_lane.Goals as goal

pub overflow_cast-call : goal.overflow_cast-call
overflow_cast-call g c =
    let v = c.args.self.now in
    let few = calls_few v.plan.now c.args.lane.now.lane c.requires.1.within c.requires.2.there in
    let found = lane_here v.plan.now.lanes c.args.lane.now.lane c.index-as_slice-lane.result
    c.requires.2.there (c.index-as_slice-lane.is
    ∙ ap (λ ls. get_or ls c.args.lane.now.lane c.index-as_slice-lane.result) c.as_slice.ensures.items) in
    let same = ap length (c.as_slice-lines.ensures.items ∙ found) in
    let low = c.calls-test.true in
    omega arith

-- the next call is the lane's
next_call : (plan : Plan) (contexts : List (Option SharedView)) (counter : Option (Bor CounterView))
    (lane call : ℕ) (w : LaneWork) (line : CallLine) → AreShared plan contexts counter
    → lane < length plan.lanes → slice_get (lane_calls plan lane) call ≡ Some line
    → LaneIsAt plan contexts counter lane call w
    → MayAnswerAs (as_it_is plan w) plan contexts counter call line w
next_call plan contexts counter lane call w line shared there at t =
    let is : w.lane ≡ lane = t.lane_is in
    record {
      may = record {
        shared = shared;
        there = subst (λ i. i < length plan.lanes) (sym is) there;
        at = ap (λ i. slice_get (lane_calls plan i) call) is ∙ at;
        is_at = subst (LaneIsAt plan contexts counter w.lane call) (sym (is_as_it_is plan w))
            (subst (λ i. LaneIsAt plan contexts counter i call w) (sym is) t);
      };
      bytes = record { pool = refl; items = refl };
      enough = omega arith;
    }

pub bounds-as_slice-lane : goal.bounds-as_slice-lane
bounds-as_slice-lane g c =
    subst (λ (ls : List (List CallLine)). c.args.lane.now.lane < length ls)
    (sym c.as_slice.ensures.items) c.requires.2.there

pub calls-init : goal.calls-init
calls-init g c = c.requires.2.is_at

pub reply-requires-after_bounds : goal.reply-requires-after_bounds
reply-requires-after_bounds g c κs within =
    let v = c.args.self.now in
    let plan = v.plan.now in
    let lane = c.args.lane.now.lane in
    let w = c.calls.lane in
    let lines = c.as_slice-lines.result.now in
    let found = lane_here plan.lanes lane c.index-as_slice-lane.result
    c.requires.2.there (c.index-as_slice-lane.is
    ∙ ap (λ ls. get_or ls lane c.index-as_slice-lane.result) c.as_slice.ensures.items) in
    let same : lines ≡ lane_calls plan lane = c.as_slice-lines.ensures.items ∙ found in (
      as_it_is plan w,
      next_call plan v.contexts.now v.counter lane c.calls.call w _ c.requires.1
          c.requires.2.there (ap (λ (ls : List CallLine). slice_get ls c.calls.call) (sym same)
          ∙ slice_get-get_or lines c.calls.call _ c.calls-test.true) c.calls.invariant,
    )

pub calls-preserved : goal.calls-preserved
calls-preserved g c =
    let v = c.args.self.now in
    let plan = v.plan.now in
    let lane = c.args.lane.now.lane in
    let w = c.calls.lane in
    let new = c.reply.new.work in
    let lines = c.as_slice-lines.result.now in
    let found = lane_here plan.lanes lane c.index-as_slice-lane.result
    c.requires.2.there (c.index-as_slice-lane.is
    ∙ ap (λ ls. get_or ls lane c.index-as_slice-lane.result) c.as_slice.ensures.items) in
    let same : lines ≡ lane_calls plan lane = c.as_slice-lines.ensures.items ∙ found in
    let one = c.reply.ensures (as_it_is plan w)
    (next_call plan v.contexts.now v.counter lane c.calls.call w _ c.requires.1
    c.requires.2.there (ap (λ (ls : List CallLine). slice_get ls c.calls.call) (sym same)
    ∙ slice_get-get_or lines c.calls.call _ c.calls-test.true) c.calls.invariant) in
    subst (LaneIsAt plan v.contexts.now v.counter lane (c.calls.call + 1))
    (is_as_it_was plan w new one.adds.more one.adds.replies)
    (subst (λ i. LaneIsAt plan v.contexts.now v.counter i (c.calls.call + 1)
    (hears (with_more (as_it_is plan w) one.adds.more) new)) c.calls.invariant.lane_is one.is_at)

pub returns : goal.returns
returns g c =
    let v = c.args.self.now in
    let plan = v.plan.now in
    let lane = c.args.lane.now.lane in
    let found = lane_here plan.lanes lane c.index-as_slice-lane.result
    c.requires.2.there (c.index-as_slice-lane.is
    ∙ ap (λ ls. get_or ls lane c.index-as_slice-lane.result) c.as_slice.ensures.items) in
    let size = ap length (c.as_slice-lines.ensures.items ∙ found) in
    let all : c.calls.call ≡ length (lane_calls plan lane) = omega (arith, size) in
    let done = subst (λ k. LaneIsAt plan v.contexts.now v.counter lane k c.calls.lane) all
    c.calls.invariant in
    record {
      lane = c.calls.invariant.lane_is;
      served = is_served plan v.contexts.now v.counter lane c.calls.lane done;
      is_at = done;
    }
