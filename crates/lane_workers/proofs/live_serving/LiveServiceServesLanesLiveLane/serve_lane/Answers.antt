use Rattle.std.proofs.Common.{◌≡◌, ◌+◌, ◌<◌, ℕ, Option, Some, List, length, sym, ap, ◌∙◌, subst, arith, get_or}
use Rattle.std.specs.Prelude.{slice_get}
use Rattle.std.proofs.lemmas.Option.{slice_get-get_or}
use Rattle.batch_plans.specs.declared.plan.CallLine.{CallLine}
use Rattle.context_books.specs.LaneCalls.{lane_calls}
use Rattle.context_books.proofs.Within.{calls_few}
use Rattle.lane_workers.specs.declared.live_lane.LiveLane.{LiveLane}
use Rattle.turn_lock.specs.Passes.{PassView}
use Rattle.lane_workers.specs.Groups.{answers_in}
use Rattle.lane_workers.specs.LiveLanes.{LiveView, lives, standing, AreSharedLive, LiveLaneIsAt, MayAnswerLive}
use Rattle.lane_workers.specs.LiveReturned.{IsDoneLive}
use Rattle.lane_workers.specs.LiveServed.{LiveLaneIsServed}
use Rattle.lane_workers.specs.Served.{seen_by}
use Rattle.lane_workers.proofs.LiveEnded.{is_served}
use Rattle.lane_workers.proofs.Found.{lane_here}
use Rattle.lane_workers.proofs.live_serving.LiveServiceServesLanesLiveLane.serve_lane.Goals as goal

pub overflow_cast-call : goal.overflow_cast-call
overflow_cast-call g c =
    let plan = c.args.self.now.service.plan.now in
    let lane = c.args.lane.now.work.lane in
    let few = calls_few plan lane c.requires.1.within c.requires.2.there in
    let found = lane_here plan.lanes lane c.index-as_slice-lane.result c.requires.2.there
    (c.index-as_slice-lane.is
    ∙ ap (λ ls. get_or ls lane c.index-as_slice-lane.result) c.as_slice.ensures.items) in
    let same = ap length (c.as_slice-lines.ensures.items ∙ found) in
    let low = c.calls-test.true in
    omega arith

-- the next call is the lane's
next_call : (v : LiveView) (lane call : ℕ) (line : CallLine) (l : LiveLane) → AreSharedLive v
    → lane < length v.plan.lanes → slice_get (lane_calls v.plan lane) call ≡ Some line
    → LiveLaneIsAt v lane call call l → MayAnswerLive v call line l
next_call v lane call line l shared there at t =
    let is : l.work.lane ≡ lane = t.lane_is in
    record {
      shared = shared;
      there = omega arith;
      at = ap (λ i. slice_get (lane_calls v.plan i) call) is ∙ at;
      is_at = subst (λ i. LiveLaneIsAt v i call call l) (sym is) t;
    }

pub answer-requires-clause-may : goal.answer-requires-clause-may
answer-requires-clause-may g c κs within =
    let s = c.args.self.now in
    let v = lives s.service.plan.now s.service.contexts.now s.table.now s.service.counter in
    let lane = c.args.lane.now.work.lane in
    let lines = c.as_slice-lines.result.now in
    let found = lane_here v.plan.lanes lane c.index-as_slice-lane.result c.requires.2.there
    (c.index-as_slice-lane.is
    ∙ ap (λ ls. get_or ls lane c.index-as_slice-lane.result) c.as_slice.ensures.items) in
    let same : lines ≡ lane_calls v.plan lane = c.as_slice-lines.ensures.items ∙ found in
    next_call v lane c.calls.call _ c.calls.lane c.requires.1 c.requires.2.there
    (ap (λ (ls : List CallLine). slice_get ls c.calls.call) (sym same)
    ∙ slice_get-get_or lines c.calls.call _ c.calls-test.true) c.calls.invariant

pub bounds-as_slice-lane : goal.bounds-as_slice-lane
bounds-as_slice-lane g c =
    subst (λ (ls : List (List CallLine)). c.args.lane.now.work.lane < length ls)
    (sym c.as_slice.ensures.items) c.requires.2.there

pub calls-init : goal.calls-init
calls-init g c = c.requires.2.is_at

pub calls-preserved : goal.calls-preserved
calls-preserved g c =
    let s = c.args.self.now in
    let v = lives s.service.plan.now s.service.contexts.now s.table.now s.service.counter in
    subst (λ i. LiveLaneIsAt v i (c.calls.call + 1) (c.calls.call + 1) c.answer.new.lane)
    c.calls.invariant.lane_is c.answer.ensures.is_at

pub returns : goal.returns
returns g c =
    let s = c.args.self.now in
    let v = lives s.service.plan.now s.service.contexts.now s.table.now s.service.counter in
    let lane = c.args.lane.now.work.lane in
    let found = lane_here v.plan.lanes lane c.index-as_slice-lane.result c.requires.2.there
    (c.index-as_slice-lane.is
    ∙ ap (λ ls. get_or ls lane c.index-as_slice-lane.result) c.as_slice.ensures.items) in
    let size = ap length (c.as_slice-lines.ensures.items ∙ found) in
    let end : c.calls.call ≡ length (lane_calls v.plan lane) = omega arith in
    let l = c.calls.lane in
    let same = c.calls.invariant.lane_is in
    let done : IsDoneLive v l =
    subst (λ i. LiveLaneIsAt v i (length (lane_calls v.plan i)) (length (lane_calls v.plan i)) l)
    (sym same) (subst (λ n. LiveLaneIsAt v lane n n l) end c.calls.invariant) in
    record {
      lane = same;
      served = λ replies adds. subst (λ i. LiveLaneIsServed v.plan replies (standing v) i (seen_by l.pass)
          l.work.passes.items (answers_in l.work)) same
          (subst (λ (p : Option PassView). LiveLaneIsServed v.plan replies (standing v) l.work.lane
          (seen_by p) l.work.passes.items (answers_in l.work)) (sym done.holds)
          (is_served v c.requires.1 l done replies adds));
      done = done;
    }
