use Rattle.std.proofs.Common.{◌≡◌, ◌≤◌, ◌∙◌, List, Option, None, All, refl, ap, get_or, sym, subst}
use Rattle.turn_lock.specs.Passes.{PassView}
use Rattle.batch_plans.specs.Limits.{items_of}
use Rattle.batch_plans.specs.declared.plan.CallLine.{CallLine}
use Rattle.lane_workers.specs.declared.works.LaneWork.{LaneWork}
use Rattle.context_books.specs.LaneCalls.{lane_calls}
use Rattle.lane_workers.specs.Returned.{IsGiven}
use Rattle.lane_workers.specs.LiveReturned.{IsPrepared}
use Rattle.lane_workers.proofs.Ended.{begins}
use Rattle.lane_workers.proofs.Found.{lane_here}
use Rattle.lane_workers.proofs.works.LaneWork.prepare.Goals as goal

pub returns : goal.returns
returns g c =
    let plan = c.args.plan.now in
    let lane = c.args.lane in
    let w : LaneWork = record {
      lane = lane;
      passes = c.into_vec.result;
      seat = c.args.seat;
      table = c.in_ok-table.table;
      steps = c.in_ok-table.steps;
      checks = c.new.result;
      progress = c.new-2.result;
      last_opening = None;
    } in
    let found = lane_here plan.lanes lane c.index-as_slice-lane.result c.requires.there
    (c.index-as_slice-lane.is
    ∙ ap (λ ls. get_or ls lane c.index-as_slice-lane.result) c.as_slice.ensures.items) in
    let calls : c.as_slice-2.result.now ≡ lane_calls plan lane = c.as_slice-2.ensures.items ∙ found in
    let most = subst (λ (cs : List CallLine). All (λ call. items_of call ≤ c.most_items-most.result) cs)
    calls c.most_items-most.ensures in
    let room : c.in_ok-table.table.room ≡ c.most_items-most.result = c.in_ok-table.ensures.table in
    let prepared : IsPrepared plan lane c.args.passes c.args.seat c.args.answers w = record {
      lane_is = refl;
      passes_are = c.into_vec.ensures.items;
      seat_is = refl;
      progress = c.new-2.ensures;
      rows = subst (λ i. All (λ call. items_of call ≤ i) (lane_calls plan lane)) (sym room) most;
      steps = subst (λ i. All (λ call. items_of call ≤ i) (lane_calls plan lane))
          (sym c.in_ok-table.ensures.steps) most;
      checks = c.new.ensures;
    } in
    record {
      lane = refl;
      fresh = λ contexts counter t. record {
        there = c.requires.there;
        is_at = begins plan contexts counter w c.args.answers
            (subst (λ (ps : List (Option PassView)). IsGiven plan contexts counter lane ps c.args.seat
            c.args.answers) (sym prepared.passes_are) t) prepared.progress prepared.rows prepared.steps
            prepared.checks;
      };
      prepared = prepared;
    }
