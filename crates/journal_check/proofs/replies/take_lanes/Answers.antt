use Rattle.std.proofs.Common.{◌<◌, ◌≤◌, List, [], length, get_or, subst}
use Rattle.std.proofs.lemmas.Result.{err_from_is_err_and}
use Rattle.batch_plans.specs.declared.plan.CallLine.{CallLine}
use Rattle.journal_check.proofs.Walks.{drop_next}
use Rattle.journal_check.specs.Served.{lane_due, all_due}
use Rattle.journal_check.specs.Walks.{run_in}
use Rattle.journal_check.proofs.Lanes.{go_on_lines, halt_lines, end_lines}
use Rattle.journal_check.proofs.replies.take_lanes.Goals as goal

pub returns-in_err-take_lane : goal.returns-in_err-take_lane
returns-in_err-take_lane c =
    let checked = c.args.checked.now in
    let table = checked.table in
    let run = run_in checked in
    let i = c.lanes.lane in
    let lanes = checked.plan.now.lanes in
    let e = err_from_is_err_and c.from_residual.result c.from_residual.ensures.1 in
    let lt = subst (λ (ls : List (List CallLine)). i < length ls) c.as_slice-lane-end.ensures.items c.lanes-test.true in
    rw (e.1, e.2)
    (halt_lines (lane_due table run) lanes i (get_or lanes i []) (drop_next lanes i [] lt) c.args.replies.now c.lanes.replies (all_due table run)
    c.lanes.invariant c.in_err-take_lane.field-0.0 c.take_lane.new.replies c.take_lane.new.replies c.in_err-take_lane.ensures)

pub lanes-preserved : goal.lanes-preserved
lanes-preserved c =
    let checked = c.args.checked.now in
    let table = checked.table in
    let run = run_in checked in
    let i = c.lanes.lane in
    let lanes = checked.plan.now.lanes in
    let lt = subst (λ (ls : List (List CallLine)). i < length ls) c.as_slice-lane-end.ensures.items c.lanes-test.true in
    go_on_lines (lane_due table run) lanes i (get_or lanes i []) (drop_next lanes i [] lt) c.args.replies.now c.lanes.replies (all_due table run)
    c.lanes.invariant c.take_lane.new.replies tt c.in_ok-take_lane.ensures

pub returns : goal.returns
returns c =
    let checked = c.args.checked.now in
    let table = checked.table in
    let run = run_in checked in
    let end = subst (λ (ls : List (List CallLine)). length ls ≤ c.lanes.lane) c.as_slice-lane-end.ensures.items c.lanes-test.false in
    end_lines (lane_due table run) checked.plan.now.lanes c.lanes.lane c.args.replies.now c.lanes.replies (all_due table run) end c.lanes.invariant
