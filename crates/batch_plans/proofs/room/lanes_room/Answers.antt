use Rattle.std.proofs.Common.{◌≡◌, ◌<◌, List, [], ◌∷◌, ◌++◌, length, map, take, get_or, sym, ◌∙◌, ap, subst, arith}
use Rattle.std.proofs.lemmas.List.{length-map, map_more}
use Rattle.batch_plans.specs.declared.plan.CallLine.{CallLine}
use Rattle.batch_plans.specs.Names.{at_position}
use Rattle.batch_plans.specs.Room.{lane_room, IsLaneWithin}
use Rattle.batch_plans.proofs.Positions.{live_lane_within}
use Rattle.batch_plans.proofs.room.lanes_room.Goals as goal

pub lane_room-requires : goal.lane_room-requires
lane_room-requires c =
    let plan = c.args.plan.now in
    let i = c.lanes.calls-index in
    let lane = c.calls-item.result in
    let lanes = c.as_slice-calls-items.ensures.items ∙ c.requires.lanes in
    let here : c.as_slice.result.now ≡ get_or (map (map (at_position plan)) plan.lanes) i lane =
    c.as_slice.ensures.items ∙ c.calls-item.is ∙ ap (λ lanes. get_or lanes i lane) lanes in
    let lt : i < length plan.lanes =
    omega (arith, c.lanes-test.true, ap length lanes, length-map plan.lanes (map (at_position plan))) in
    subst (IsLaneWithin plan) (sym here) (live_lane_within plan c.requires.within i lane lt)

pub lanes-preserved : goal.lanes-preserved
lanes-preserved c =
    let room = lane_room c.args.plan.now c.args.export_limits.now in
    let lanes = c.as_slice-calls-items.result.now in
    let i = c.lanes.calls-index in
    let so_far = map room (take i lanes) in
    rw (c.in_ok-push.ensures.items, c.in_ok-lane_room.ensures, c.lanes.invariant)
    (ap (λ (calls : List CallLine). so_far ++ room calls ∷ []) (c.as_slice.ensures.items ∙ c.calls-item.is)
    ∙ sym (map_more room lanes i c.calls-item.result c.lanes-test.true))
