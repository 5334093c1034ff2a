use Rattle.std.proofs.Common.{◌++◌, ◌∷◌, List, [], map, take, sym, ap, ◌∙◌}
use Rattle.std.proofs.lemmas.List.{map_more}
use Rattle.batch_plans.specs.declared.plan.CallLine.{CallLine}
use Rattle.batch_plans.specs.Names.{at_position}
use Rattle.batch_plans.proofs.plan.Plan.lanes_at_positions.Goals as goal

pub lanes-preserved : goal.lanes-preserved
lanes-preserved c =
    let placed = map (at_position c.args.self.now) in
    let lanes = c.as_slice-calls-items.result.now in
    let i = c.lanes.calls-index in
    let so_far = map placed (take i lanes) in
    rw (c.in_ok-push.ensures.items, c.in_ok-lane_at_positions.ensures, c.lanes.invariant)
    (ap (λ (calls : List CallLine). so_far ++ placed calls ∷ []) (c.as_slice.ensures.items ∙ c.calls-item.is)
    ∙ sym (map_more placed lanes i c.calls-item.result c.lanes-test.true))
