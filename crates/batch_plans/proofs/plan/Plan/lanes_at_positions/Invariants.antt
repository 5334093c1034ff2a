use Rattle.std.proofs.Common.{◌≡◌, map, take}
use Rattle.batch_plans.specs.Names.{at_position}
use Rattle.batch_plans.proofs.plan.Plan.lanes_at_positions.Given as goal

abbrev pub invariant-lanes : goal.invariant-lanes
invariant-lanes l =
    l.lanes.items ≡ map (map (at_position l.self)) (take l.calls-index l.calls-items)
