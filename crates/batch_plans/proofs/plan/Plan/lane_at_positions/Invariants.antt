use Rattle.std.proofs.Common.{◌≡◌, map, take}
use Rattle.batch_plans.specs.Names.{at_position}
use Rattle.batch_plans.proofs.plan.Plan.lane_at_positions.Given as goal

abbrev pub invariant-calls : goal.invariant-calls
invariant-calls l = l.placed.items ≡ map (at_position l.self) (take l.call-index l.calls)
