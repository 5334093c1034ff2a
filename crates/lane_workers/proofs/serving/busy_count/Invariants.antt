use Rattle.std.proofs.Common.{◌≤◌}
use Rattle.lane_workers.proofs.serving.busy_count.Given as goal

abbrev pub invariant-lanes : goal.invariant-lanes
invariant-lanes g l = l.busy ≤ l.lane-index
