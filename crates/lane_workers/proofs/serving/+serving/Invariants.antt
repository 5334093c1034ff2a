use Rattle.std.proofs.Common.{◌+◌, ◌*◌}
use Rattle.lane_workers.proofs.serving.+serving.Given as goal

abbrev pub decreases-serve_by : goal.decreases-serve_by
decreases-serve_by g l = 3 * l.workers

abbrev pub decreases-serve_beside : goal.decreases-serve_beside
decreases-serve_beside g l = 3 * l.workers + 2

abbrev pub decreases-serve_beside-join_mut+arg3 : goal.decreases-serve_beside-join_mut+arg3
decreases-serve_beside-join_mut+arg3 g l = 3 * l.workers + 1
