use Rattle.std.proofs.Common.{length}
use Rattle.lane_workers.proofs.serving.+serve_group.Given as goal

abbrev pub decreases-serve_group : goal.decreases-serve_group
decreases-serve_group g l = length l.lanes.now
