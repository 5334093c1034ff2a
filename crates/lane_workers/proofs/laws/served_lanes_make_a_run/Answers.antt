use Rattle.lane_workers.proofs.Whole.{whole}
use Rattle.lane_workers.proofs.laws.served_lanes_make_a_run.Goals as goal

pub returns : goal.returns
returns c = whole
