use Rattle.lane_workers.proofs.LiveWhole.{live_whole}
use Rattle.lane_workers.proofs.laws.live_lanes_make_a_run.Goals as goal

pub returns : goal.returns
returns c = live_whole
