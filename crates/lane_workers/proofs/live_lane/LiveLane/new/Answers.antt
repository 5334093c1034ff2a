use Rattle.lane_workers.proofs.LiveBegun.{begins_live}
use Rattle.lane_workers.proofs.live_lane.LiveLane.new.Goals as goal

pub returns-clause-fresh : goal.returns-clause-fresh
returns-clause-fresh c = λ v t. begins_live v c.args.work c.args.pass t
