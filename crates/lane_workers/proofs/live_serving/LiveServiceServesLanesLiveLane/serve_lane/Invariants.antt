use Rattle.lane_workers.specs.LiveLanes.{lives, LiveLaneIsAt}
use Rattle.lane_workers.proofs.live_serving.LiveServiceServesLanesLiveLane.serve_lane.Given as goal

abbrev pub invariant-calls : goal.invariant-calls
invariant-calls g l =
    LiveLaneIsAt (lives l.self.service.plan.now l.self.service.contexts.now l.self.table.now
    l.self.service.counter) l.fn.lane.work.lane l.call l.call l.lane
