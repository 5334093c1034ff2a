use Rattle.lane_workers.specs.Lanes.{LaneIsAt}
use Rattle.lane_workers.proofs.serving.ServiceServesLanesLaneWork.serve_lane.Given as goal

abbrev pub invariant-calls : goal.invariant-calls
invariant-calls g l = LaneIsAt l.self.plan.now l.self.contexts.now l.self.counter l.fn.lane.lane l.call l.lane
