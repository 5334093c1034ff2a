use Rattle.std.proofs.Common.{◌≡◌, take, map}
use Rattle.batch_plans.specs.Room.{lane_room}
use Rattle.batch_plans.proofs.room.lanes_room.Given as goal

abbrev pub invariant-lanes : goal.invariant-lanes
invariant-lanes l =
    l.rooms.items ≡ map (lane_room l.plan l.export_limits) (take l.calls-index l.calls-items)
