use Rattle.std.proofs.Common.{◌≡◌, take}
use Rattle.std.specs.List.{sum_by}
use Rattle.batch_plans.specs.Room.{call_room, call_replies, call_batches}
use Rattle.batch_plans.proofs.room.lane_needs.Given as goal

abbrev pub invariant-calls : goal.invariant-calls
invariant-calls l =
    let calls = take l.call-index l.calls in
    record {
      room : l.needs.room ≡ sum_by (call_room l.plan l.export_limits) calls;
      replies : l.needs.replies ≡ sum_by (call_replies l.plan l.export_limits) calls;
      batches : l.needs.batches ≡ sum_by (call_batches l.plan l.export_limits) calls;
    }
