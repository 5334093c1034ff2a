use Rattle.std.proofs.Common.{◌+◌, ◌<◌, ◌^◌, sym, arith}
use Rattle.std.proofs.lemmas.List.Sums.{sum_by_more, get_or-le-sum_by}
use Rattle.batch_plans.specs.Room.{call_room, call_replies, call_batches, most_room}
use Rattle.batch_plans.proofs.Rooms.{room_fits, replies_fit, batches_fit}
use Rattle.batch_plans.proofs.room.lane_needs.Goals as goal

pub call_needs-more-requires-clause-small : goal.call_needs-more-requires-clause-small
call_needs-more-requires-clause-small c =
    let most = most_room c.args.plan.now.items in
    omega (arith, get_or-le-sum_by most c.args.calls.now c.calls.call-index)

pub overflow_add-needs : goal.overflow_add-needs
overflow_add-needs c =
    let sum : c.calls.needs.room + c.call_needs-more.result.room < 2 ^ 32 =
    rw (c.calls.invariant.room, c.call_needs-more.ensures.room)
    (room_fits c.args.plan.now c.args.export_limits.now c.args.calls.now c.calls.call-index _
    c.calls-test.true c.requires) in
    omega arith

pub overflow_add-needs-in-calls : goal.overflow_add-needs-in-calls
overflow_add-needs-in-calls c =
    let sum : c.calls.needs.replies + c.call_needs-more.result.replies < 2 ^ 32 =
    rw (c.calls.invariant.replies, c.call_needs-more.ensures.replies)
    (replies_fit c.args.plan.now c.args.export_limits.now c.args.calls.now c.calls.call-index _
    c.calls-test.true c.requires) in
    omega arith

pub overflow_add-needs-in-calls-2 : goal.overflow_add-needs-in-calls-2
overflow_add-needs-in-calls-2 c =
    let sum : c.calls.needs.batches + c.call_needs-more.result.batches < 2 ^ 32 =
    rw (c.calls.invariant.batches, c.call_needs-more.ensures.batches)
    (batches_fit c.args.plan.now c.args.export_limits.now c.args.calls.now c.calls.call-index _
    c.calls-test.true c.requires) in
    omega arith

pub calls-preserved : goal.calls-preserved
calls-preserved c =
    let plan = c.args.plan.now in
    let limits = c.args.export_limits.now in
    let calls = c.args.calls.now in
    let i = c.calls.call-index in
    let lt = c.calls-test.true in
    record {
      room = rw (c.calls.invariant.room, c.call_needs-more.ensures.room)
          (sym (sum_by_more (call_room plan limits) calls i _ lt));
      replies = rw (c.calls.invariant.replies, c.call_needs-more.ensures.replies)
          (sym (sum_by_more (call_replies plan limits) calls i _ lt));
      batches = rw (c.calls.invariant.batches, c.call_needs-more.ensures.batches)
          (sym (sum_by_more (call_batches plan limits) calls i _ lt));
    }
