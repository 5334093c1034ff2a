use Rattle.std.proofs.Common.{arith}
use Rattle.batch_plans.proofs.Counts.{counts_fit}
use Rattle.batch_plans.proofs.journals.count_lane.Goals as goal

pub count_call-requires-clause-room : goal.count_call-requires-clause-room
count_call-requires-clause-room c = λ k lt.
    let contexts = c.args.contexts.now in
    let limits = c.args.export_limits.now in
    let so_far = c.calls.invariant k lt in
    let room = c.requires.room k (omega (arith, c.calls.auto.counts)) in
    omega (arith, so_far, room, counts_fit contexts limits k c.args.calls.now c.calls.call-index)
