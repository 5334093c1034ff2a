use Rattle.std.proofs.Common.{◌<◌, length, arith}
use Rattle.call_places.specs.declared.spans.Item.{Item}
use Rattle.batch_plans.specs.declared.plan.CallLine.TheVariants.{Seal}
use Rattle.batch_plans.proofs.Counts.{counts_fit}
use Rattle.context_books.specs.ContextLines.{export_limits}
use Rattle.batch_plans.specs.Room.{items_on}
use Rattle.std.proofs.lemmas.List.Sums.{sum_by_more}
use Rattle.context_books.proofs.counting.count_lane.Goals as goal

pub count_call-requires-clause-room : goal.count_call-requires-clause-room
count_call-requires-clause-room c = λ k lt.
    let lines = c.requires.standing.0 in
    let limits = export_limits c.args.contexts.now in
    let so_far = c.calls.invariant lines c.requires.standing.1 k lt in
    let room = c.requires.room k (omega (arith, c.calls.auto.counts)) in
    omega (arith, so_far, room, counts_fit lines limits k c.args.calls.now c.calls.call-index)

pub calls-preserved : goal.calls-preserved
calls-preserved c = λ lines t k lt.
    let f = items_on lines (export_limits c.args.contexts.now) k in
    let nothing : Item = record {
      aad = record { start = 0; len = 0 };
      text = record { start = 0; len = 0 };
    } in
    let i = c.calls.call-index in
    let low : k < length c.calls.counts = omega (arith, lt) in
    omega (
      arith,
      c.count_call.ensures lines t k low,
      c.calls.invariant lines t k low,
      sum_by_more f c.args.calls.now i (Seal 0 nothing) c.calls-test.true,
    )
