use Rattle.std.proofs.Common.{◌≡◌, ◌<◌, length, get_or, ap, ◌∙◌, arith}
use Rattle.result_lines.proofs.Limited.{calls_few}
use Rattle.batch_alone.proofs.tables.table.Goals as goal

pub serve_lane-requires-clause-few : goal.serve_lane-requires-clause-few
serve_lane-requires-clause-few c =
    let plan = c.args.plan.now in
    let l = c.lanes.lane in
    let items = c.as_slice-calls-items.ensures.items in
    let is : c.as_slice.result.now ≡ get_or plan.lanes l c.calls-item.result =
    c.as_slice.ensures.items ∙ c.calls-item.is ∙ ap (λ ls. get_or ls l c.calls-item.result) items in
    let low : l < length plan.lanes = omega (arith, c.lanes-test.true, ap length items) in
    omega (arith, ap length is, calls_few plan l c.calls-item.result c.requires.within low)
