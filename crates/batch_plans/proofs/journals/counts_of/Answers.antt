use Rattle.std.proofs.Common.{◌≡◌, length, get_or, sum_by, take, ap, ◌∙◌, arith}
use Rattle.std.proofs.lemmas.List.{take_all}
use Rattle.std.proofs.lemmas.List.FromFn.{fill_by_all}
use Rattle.batch_plans.specs.Limits.{items_of, all_items}
use Rattle.batch_plans.specs.Room.{all_items_on}
use Rattle.batch_plans.proofs.Counts.{lane_fits}
use Rattle.batch_plans.proofs.journals.counts_of.Goals as goal

pub count_lane-requires-clause-room : goal.count_lane-requires-clause-room
count_lane-requires-clause-room c = λ k lt.
    let contexts = c.args.contexts.now in
    let limits = c.args.export_limits.now in
    let lanes = c.as_slice-calls-items.result.now in
    let lane = c.calls-item.result in
    let counts = c.deref_mut.ensures.value in
    let count : get_or c.deref_mut.result.now k 0 ≡ get_or c.lanes.counts.items k 0 =
    ap (λ xs. get_or xs k 0) counts in
    let items : sum_by items_of c.as_slice.result.now ≡ sum_by items_of lane =
    ap (sum_by items_of) c.as_slice.ensures.items in
    let counted = c.lanes.invariant.counted k (omega (arith, lt, ap length counts)) in
    let fits =
    lane_fits contexts limits k lanes c.lanes.calls-index lane c.lanes-test.true c.calls-item.is in
    let all : all_items lanes ≡ all_items c.args.lanes.now =
    ap (λ lanes. all_items lanes) c.as_slice-calls-items.ensures.items in
    omega (arith, count, items, counted, fits, all, c.requires)

pub returns : goal.returns
returns c =
    let contexts = c.args.contexts.now in
    let limits = c.args.export_limits.now in
    let lanes = c.as_slice-calls-items.result.now in
    let size = c.lanes.invariant.size in
    let all : take c.lanes.calls-index lanes ≡ c.args.lanes.now =
    take_all c.lanes.calls-index lanes c.lanes-test.false ∙ c.as_slice-calls-items.ensures.items in
    fill_by_all (λ k. all_items_on contexts limits k c.args.lanes.now) c.lanes.counts.items
    (length contexts) 0 size
    (λ k lt. c.lanes.invariant.counted k (omega (arith, lt, size)) ∙ ap (all_items_on contexts limits k) all)
