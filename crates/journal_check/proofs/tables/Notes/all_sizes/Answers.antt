use Rattle.std.proofs.Common.{◌<◌, ◌+◌, ◌++◌, List, [], length, drop, get_or, ap, sym, ◌∙◌, arith}
use Rattle.std.proofs.lemmas.Grind.{common_steps}
use Rattle.std.proofs.lemmas.List.{get_or_default}
use Rattle.batch_plans.specs.declared.plan.CallLine.{CallLine}
use Rattle.journal_check.specs.declared.asks.Asked.{Asked}
use Rattle.journal_check.specs.Tables.{pairs_by, all_pairs_by}
use Rattle.journal_check.proofs.NotedCalls.{length_at, as_many_lanes, pairs_next}
use Rattle.journal_check.proofs.tables.Notes.all_sizes.Goals as goal

pub bounds-served-lane : goal.bounds-served-lane
bounds-served-lane c =
    omega (arith, c.lanes-test.true, as_many_lanes c.args.calls.now c.args.self.now.plan.now.lanes c.requires.sizes, ap length c.as_slice-served.ensures.items)

pub pair_sizes-requires-clause-size : goal.pair_sizes-requires-clause-size
pair_sizes-requires-clause-size c =
    let calls = c.args.calls.now in
    let lanes = c.args.self.now.plan.now.lanes in
    let i = c.lanes.lane in
    let many = as_many_lanes calls lanes c.requires.sizes in
    let low : i < length calls = c.lanes-test.true in
    let few : i < length lanes = omega arith in
    let d : List CallLine = c.index-served-lane.result in
    ap length (c.as_slice-in-lanes.ensures.items ∙ c.index-served-lane.is ∙ ap (λ (ls : List (List CallLine)). get_or ls i d) c.as_slice-served.ensures.items ∙ get_or_default lanes i d [] few)
    ∙ sym (length_at calls lanes c.requires.sizes i)
    ∙ sym (ap length (c.as_slice.ensures.items ∙ c.index-calls-lane.is ∙ get_or_default calls i _ [] low))

pub lanes-preserved : goal.lanes-preserved
lanes-preserved c =
    let self = c.args.self.now in
    let plan = self.plan.now in
    let contexts = self.contexts.now in
    let calls = c.args.calls.now in
    let i = c.lanes.lane in
    let many = as_many_lanes calls plan.lanes c.requires.sizes in
    let low : i < length calls = c.lanes-test.true in
    let few : i < length plan.lanes = omega arith in
    let d : List CallLine = c.index-served-lane.result in
    let own = c.as_slice.ensures.items ∙ c.index-calls-lane.is in
    let served = c.as_slice-in-lanes.ensures.items ∙ c.index-served-lane.is ∙ ap (λ (ls : List (List CallLine)). get_or ls i d) c.as_slice-served.ensures.items in
    ap (λ (made : List (List Asked)). made ++ all_pairs_by plan contexts self.table (drop (i + 1) calls) (drop (i + 1) plan.lanes)) c.in_ok-push.ensures.items
    ∙ pairs_next plan contexts self.table calls plan.lanes i _ d c.in_ok-own.own c.lanes.asks.items _ low few
    (c.in_ok-own.ensures ∙ (λ j. pairs_by plan contexts self.table (own j) (served j))) c.lanes.invariant

pub returns : goal.returns
returns c = grind (arith, common_steps)
