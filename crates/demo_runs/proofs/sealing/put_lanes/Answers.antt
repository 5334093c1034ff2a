use Rattle.std.proofs.Common.{ℕ, ◌<◌, List, [], length, get_or, refl, ap, subst, sym, ◌∙◌, arith}
use Rattle.std.specs.List.{flat_map}
use Rattle.std.proofs.lemmas.List.{take_all}
use Rattle.batch_plans.specs.declared.plan.CallLine.{CallLine}
use Rattle.demo_runs.specs.Steps.{IsSealedLane, AreLow, put_all}
use Rattle.demo_runs.proofs.Puts.{lane_here, lane_numbers, low_of_lane, same_count, put_lane_more, no_answers, answers_within}
use Rattle.demo_runs.proofs.sealing.put_lanes.Goals as goal

pub lanes-init : goal.lanes-init
lanes-init c = (refl, λ context numbers s low. refl)

pub put_lane-requires : goal.put_lane-requires
put_lane-requires c =
    subst (λ (n : ℕ). IsSealedLane n c.as_slice.result.now c.index-answered-lane.result) (sym c.lanes.invariant.0)
    (lane_here (length c.args.cts.now) c.args.plan.now.lanes c.as_slice-lanes.result.now c.args.answers.now.lanes c.as_slice-answered.result.now
    c.lanes.lane c.as_slice.result.now c.index-lanes-lane.result c.index-answered-lane.result c.requires
    c.as_slice-lanes.ensures.items c.as_slice-answered.ensures.items
    (let same = ap (λ (xs : List (List CallLine)). length xs) c.as_slice-lanes.ensures.items in omega arith)
    c.as_slice.ensures.items c.index-lanes-lane.is c.index-answered-lane.is)

pub lanes-preserved : goal.lanes-preserved
lanes-preserved c = (
  c.put_lane.ensures.len ∙ c.lanes.invariant.0,
  λ context numbers s low.
      let at = lane_numbers context numbers c.args.plan.now.lanes c.as_slice-lanes.result.now c.args.answers.now.lanes c.as_slice-answered.result.now
      c.lanes.lane c.as_slice.result.now c.index-lanes-lane.result c.index-answered-lane.result s
      c.as_slice-lanes.ensures.items c.as_slice-answered.ensures.items
      (let same = ap (λ (xs : List (List CallLine)). length xs) c.as_slice-lanes.ensures.items in omega arith)
      c.as_slice.ensures.items c.index-lanes-lane.is c.index-answered-lane.is in
      let within : c.lanes.lane < length numbers = at.0 in
      put_lane_more context c.lanes.cts c.put_lane.new.cts c.args.cts.now numbers c.lanes.lane within
      (c.lanes.invariant.1 context numbers s low)
      (c.put_lane.ensures.put context (get_or numbers c.lanes.lane []) at.1
      (subst (λ (n : ℕ). AreLow n context (get_or numbers c.lanes.lane [])) (sym c.lanes.invariant.0)
      (low_of_lane (length c.args.cts.now) context numbers c.lanes.lane low within))),
)

pub returns-clause-put : goal.returns-clause-put
returns-clause-put c = λ context numbers s low.
    let size = same_count context c.args.plan.now.lanes c.args.answers.now.lanes numbers s in
    let same = ap (λ (xs : List (List CallLine)). length xs) c.as_slice-lanes.ensures.items in
    c.lanes.invariant.1 context numbers s low
    ∙ ap (λ (all : List (List ℕ)). put_all context c.args.cts.now (flat_map (λ (ns : List ℕ). ns) all)) (take_all c.lanes.lane numbers (omega arith))

pub bounds-answered-lane : goal.bounds-answered-lane
bounds-answered-lane c =
    answers_within (length c.args.cts.now) c.args.plan.now.lanes c.as_slice-lanes.result.now c.args.answers.now.lanes c.as_slice-answered.result.now
    c.lanes.lane no_answers c.requires c.as_slice-answered.ensures.items
    (let same = ap (λ (xs : List (List CallLine)). length xs) c.as_slice-lanes.ensures.items in omega arith)

pub offset_bounds-answered-lane : goal.offset_bounds-answered-lane
offset_bounds-answered-lane c =
    let within : c.lanes.lane < length c.as_slice-answered.result.now =
    answers_within (length c.args.cts.now) c.args.plan.now.lanes c.as_slice-lanes.result.now c.args.answers.now.lanes c.as_slice-answered.result.now
    c.lanes.lane no_answers c.requires c.as_slice-answered.ensures.items
    (let same = ap (λ (xs : List (List CallLine)). length xs) c.as_slice-lanes.ensures.items in omega arith) in
    let size = c.as_slice-answered.type_inv in
    record { fits = omega (arith, size) }
